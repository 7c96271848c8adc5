use Rattle.std.proofs.Common.{◌≡◌}
use Rattle.std.proofs.lemmas.Result.{on_ok_weaker}
use Rattle.block_mem.specs.Bytes.{size_of}
use Rattle.csharp.specs.Trees.{csexpr_tree}
use Rattle.mem_cell_exprs.proofs.Options.{some-at}
use Rattle.mem_cell_loads.specs.declared.reach.Reach.{Reach}
use Rattle.mem_cell_loads.specs.Places.{LeadsThere}
use Rattle.mem_cell_stores.proofs.Reached.{leads-to}
use Rattle.mem_cell_stores.proofs.stores.store.Goals as goal

pub returns-in-Some-only_spot : goal.returns-in-Some-only_spot
returns-in-Some-only_spot g c =
    let admits = g.D.Oracle.admits in let known = c.args.known.now in let e = csexpr_tree c.args.address.now in let size = size_of c.args.ty in
    let leads = some-at (LeadsThere admits known e size) c.in_ok-reach.field-0 c.in-Some.reach c.in-Some.is c.in_ok-reach.ensures.leads in
    record {
      types = c.store_at.ensures.types;
      stands = on_ok_weaker c.store_at.result (λ law. law e (leads-to admits known e size c.in-Some.reach c.in-Some-only_spot.spot leads c.in-Some-only_spot.ensures)) c.store_at.ensures.stands;
    }

pub returns-in-Some : goal.returns-in-Some
returns-in-Some g c =
    let admits = g.D.Oracle.admits in let known = c.args.known.now in let e = csexpr_tree c.args.address.now in let f = csexpr_tree c.args.value.now in
    let leads = some-at (LeadsThere admits known e (size_of c.args.ty)) c.in_ok-reach.field-0 c.in-Some.reach c.in-Some.is c.in_ok-reach.ensures.leads in
    record {
      types = c.store_weakly.ensures.types;
      stands = on_ok_weaker c.store_weakly.result (λ law. law e (some-at (λ (r : Reach). r.step ≡ size_of c.args.ty) c.in_ok-reach.field-0 c.in-Some.reach c.in-Some.is c.in_ok-reach.ensures.step) leads) c.store_weakly.ensures.stands;
    }

pub returns : goal.returns
returns g c =
    let e = csexpr_tree c.args.address.now in let f = csexpr_tree c.args.value.now in let ty = c.args.ty in
    record {
      types = c.forget_all.ensures.types;
      stands = on_ok_weaker c.forget_all.result (λ law. law ty e f) c.forget_all.ensures.stands;
    }
