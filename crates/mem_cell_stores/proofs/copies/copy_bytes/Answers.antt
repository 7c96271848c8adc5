use Rattle.std.proofs.Common.{◌≤◌, arith}
use Rattle.std.proofs.lemmas.Result.{on_ok_weaker}
use Rattle.csharp.specs.Trees.{csexpr_tree}
use Rattle.mem_cell_exprs.proofs.Options.{some-at}
use Rattle.mem_cell_loads.specs.Places.{LeadsThere}
use Rattle.mem_cell_stores.proofs.copies.copy_bytes.Goals as goal

pub returns-then-size-eq0 : goal.returns-then-size-eq0
returns-then-size-eq0 g c =
    let to = csexpr_tree c.args.to.now in let size = c.args.size in
    record { types = c.forget_all.ensures.types; stands = on_ok_weaker c.forget_all.result (λ law from. law to from size) c.forget_all.ensures.stands }

pub returns-in-Some : goal.returns-in-Some
returns-in-Some g c =
    let to = csexpr_tree c.args.to.now in let none = c.if-size-eq0.false in
    let some : 1 ≤ c.args.size = omega (arith, none) in
    let leads = some-at (LeadsThere g.D.Oracle.admits c.args.known.now to 1) c.in_ok-reach.field-0 c.in-Some.reach c.in-Some.is c.in_ok-reach.ensures.leads in
    record { types = c.forget_reach.ensures.types; stands = on_ok_weaker c.forget_reach.result (λ law from. law to from some leads) c.forget_reach.ensures.stands }

pub returns-in-None : goal.returns-in-None
returns-in-None g c =
    let to = csexpr_tree c.args.to.now in let size = c.args.size in
    record { types = c.forget_all-in-None.ensures.types; stands = on_ok_weaker c.forget_all-in-None.result (λ law from. law to from size) c.forget_all-in-None.ensures.stands }
