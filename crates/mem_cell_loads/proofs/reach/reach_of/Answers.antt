use Rattle.std.proofs.Common.{ℕ, ◌≡◌, subst, true}
use Rattle.std.specs.Prelude.{option_map}
use Rattle.pointsets.specs.declared.Base.TheVariants.{Object}
use Rattle.pointsets.specs.Targets.{has_base}
use Rattle.block_mem.specs.Bytes.{size_of}
use Rattle.machine_nums.specs.MExprs.{mexpr_tree}
use Rattle.csharp.specs.Trees.{csexpr_tree}
use Rattle.mem_cell_bytes.specs.Stands.{Has}
use Rattle.mem_cell_exprs.specs.Known.{IsPlaceFor}
use Rattle.mem_cell_exprs.proofs.Options.{some-at}
use Rattle.mem_cell_loads.proofs.Leads.{leads-there}
use Rattle.mem_cell_loads.proofs.reach.reach_of.Goals as goal

pub returns-in-Some-steps_in-clause-leads : goal.returns-in-Some-steps_in-clause-leads
returns-in-Some-steps_in-clause-leads g c =
    let admits = g.D.Oracle.admits in let known = c.args.known.now in let e = csexpr_tree c.args.address.now in
    let place = c.in-Some.place in let objects = c.in-Some-2.objects in let steps = c.in-Some-steps_in.steps in
    let there = some-at (λ p. IsPlaceFor admits known e p.set (option_map mexpr_tree p.offset)) c.in_ok-place.field-0 place c.in-Some.is c.in_ok-place.ensures in
    let at = subst (λ o. IsPlaceFor admits known e place.set (option_map mexpr_tree o)) c.in-Some-offset.is there in
    let named = some-at (λ os. (o : ℕ) → has_base place.set (Object o) ≡ true → Has os.items o) c.in_ok-objects.field-0 objects c.in-Some-2.is c.in_ok-objects.ensures in
    leads-there admits known e (size_of c.args.ty) place.set (mexpr_tree c.in-Some-offset.offset) c.in_ok-number_range.field-0
    (record { objects = objects; first = steps.first; end = steps.end; step = c.step_of-step.result }) c.step_of-step.ensures.value at named
    c.in_ok-number_range.ensures c.in-Some-steps_in.ensures
