use Rattle.std.proofs.Common.{◌≡◌, ◌∙◌, List, Some, map, refl, subst, ap, None}
use Rattle.std.specs.Prelude.{slice_set}
use Rattle.c_syntax.specs.Types.{object_tree}
use Rattle.block_mem.specs.declared.types.Scalar.{Scalar}
use Rattle.csharp.specs.Trees.{csexpr_tree}
use Rattle.plain_runs.specs.Changes.{plain_set}
use Rattle.mem_intervals.proofs.UnderSteps.{always, renamed, set_leaves}
use Rattle.std.proofs.lemmas.Result.{on_ok_weaker}
use Rattle.csharp.specs.States.{State}
use Rattle.mem_objects.specs.Copies.{source_in}
use Rattle.mem_one_state.specs.One.{IsOf}
use Rattle.mem_one_state.proofs.Moves.{sets_inputs}
use Rattle.mem_intervals.specs.Sets.{IsIn}
use Rattle.mem_intervals.proofs.InSteps.{IsInSet, itself, like, set_in}
use Rattle.mem_intervals.proofs.states.IntervalStatesMemDomain.set.Goals as goal
use Rattle.csharp.specs.Actions as acts

pub returns-clause-plain : goal.returns-clause-plain
returns-clause-plain c = always c.set.result (λ q p r same h g.
    renamed (map object_tree c.args.self.now.objects) c.args.self.now.temps.types c.put.new.self.types c.put.new.self.ranges c.put.new.self.ranges
    c.put.new.self.passed c.args.self.now.cells c.put-2.new.self r c.put.ensures.types refl
    (set_leaves c.requires.0 (map object_tree c.args.self.now.objects) c.args.self.now.temps.types c.args.self.now.temps.ranges c.put.new.self.ranges
    c.args.self.now.temps.passed c.put.new.self.passed c.args.self.now.cells c.args.self.now.copies c.put-2.new.self c.args.temp (csexpr_tree c.args.value.now)
    c.known_range-range.result c.requires.1.1 c.put.ensures.ranges (c.put-2.ensures ∙ ap (slice_set c.args.self.now.copies c.args.temp) c.source-source.ensures)
    c.requires.2 c.known_range-range.ensures p r h
    (subst (λ (ts : List Scalar). plain_set ts p c.args.temp (csexpr_tree c.args.value.now) ≡ Some r) same.1 g)))

behind : (c : goal.After-set) (s t : State) → IsInSet c.args.self.now c.args.self.now.one s → acts.set c.args.temp (csexpr_tree c.args.value.now) s ≡ Some t
    → IsOf c.set.new.self t → IsIn (map object_tree c.args.self.now.objects) c.put.new.self.types c.put.new.self.ranges c.put.new.self.passed
    c.args.self.now.cells c.put-2.new.self c.set.new.self t
behind c s t h g is =
    let m = c.args.self.now in
    let os = map object_tree m.objects in
    let ts = c.put.new.self in
    let e = csexpr_tree c.args.value.now in
    let r = c.known_range-range.result in
    let one = c.set.new.self in
    like os m.temps.types ts.types (slice_set m.temps.ranges c.args.temp r) ts.ranges None ts.passed m.cells m.cells
    (slice_set m.copies c.args.temp (source_in m.copies e)) c.put-2.new.self one one t c.put.ensures.types c.put.ensures.ranges c.put.ensures.passed refl
    (c.put-2.ensures ∙ ap (slice_set m.copies c.args.temp) c.source-source.ensures) refl
    (set_in os m.temps.types m.temps.ranges m.temps.passed m.cells m.copies m.one one c.requires.0 c.args.temp e r c.requires.1.1 c.requires.2
    c.known_range-range.ensures s t h g is)

pub returns-clause-stands : goal.returns-clause-stands
returns-clause-stands c = on_ok_weaker c.set.result (λ stands s t h g. behind c s t h g (stands s t h.same g)) c.set.ensures.stands

pub returns-clause-sharp : goal.returns-clause-sharp
returns-clause-sharp c = on_ok_weaker c.set.result (λ sharp s t h g.
    let one = sharp s t h.0 g in
    (one, sets_inputs c.args.temp (csexpr_tree c.args.value.now) s t g ∙ h.1, behind c s t h.2 g (itself c.set.new.self t one))) c.set.ensures.sharp
