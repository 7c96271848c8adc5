use Rattle.std.proofs.Common.{map, ◌≡◌, ◌∙◌, refl, Some, None}
use Rattle.c_syntax.specs.Types.{object_tree}
use Rattle.mem_intervals.proofs.UnderSteps.{renamed, undefine_leaves}
use Rattle.std.specs.Prelude.{option_map, slice_set}
use Rattle.csharp.specs.States.{State}
use Rattle.mem_objects.specs.Cells.{cell_of, undefined_cell}
use Rattle.mem_objects.specs.Copies.{without}
use Rattle.mem_one_state.specs.One.{IsOf}
use Rattle.mem_one_state.proofs.Moves.{undefines_inputs}
use Rattle.mem_intervals.specs.Sets.{IsIn}
use Rattle.mem_intervals.proofs.InSteps.{IsInSet, itself, like, undefine_in}
use Rattle.mem_intervals.proofs.states.IntervalStatesMemDomain.undefine.Goals as goal
use Rattle.csharp.specs.Actions as acts

pub returns-clause-plain : goal.returns-clause-plain
returns-clause-plain c = λ p r h g.
    renamed (map object_tree c.args.self.now.objects) c.args.self.now.temps.types c.pass_on.new.self.types c.args.self.now.temps.ranges c.pass_on.new.self.ranges
    c.pass_on.new.self.passed c.undefine.new.self c.forget_object.new.self r c.pass_on.ensures.kept.0 c.pass_on.ensures.kept.1
    (undefine_leaves (map object_tree c.args.self.now.objects) c.args.self.now.temps.types c.args.self.now.temps.ranges c.args.self.now.temps.passed
    c.pass_on.new.self.passed c.args.self.now.cells c.undefine.new.self c.args.self.now.copies c.forget_object.new.self c.args.object c.undefine.ensures
    c.forget_object.ensures p r h g)

behind : (c : goal.After-undefine-2) (s t : State) → IsInSet c.args.self.now c.args.self.now.one s → acts.undefine c.args.object s ≡ Some t
    → IsOf c.undefine-2.new.self t → IsIn (map object_tree c.args.self.now.objects) c.pass_on.new.self.types c.pass_on.new.self.ranges c.pass_on.new.self.passed
    c.undefine.new.self c.forget_object.new.self c.undefine-2.new.self t
behind c s t h g is =
    let m = c.args.self.now in
    let os = map object_tree m.objects in
    let ts = c.pass_on.new.self in
    let x = c.args.object in
    let one = c.undefine-2.new.self in
    like os m.temps.types ts.types m.temps.ranges ts.ranges None ts.passed (slice_set m.cells x (option_map undefined_cell (cell_of m.cells x)))
    c.undefine.new.self (without x m.copies) c.forget_object.new.self one one t c.pass_on.ensures.kept.0 c.pass_on.ensures.kept.1 c.pass_on.ensures.passed
    c.undefine.ensures c.forget_object.ensures refl
    (undefine_in os m.temps.types m.temps.ranges m.temps.passed m.cells m.copies m.one one x s t h g is)

pub returns-clause-stands : goal.returns-clause-stands
returns-clause-stands c = λ s t h g. behind c s t h g (c.undefine-2.ensures.stands s t h.same g)

pub returns-clause-sharp : goal.returns-clause-sharp
returns-clause-sharp c = λ s t h g.
    let one = c.undefine-2.ensures.sharp s t h.0 g in
    (one, undefines_inputs c.args.object s t g ∙ h.1, behind c s t h.2 g (itself c.undefine-2.new.self t one))
