use Rattle.std.proofs.Common.{map, refl}
use Rattle.c_syntax.specs.Types.{object_tree}
use Rattle.mem_intervals.proofs.UnderSteps.{leave_leaves}
use Rattle.csharp.specs.States.{State}
use Rattle.mem_objects.specs.Cells.{ended}
use Rattle.mem_objects.specs.Copies.{without_all}
use Rattle.mem_one_state.specs.One.{IsOf}
use Rattle.mem_intervals.specs.Passed.{kept_for}
use Rattle.mem_intervals.specs.Sets.{IsIn}
use Rattle.mem_intervals.proofs.InSteps.{IsInSet, itself, like, leave_in}
use Rattle.mem_intervals.proofs.states.IntervalStatesMemDomain.leave.Goals as goal
use Rattle.csharp.specs.Actions as acts

pub returns-clause-plain : goal.returns-clause-plain
returns-clause-plain c = λ p h.
    leave_leaves (map object_tree c.args.self.now.objects) c.args.self.now.temps.types c.args.self.now.temps.ranges c.args.self.now.temps.passed
    c.keep_for.new.self c.args.self.now.cells c.leave.new.self c.args.self.now.copies c.forget_objects.new.self c.args.names.now c.keep_for.ensures
    c.leave.ensures c.forget_objects.ensures p h

behind : (c : goal.After-leave-2) (s : State) → IsInSet c.args.self.now c.args.self.now.one s → IsOf c.leave-2.new.self (acts.leave c.args.names.now s)
    → IsIn (map object_tree c.args.self.now.objects) c.args.self.now.temps.types c.args.self.now.temps.ranges c.keep_for.new.self c.leave.new.self
    c.forget_objects.new.self c.leave-2.new.self (acts.leave c.args.names.now s)
behind c s h is =
    let m = c.args.self.now in
    let os = map object_tree m.objects in
    let xs = c.args.names.now in
    let one = c.leave-2.new.self in
    like os m.temps.types m.temps.types m.temps.ranges m.temps.ranges (kept_for xs m.temps.passed) c.keep_for.new.self (ended xs m.cells) c.leave.new.self
    (without_all xs m.copies) c.forget_objects.new.self one one (acts.leave xs s) refl refl c.keep_for.ensures c.leave.ensures c.forget_objects.ensures refl
    (leave_in os m.temps.types m.temps.ranges m.temps.passed m.cells m.copies m.one one xs s h is)

pub returns-clause-stands : goal.returns-clause-stands
returns-clause-stands c = λ s h. behind c s h (c.leave-2.ensures.stands s h.same)

pub returns-clause-sharp : goal.returns-clause-sharp
returns-clause-sharp c = λ s h.
    let one = c.leave-2.ensures.sharp s h.0 in (one, h.1, behind c s h.2 (itself c.leave-2.new.self (acts.leave c.args.names.now s) one))
