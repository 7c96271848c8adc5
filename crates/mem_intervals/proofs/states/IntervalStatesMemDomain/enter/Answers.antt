use Rattle.std.proofs.Common.{◌≡◌, ◌<◌, ◌∙◌, List, length, Some, map, sym, subst, ap, refl}
use Rattle.std.specs.Prelude.{All}
use Rattle.c_syntax.specs.Types.{ObjectTree, object_tree}
use Rattle.plain_runs.specs.Changes.{plain_enter}
use Rattle.mem_objects.specs.Cells.{entered}
use Rattle.mem_intervals.proofs.UnderSteps.{always, enter_leaves}
use Rattle.std.proofs.lemmas.Result.{on_ok_weaker}
use Rattle.c_syntax.specs.declared.types.Object.{Object}
use Rattle.csharp.specs.Trees.{CsProgramTree}
use Rattle.csharp.specs.States.{State}
use Rattle.mem_objects.specs.Copies.{without_all}
use Rattle.mem_one_state.specs.One.{IsOf}
use Rattle.mem_intervals.specs.Passed.{kept_for}
use Rattle.mem_intervals.specs.Sets.{IsIn}
use Rattle.mem_intervals.proofs.InSteps.{IsInSet, itself, like, enter_in}
use Rattle.mem_intervals.proofs.states.IntervalStatesMemDomain.enter.Goals as goal
use Rattle.csharp.specs.Actions as acts

pub returns-clause-plain : goal.returns-clause-plain
returns-clause-plain c = always c.enter-2.result (λ q p r same h g.
    enter_leaves (map object_tree c.args.self.now.objects) c.args.self.now.temps.types c.args.self.now.temps.ranges c.args.self.now.temps.passed
    c.keep_for.new.self c.args.self.now.cells c.enter.new.self c.args.self.now.copies c.forget_objects.new.self c.args.names.now c.keep_for.ensures
    (c.enter.ensures ∙ ap (λ os. entered (map object_tree os) c.args.names.now c.args.self.now.cells) c.as_slice.ensures) c.forget_objects.ensures
    (subst (λ (os : List ObjectTree). All (λ x. x < length os) c.args.names.now) (sym c.requires.1.0) c.requires.2.numbers.2) p r h
    (subst (λ (os : List ObjectTree). plain_enter os c.args.names.now p ≡ Some r) (sym same.0) g))

behind : (c : goal.After-enter-2) (q : CsProgramTree) (s : State) → map object_tree c.args.self.now.objects ≡ q.objects
    → IsInSet c.args.self.now c.args.self.now.one s → IsOf c.enter-2.new.self (acts.enter (map object_tree c.args.self.now.objects) c.args.names.now s)
    → IsIn (map object_tree c.args.self.now.objects) c.args.self.now.temps.types c.args.self.now.temps.ranges c.keep_for.new.self c.enter.new.self
    c.forget_objects.new.self c.enter-2.new.self (acts.enter q.objects c.args.names.now s)
behind c q s same h is =
    let m = c.args.self.now in
    let os = map object_tree m.objects in
    let xs = c.args.names.now in
    let one = c.enter-2.new.self in
    like os m.temps.types m.temps.types m.temps.ranges m.temps.ranges (kept_for xs m.temps.passed) c.keep_for.new.self (entered os xs m.cells) c.enter.new.self
    (without_all xs m.copies) c.forget_objects.new.self one one (acts.enter q.objects xs s) refl refl c.keep_for.ensures
    (c.enter.ensures ∙ ap (λ (l : List Object). entered (map object_tree l) xs m.cells) c.as_slice.ensures) c.forget_objects.ensures refl
    (enter_in os m.temps.types m.temps.ranges m.temps.passed m.cells m.copies m.one one c.requires.0 q xs s c.requires.1.0 same c.requires.2.numbers.2 h is)

pub returns-clause-stands : goal.returns-clause-stands
returns-clause-stands c = on_ok_weaker c.enter-2.result (λ stands q s same free h. behind c q s same.0 h
    (subst (λ (l : List Object). IsOf c.enter-2.new.self (acts.enter (map object_tree l) c.args.names.now s)) c.as_slice-2.ensures (stands s h.same)))
    c.enter-2.ensures.stands

pub returns-clause-sharp : goal.returns-clause-sharp
returns-clause-sharp c =
    let os = map object_tree c.args.self.now.objects in
    let xs = c.args.names.now in
    on_ok_weaker c.enter-2.result (λ sharp q s same free h.
    let one = sharp s h.0 ∙ ap (λ (l : List Object). Some (acts.enter (map object_tree l) xs s)) c.as_slice-2.ensures in (
      one ∙ ap (λ (ys : List ObjectTree). Some (acts.enter ys xs s)) same.0,
      h.1,
      behind c q s same.0 h.2 (itself c.enter-2.new.self (acts.enter os xs s) one),
    )) c.enter-2.ensures.sharp
