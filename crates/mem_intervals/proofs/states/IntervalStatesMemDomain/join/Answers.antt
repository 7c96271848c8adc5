use Rattle.std.proofs.Common.{map, refl, None}
use Rattle.c_syntax.specs.Types.{object_tree}
use Rattle.mem_intervals.proofs.UnderSteps.{for_one, join_leaves}
use Rattle.mem_intervals.specs.Passed.{joined_passed}
use Rattle.mem_intervals.proofs.InSteps.{like, in_one, first_in, second_in}
use Rattle.mem_intervals.proofs.states.IntervalStatesMemDomain.join.Goals as goal

pub returns-clause-plain : goal.returns-clause-plain
returns-clause-plain c = λ p h k.
    join_leaves (map object_tree c.args.self.now.objects) c.args.self.now.temps.types c.args.self.now.temps.ranges c.args.other.now.temps.ranges c.join.new.self
    c.args.self.now.temps.passed c.args.other.now.temps.passed c.in_ok-passed.passed c.args.self.now.cells c.args.other.now.cells c.join-2.new.self
    c.args.self.now.copies c.args.other.now.copies c.join-3.new.self c.in_ok-passed.ensures c.join.ensures.hulls c.join-2.ensures.size c.join-2.ensures.joins
    c.join-3.ensures.size c.join-3.ensures.agrees p h
    (for_one (map object_tree c.args.self.now.objects) (map object_tree c.args.other.now.objects) c.requires.0.objects c.args.self.now.temps.types
    c.args.other.now.temps.types c.requires.0.temps c.args.other.now.temps.ranges c.args.other.now.temps.passed c.args.other.now.cells
    c.args.other.now.copies p c.requires.1.0 c.requires.1.1 c.requires.2.0 c.requires.2.1 k)

pub returns-clause-left : goal.returns-clause-left
returns-clause-left c =
    let m = c.args.self.now in let os = map object_tree m.objects in let o = c.args.other.now in
    λ s h. like os m.temps.types m.temps.types c.join.new.self c.join.new.self (joined_passed m.temps.passed o.temps.passed) c.in_ok-passed.passed
    c.join-2.new.self c.join-2.new.self c.join-3.new.self c.join-3.new.self None c.forget.new.self s refl refl c.in_ok-passed.ensures refl refl c.forget.ensures
    (first_in os m.temps.types m.temps.ranges o.temps.ranges c.join.new.self m.temps.passed o.temps.passed m.cells o.cells c.join-2.new.self
    m.copies o.copies c.join-3.new.self m.one o.one c.join.ensures.size c.join.ensures.hulls c.join-2.ensures.joins c.join-3.ensures.agrees s h)

pub returns-clause-right : goal.returns-clause-right
returns-clause-right c =
    let m = c.args.self.now in let os = map object_tree m.objects in let o = c.args.other.now in
    λ s h. like os m.temps.types m.temps.types c.join.new.self c.join.new.self (joined_passed m.temps.passed o.temps.passed) c.in_ok-passed.passed
    c.join-2.new.self c.join-2.new.self c.join-3.new.self c.join-3.new.self None c.forget.new.self s refl refl c.in_ok-passed.ensures refl refl c.forget.ensures
    (second_in os m.temps.types m.temps.ranges o.temps.ranges c.join.new.self m.temps.passed o.temps.passed m.cells o.cells c.join-2.new.self
    m.copies o.copies c.join-3.new.self m.one o.one c.join.ensures.size c.join.ensures.hulls c.join-2.ensures.joins c.join-3.ensures.agrees s
    (in_one os (map object_tree o.objects) m.temps.types o.temps.types o.temps.ranges o.temps.passed o.cells o.copies o.one s c.requires.0 c.requires.1.0
    c.requires.1.1 c.requires.2.0 c.requires.2.1 h))
