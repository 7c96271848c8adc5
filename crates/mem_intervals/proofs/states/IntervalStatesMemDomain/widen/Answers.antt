use Rattle.std.proofs.Common.{◌∙◌, ap, map, length, replicate}
use Rattle.c_syntax.specs.Types.{object_tree}
use Rattle.mem_intervals.specs.Sets.{knows_any}
use Rattle.mem_intervals.proofs.InSteps.{in_one, covered_in, knows_less}
use Rattle.mem_intervals.proofs.states.IntervalStatesMemDomain.widen.Goals as goal

pub returns-then-covers_all-clause-right : goal.returns-then-covers_all-clause-right
returns-then-covers_all-clause-right g c =
    let m = c.args.self.now in let os = map object_tree m.objects in let o = c.args.next.now in
    λ s h. covered_in os m.temps.types m.temps.ranges m.temps.passed m.cells m.copies m.one o.one o.temps.ranges o.temps.passed o.cells o.copies
    (c.covers_all.ensures.yes c.if-covers_all.true) s
    (in_one os (map object_tree o.objects) m.temps.types o.temps.types o.temps.ranges o.temps.passed o.cells o.copies o.one s c.requires.one.0
    c.requires.one.1.0 c.requires.one.1.1 c.requires.one.2.0 c.requires.one.2.1 h)

pub returns-clause-fell : goal.returns-clause-fell
returns-clause-fell g c =
    let m = c.args.self.now in
    λ fell. knows_less (knows_any m.temps.ranges m.temps.passed m.cells m.copies m.one) c.pass_on.new.self.ranges c.pass_on.new.self.passed c.forget.new.self
    c.forget-2.new.self c.forget-3.new.self c.len.result (length m.cells) (length m.copies) (c.covers_all.ensures.no c.if-covers_all.false)
    (c.pass_on.ensures.kept.1 ∙ c.in_ok-self.ensures ∙ ap (replicate c.len.result) c.all.ensures) c.pass_on.ensures.passed c.forget.ensures c.forget-2.ensures
    c.forget-3.ensures
