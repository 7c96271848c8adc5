use Rattle.std.proofs.Common.{map}
use Rattle.c_syntax.specs.Types.{object_tree}
use Rattle.mem_intervals.proofs.InSteps.{in_one, covered_in}
use Rattle.mem_intervals.proofs.states.IntervalStatesMemDomain.covers.Goals as goal

pub returns : goal.returns
returns c =
    let m = c.args.self.now in let os = map object_tree m.objects in let o = c.args.other.now in
    λ yes s h. covered_in os m.temps.types m.temps.ranges m.temps.passed m.cells m.copies m.one o.one o.temps.ranges o.temps.passed o.cells o.copies
    (c.covers_all.ensures.yes yes) s
    (in_one os (map object_tree o.objects) m.temps.types o.temps.types o.temps.ranges o.temps.passed o.cells o.copies o.one s c.requires.0 c.requires.1.0
    c.requires.1.1 c.requires.2.0 c.requires.2.1 h)
