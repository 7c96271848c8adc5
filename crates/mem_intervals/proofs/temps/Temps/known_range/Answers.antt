use Rattle.std.proofs.Common.{sym, ◌∙◌}
use Rattle.csharp.specs.Trees.{csexpr_tree}
use Rattle.mem_intervals.proofs.Knowing.{known_alone, known_met}
use Rattle.mem_intervals.proofs.temps.Temps.known_range.Goals as goal

pub returns-in-Some : goal.returns-in-Some
returns-in-Some c = known_met c.args.self.now.ranges c.args.self.now.passed (csexpr_tree c.args.e.now) c.value_range-range.result c.in-Some.passed c.meet.result
    c.value_range-range.ensures (sym c.range_of.ensures ∙ c.in-Some.is) c.meet.ensures.holds c.meet.ensures.first c.meet.ensures.second

pub returns-in-None : goal.returns-in-None
returns-in-None c = known_alone c.args.self.now.ranges c.args.self.now.passed (csexpr_tree c.args.e.now) c.value_range-range.result
    c.value_range-range.ensures (sym c.range_of.ensures ∙ c.in-None.is)
