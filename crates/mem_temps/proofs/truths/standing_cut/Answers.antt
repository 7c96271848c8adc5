use Rattle.std.proofs.Common.{sym, ◌∙◌}
use Rattle.mem_temps.proofs.truths.standing_cut.Goals as goal

pub returns-then-holds_some-clause-plain : goal.returns-then-holds_some-clause-plain
returns-then-holds_some-clause-plain c = λ p q h k. c.cut_range.ensures.plain p q (sym c.holds_some.ensures ∙ c.if-holds_some.true) h k
