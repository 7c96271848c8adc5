use Rattle.std.proofs.Common.{sym, ◌∙◌, subst}
use Rattle.std.proofs.lemmas.Bool.{false≢true}
use Rattle.ext_int.proofs.Ends.{holds_number_from}
use Rattle.num_api.specs.declared.message.Range.{Range}
use Rattle.num_api.specs.Plain.{cut}
use Rattle.num_api.specs.Ranges.{NoWider}
use Rattle.num_api.specs.Spans.{range_of}
use Rattle.num_api.specs.Standings.{standing_of}
use Rattle.machine_nums.proofs.cuts.standing_range.Goals as goal

pub returns-then-holds_some-clause-plain : goal.returns-then-holds_some-clause-plain
returns-then-holds_some-clause-plain c = λ p q u w. c.cut_range.ensures.plain p q (sym c.holds_some.ensures ∙ c.if-holds_some.true) u w

pub returns-else-holds_some-clause-holds : goal.returns-else-holds_some-clause-holds
returns-else-holds_some-clause-holds c = λ x y i j h.
    absurd (false≢true (sym c.if-holds_some.false ∙ c.holds_some.ensures ∙ holds_number_from c.args.t.lo c.args.t.hi y j.low j.high))

pub returns-else-holds_some-clause-plain : goal.returns-else-holds_some-clause-plain
returns-else-holds_some-clause-plain c = λ p q u w.
    subst (λ (r : Range). NoWider r (range_of (cut (standing_of c.args.how) p q))) (sym c.no_numbers.ensures) (record { low = tt; high = tt })
