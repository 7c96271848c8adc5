use Rattle.std.proofs.Common.{sym, subst, ap, ◌∙◌}
use Rattle.std.specs.Prelude.{option_map}
use Rattle.mem_intervals.specs.Passed.{IsPassed, remembered}
use Rattle.mem_intervals.proofs.Knowing.{covered_passed}
use Rattle.mem_intervals.proofs.passed.Passed.covers.Goals as goal

pub returns-in-Some-range_of-clause-yes : goal.returns-in-Some-range_of-clause-yes
returns-in-Some-range_of-clause-yes c = λ yes s k.
    subst (λ o. IsPassed o s) (sym (ap (option_map remembered) c.in-Some.is) ∙ c.self.view_is)
    (covered_passed (remembered c.in-Some.item) c.args.other.now c.in-Some-range_of.range (sym c.range_of.ensures ∙ c.in-Some-range_of.is)
    (c.holds_all.ensures.yes yes) s k)
