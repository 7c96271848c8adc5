use Rattle.std.proofs.Common.{sym, subst, ◌∙◌}
use Rattle.num_api.specs.declared.message.Range.{Range}
use Rattle.ext_int.specs.declared.Ext.TheVariants.{Low, High}
use Rattle.num_api.specs.Ranges.{NoWider}
use Rattle.num_api.proofs.Parts.{under_all}
use Rattle.mem_temps.proofs.exacts.shifted_left.Goals as goal

pub returns-then-holds_some-clause-some : goal.returns-then-holds_some-clause-some
returns-then-holds_some-clause-some c = λ here. (c.typed_range.ensures.holds, c.typed_range.ensures.point, c.typed_range.ensures.plain)

pub returns-else-holds_some-clause-none : goal.returns-else-holds_some-clause-none
returns-else-holds_some-clause-none c = λ no x. subst (λ (r : Range). NoWider r x) (sym c.no_numbers.ensures) (under_none x) where
  under_none : (x : Range) → NoWider (record { lo = High; hi = Low }) x
  under_none x = record { low = (under_all (record { lo = Low; hi = x.lo })).high; high = tt }
