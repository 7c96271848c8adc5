-- What is so of a range that is wrapped into a type.
use Rattle.std.specs.Prelude.{ℤ, pos, ◌≡◌, ◌^◌, ◌+ℤ◌}
use Rattle.c_syntax_written.specs.declared.int_type.IntType.{IntType}
use Rattle.c_syntax_written.specs.Integer.{width, HasNumber, wrapped}
use Rattle.num_api.specs.declared.message.Range.{Range}
use Rattle.num_api.specs.Ranges.{InRange, IsPoint, NoWider}
use Rattle.num_api.specs.Residues.{IsMultiple}
use Rattle.num_api.specs.Spans.{range_of}
use Rattle.machine_nums.specs.Rule.{type_span}
use Rattle.machine_nums.specs.declared.wrapping.Way.{Way}
use Rattle.machine_nums.specs.declared.wrapping.Way.TheVariants.{Kept, Shifted, Only, ByBits}

-- the way takes the numbers of the range into the type
abbrev pub Takes : IntType → Range → Way → Type 0
Takes t r Kept = NoWider r (range_of (type_span t))
Takes t r (Shifted s) = IsMultiple (pos (2 ^ width t)) s × ((n : ℤ) → InRange r n → HasNumber t (n +ℤ s))
Takes t r (Only m) = (n : ℤ) → InRange r n → wrapped t n ≡ m
Takes t r ByBits = (n : ℤ) → IsPoint r n → ⊥

-- so it does, and the second range lies in the type and holds them wrapped
pub record IsTaken (t : IntType) (r : Range) (way : Way) (taken : Range) : Type 0 where
  pub right : Takes t r way
  pub holds : (n : ℤ) → InRange r n → InRange taken (wrapped t n)
  pub inside : NoWider taken (range_of (type_span t))

-- besides, a range that lies in the type is kept, and points go to points
pub record IsWrapping (t : IntType) (r : Range) (way : Way) (taken : Range) : Type 0 where
  pub takes : IsTaken t r way taken
  pub kept : NoWider r (range_of (type_span t)) → (way ≡ Kept) × (taken ≡ r)
  pub point : (n : ℤ) → IsPoint r n → IsPoint taken (wrapped t n)
