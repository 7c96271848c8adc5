-- Whether an operand fails a check, by computing.
use Rattle.std.specs.Prelude.{ℕ, ℤ, pos, ◌+ℤ◌, ◌-ℤ◌, ◌%◌, ◌==◌, int_lt, nat_abs, Bool, true, false, not, ◌&&◌, ◌||◌, List, Option, None, Some, slice_get, if◌then◌else◌}
use Rattle.std.specs.Ordering.{int_eq}
use Rattle.c_syntax.specs.declared.alarm.Spot.{Spot}
use Rattle.c_syntax.specs.declared.alarm.Spot.TheVariants as spots
use Rattle.c_syntax.specs.declared.alarm.Check.{Check}
use Rattle.c_syntax.specs.declared.alarm.WrongKind.{WrongKind}
use Rattle.c_syntax.specs.declared.alarm.WrongKind.TheVariants as kinds
use Rattle.c_syntax.specs.Types.{ObjectTree}
use Rattle.c_syntax.specs.Operand.{Operand, Number, Point, Points, Mark, End, Undef, Broken}
use Rattle.c_syntax.specs.Operand as operands

-- the number is outside of these ends
abbrev pub is_outside : ℤ → ℤ → ℤ → Bool
is_outside lo hi n = int_lt n lo || int_lt hi n

abbrev pub is_number_outside : ℤ → ℤ → Operand → Bool
is_number_outside lo hi (Number n) = is_outside lo hi n
is_number_outside lo hi x = false

abbrev pub is_zero : Operand → Bool
is_zero (Number n) = int_eq n (pos 0)
is_zero x = false

abbrev pub is_undef : Operand → Bool
is_undef (Mark Undef) = true
is_undef x = false

abbrev pub is_broken : Operand → Bool
is_broken (Mark Broken) = true
is_broken x = false

abbrev pub is_no_value : Operand → Bool
is_no_value (End operands.None) = true
is_no_value x = false

abbrev pub is_null_spot : Spot → Bool
is_null_spot spots.Null = true
is_null_spot s = false

abbrev pub is_dead_spot : Spot → Bool
is_dead_spot spots.Dead = true
is_dead_spot s = false

-- the spot, or one of the two, passes the test
abbrev pub any_spot : (Spot → Bool) → Operand → Bool
any_spot test (Point s) = test s
any_spot test (Points s t) = test s || test t
any_spot test x = false

-- what is asked of an object; one that is not there passes no test
abbrev pub asked_of : Option ObjectTree → (ObjectTree → Bool) → Bool
asked_of None test = false
asked_of (Some object) test = test object

-- the spot is in an object of the program that passes the test, with the offset
abbrev pub is_at : List ObjectTree → (ObjectTree → ℤ → Bool) → Operand → Bool
is_at objects test (Point (spots.At o d)) = asked_of (slice_get objects o) (λ object. test object d)
is_at objects test x = false

-- the number is a multiple of this one; of 0 only 0 is
abbrev pub is_multiple : ℕ → ℤ → Bool
is_multiple size n = nat_abs n % size == 0

-- the offset is one past the end of that object
abbrev pub is_end_of : List ObjectTree → ℕ → ℤ → Bool
is_end_of objects o d = asked_of (slice_get objects o) (λ object. int_eq d (pos object.size))

-- two places that an equality (size 0), an order (size 1) or a difference of elements of that size must not have
abbrev pub are_unrelated : List ObjectTree → ℕ → ℕ → ℤ → ℕ → ℤ → Bool
are_unrelated objects size o d p e =
    if size == 0
    then not (o == p) && (is_end_of objects o d || is_end_of objects p e)
    else not (o == p) || not (is_multiple size (d -ℤ e))

abbrev pub is_unrelated : List ObjectTree → ℕ → Operand → Bool
is_unrelated objects size (Points (spots.At o d) (spots.At p e)) = are_unrelated objects size o d p e
is_unrelated objects size x = false

-- whether the operand fails a check of this kind
abbrev pub fails_kind : List ObjectTree → Check → WrongKind → Operand → Bool
fails_kind objects check kinds.Overflow x = is_number_outside check.lo check.hi x
fails_kind objects check kinds.DivideByZero x = is_zero x
fails_kind objects check kinds.Quotient x = is_number_outside check.lo check.hi x
fails_kind objects check kinds.ShiftAmount x = is_number_outside check.lo check.hi x
fails_kind objects check kinds.ShiftResult x = is_number_outside check.lo check.hi x
fails_kind objects check kinds.Indeterminate x = is_undef x
fails_kind objects check kinds.Fragment x = is_broken x
fails_kind objects check kinds.NullUse x = any_spot is_null_spot x
fails_kind objects check kinds.Dangling x = any_spot is_dead_spot x
fails_kind objects check kinds.Bounds x = is_at objects (λ object d. is_outside (pos 0) (pos object.size) d) x
fails_kind objects check kinds.Access x =
    is_at objects (λ object d. int_lt d (pos 0) || int_lt (pos object.size) (d +ℤ pos check.size)) x
fails_kind objects check kinds.Alignment x = is_at objects (λ object d. not (is_multiple check.align d)) x
fails_kind objects check kinds.ReadOnly x = is_at objects (λ object d. object.read_only) x
fails_kind objects check kinds.Unrelated x = is_unrelated objects check.size x
fails_kind objects check kinds.NoValue x = is_no_value x
fails_kind objects check kinds.AssertFailed x = is_zero x

-- whether the operand fails the check, decided; the relation of the same meaning is `Fails` of Admission
abbrev pub fails : List ObjectTree → Check → Operand → Bool
fails objects check x = fails_kind objects check check.kind x
