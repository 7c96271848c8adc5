-- Spans that fit a type, and what the plain rule leaves behind a conversion.
use Rattle.std.proofs.Common.{◌≡◌, ℤ, pos, ◌≤ℤ◌, refl, arith}
use Rattle.std.proofs.lemmas.Int.{ints}
use Rattle.std.specs.Prelude.{ℕ, Bool, true, false, if◌then◌else◌, Option, Some, None}
use Rattle.std.specs.Int.RustNames.{int_le}
use Rattle.std.proofs.lemmas.Bool.{and_parts}
use Rattle.std.proofs.lemmas.Option.{none-some}
use Rattle.c_syntax_written.specs.declared.int_type.IntType.{IntType}
use Rattle.c_syntax_written.specs.Integer.{least, greatest}
use Rattle.ext_int.proofs.Ends.{le-from_int_le}
use Rattle.num_api.specs.Ranges.{NoWider}
use Rattle.num_api.specs.Spans.{Span, range_of, FitsSpan}
use Rattle.machine_nums.specs.Rule.{type_span, is_number, fits, converted, if_fits}
use Rattle.machine_nums.proofs.ExprTypes.{type_fits, type_order}

pub number_between : (t : IntType) (n : ℤ) → is_number t n ≡ true → (least t ≤ℤ n) × (n ≤ℤ pos (greatest t))
number_between t n e =
    let both = and_parts (int_le (least t) n) (int_le n (pos (greatest t))) e in
    (le-from_int_le (least t) n both.0, le-from_int_le n (pos (greatest t)) both.1)

pub ends_fit : (t : IntType) (s : Span) → fits t s ≡ true → (is_number t s.lo ≡ true) × (is_number t s.hi ≡ true)
ends_fit t s e = and_parts (is_number t s.lo) (is_number t s.hi) e

pub fits_span : (t : IntType) (s : Span) → fits t s ≡ true → FitsSpan s
fits_span t s e =
    let ends = ends_fit t s e in let low = number_between t s.lo ends.0 in let high = number_between t s.hi ends.1 in
    record { low = type_fits t s.lo low.0 low.1; high = type_fits t s.hi high.0 high.1 }

pub fits_inside : (t : IntType) (s : Span) → fits t s ≡ true → NoWider (range_of s) (range_of (type_span t))
fits_inside t s e =
    let ends = ends_fit t s e in
    record { low = (number_between t s.lo ends.0).0; high = (number_between t s.hi ends.1).1 }

pub type_span_fits : (t : IntType) → FitsSpan (type_span t)
type_span_fits t = record {
  low = type_fits t (least t) (le_same (least t)) (type_order t);
  high = type_fits t (pos (greatest t)) (type_order t)
      (le_same (pos (greatest t)));
}
  where
    le_same : (n : ℤ) → n ≤ℤ n
    le_same n = omega (arith, ints)

-- the rule either keeps a span that fits or leaves the numbers of the type
pub kept_or_all : (P : Span → Type 0) (t : IntType) (o : Option Span) → P (type_span t) → ((s : Span) → o ≡ Some s → fits t s ≡ true → P s) → P (converted t o)
kept_or_all P t None all kept = all
kept_or_all P t (Some s) all kept = by (fits t s) (kept s refl)
  where
    by : (b : Bool) → (b ≡ true → P s) → P (if b then s else type_span t)
    by true h = h refl
    by false h = all

pub converted_fits : (t : IntType) (o : Option Span) → FitsSpan (converted t o)
converted_fits t o = kept_or_all FitsSpan t o (type_span_fits t) (λ s e f. fits_span t s f)

-- where a variable stays one, there is a span, and it fits
pub fits_from : (t : IntType) (o : Option Span) (x : Option ℕ) (y : ℕ) → if_fits t o x ≡ Some y → (s : Span) × (o ≡ Some s) × (fits t s ≡ true) × (x ≡ Some y)
fits_from t None x y e = absurd (none-some y e)
fits_from t (Some s) x y e = by (fits t s) refl e
  where
    by : (b : Bool) → fits t s ≡ b → (if b then x else None) ≡ Some y → (r : Span) × (Some s ≡ Some r) × (fits t r ≡ true) × (x ≡ Some y)
    by true f g = (s, refl, f, g)
    by false f g = absurd (none-some y g)
