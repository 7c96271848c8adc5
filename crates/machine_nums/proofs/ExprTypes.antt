-- The integer types and their numbers: what lies between the ends, how many numbers there are, and what wrapping moves.
use Rattle.std.proofs.Common.{◌≡◌, ◌^◌, ◌-ℤ◌, ◌+ℤ◌, ℤ, pos, ◌≤ℤ◌, ◌<ℤ◌, arith, ◌∙◌, subst, sym}
use Rattle.std.specs.Prelude.{Bool, true, false}
use Rattle.std.specs.Int.{int_rem_euclid}
use Rattle.std.specs.Int.RustNames.{FitsSigned}
use mir.Syntax.{w128}
use Rattle.std.proofs.lemmas.Int.{ints}
use Rattle.c_syntax_written.specs.declared.int_type.IntType.{IntType}
use Rattle.c_syntax_written.specs.declared.int_type.IntType.TheVariants.{Char, SChar, UChar, Short, UShort, Int, UInt, Long, ULong, LLong, ULLong}
use Rattle.c_syntax_written.specs.Integer.{HasNumber, width, least, greatest, wrapped}
use Rattle.num_api.specs.Residues.{IsMultiple}
use Rattle.num_api.specs.Value.{truth}
use Rattle.num_api.proofs.Multiples.{multiple_along, multiple_neg, multiple_trans, in_from_off, off_from_in}
use Rattle.num_api.proofs.Remainders.{rem_same, rem_low, rem_high}
use Rattle.machine_nums.proofs.Values.{has-wrapped, wrapped-has}
use Rattle.machine_nums.proofs.ExprCongruences.{wrapped_same}

pub has_between : (t : IntType) (n : ℤ) → least t ≤ℤ n → n ≤ℤ pos (greatest t) → HasNumber t n
has_between Char n low high = omega (arith, ints)
has_between SChar n low high = omega (arith, ints)
has_between UChar n low high = (omega (arith, ints), omega (arith, ints))
has_between Short n low high = omega (arith, ints)
has_between UShort n low high = (omega (arith, ints), omega (arith, ints))
has_between Int n low high = omega (arith, ints)
has_between UInt n low high = (omega (arith, ints), omega (arith, ints))
has_between Long n low high = omega (arith, ints)
has_between ULong n low high = (omega (arith, ints), omega (arith, ints))
has_between LLong n low high = omega (arith, ints)
has_between ULLong n low high = (omega (arith, ints), omega (arith, ints))

pub between_has : (t : IntType) (n : ℤ) → HasNumber t n → (least t ≤ℤ n) × (n ≤ℤ pos (greatest t))
between_has Char n h = (omega (arith, ints), omega (arith, ints))
between_has SChar n h = (omega (arith, ints), omega (arith, ints))
between_has UChar n h = (h.0, omega (arith, ints, h.1))
between_has Short n h = (omega (arith, ints), omega (arith, ints))
between_has UShort n h = (h.0, omega (arith, ints, h.1))
between_has Int n h = (omega (arith, ints), omega (arith, ints))
between_has UInt n h = (h.0, omega (arith, ints, h.1))
between_has Long n h = (omega (arith, ints), omega (arith, ints))
between_has ULong n h = (h.0, omega (arith, ints, h.1))
between_has LLong n h = (omega (arith, ints), omega (arith, ints))
between_has ULLong n h = (h.0, omega (arith, ints, h.1))

pub numbers_are : (t : IntType) → (pos (2 ^ width t) ≡ (pos (greatest t) -ℤ least t) +ℤ pos 1) × (pos 1 ≤ℤ pos (2 ^ width t))
numbers_are Char = (omega (arith, ints), omega (arith, ints))
numbers_are SChar = (omega (arith, ints), omega (arith, ints))
numbers_are UChar = (omega (arith, ints), omega (arith, ints))
numbers_are Short = (omega (arith, ints), omega (arith, ints))
numbers_are UShort = (omega (arith, ints), omega (arith, ints))
numbers_are Int = (omega (arith, ints), omega (arith, ints))
numbers_are UInt = (omega (arith, ints), omega (arith, ints))
numbers_are Long = (omega (arith, ints), omega (arith, ints))
numbers_are ULong = (omega (arith, ints), omega (arith, ints))
numbers_are LLong = (omega (arith, ints), omega (arith, ints))
numbers_are ULLong = (omega (arith, ints), omega (arith, ints))

-- how many numbers a type has divides how many the widest has
pub all_divided : (t : IntType) → IsMultiple (pos (2 ^ width t)) (pos (2 ^ 64))
all_divided Char = (pos (2 ^ 56), omega (arith, ints))
all_divided SChar = (pos (2 ^ 56), omega (arith, ints))
all_divided UChar = (pos (2 ^ 56), omega (arith, ints))
all_divided Short = (pos (2 ^ 48), omega (arith, ints))
all_divided UShort = (pos (2 ^ 48), omega (arith, ints))
all_divided Int = (pos (2 ^ 32), omega (arith, ints))
all_divided UInt = (pos (2 ^ 32), omega (arith, ints))
all_divided Long = (pos 1, omega (arith, ints))
all_divided ULong = (pos 1, omega (arith, ints))
all_divided LLong = (pos 1, omega (arith, ints))
all_divided ULLong = (pos 1, omega (arith, ints))

-- the numbers of a type are i128s
pub type_fits : (t : IntType) (n : ℤ) → least t ≤ℤ n → n ≤ℤ pos (greatest t) → FitsSigned w128 n
type_fits Char n low high = omega (arith, ints)
type_fits SChar n low high = omega (arith, ints)
type_fits UChar n low high = omega (arith, ints)
type_fits Short n low high = omega (arith, ints)
type_fits UShort n low high = omega (arith, ints)
type_fits Int n low high = omega (arith, ints)
type_fits UInt n low high = omega (arith, ints)
type_fits Long n low high = omega (arith, ints)
type_fits ULong n low high = omega (arith, ints)
type_fits LLong n low high = omega (arith, ints)
type_fits ULLong n low high = omega (arith, ints)

pub type_order : (t : IntType) → least t ≤ℤ pos (greatest t)
type_order t = let count = numbers_are t in omega (arith, ints, count.0, count.1)

-- ---- wrapping

from_least : (r a : ℤ) → pos 0 ≤ℤ r → a ≤ℤ (r +ℤ a)
from_least r a h = omega (arith, ints)

to_greatest : (r a b m : ℤ) → m ≡ (b -ℤ a) +ℤ pos 1 → r <ℤ m → (r +ℤ a) ≤ℤ b
to_greatest r a b m e h = omega (arith, ints)

apart : (n a r : ℤ) → (n -ℤ a) -ℤ r ≡ n -ℤ (r +ℤ a)
apart n a r = omega (arith, ints)

-- wrapping goes by the remainder above the least number
pub wrapped_is : (t : IntType) (n : ℤ) → (int_rem_euclid (n -ℤ least t) (pos (2 ^ width t)) +ℤ least t) ≡ wrapped t n
wrapped_is t n =
    let m = pos (2 ^ width t) in let x = n -ℤ least t in let r = int_rem_euclid x m in
    let count = numbers_are t in
    let low = rem_low x m count.1 in let high = rem_high x m count.1 in
    let has : HasNumber t (r +ℤ least t) = has_between t (r +ℤ least t) (from_least r (least t) low)
    (to_greatest r (least t) (pos (greatest t)) m count.0 high) in
    let same = in_from_off (r +ℤ least t) m n
    (multiple_along m (x -ℤ r) (n -ℤ (r +ℤ least t)) (apart n (least t) r) (off_from_in r m x (rem_same x m count.1))) in
    sym (wrapped_same t n (r +ℤ least t) same ∙ wrapped-has t (r +ℤ least t) has)

-- what wrapping adds is a multiple of how many numbers there are
pub wrapped_moves : (t : IntType) (n : ℤ) → IsMultiple (pos (2 ^ width t)) (wrapped t n -ℤ n)
wrapped_moves t n =
    let m = pos (2 ^ width t) in let x = n -ℤ least t in let r = int_rem_euclid x m in
    let count = numbers_are t in
    let off = multiple_neg m (x -ℤ r) (off_from_in r m x (rem_same x m count.1)) in
    subst (λ (w : ℤ). IsMultiple m (w -ℤ n)) (wrapped_is t n) (multiple_along m _ ((r +ℤ least t) -ℤ n) (omega (arith, ints)) off)

-- a number of the type that is off by such a multiple is the wrapped one
pub is_wrapped : (t : IntType) (n r : ℤ) → IsMultiple (pos (2 ^ width t)) (r -ℤ n) → HasNumber t r → r ≡ wrapped t n
is_wrapped t n r off has =
    let m = pos (2 ^ width t) in
    let same = in_from_off r m n (multiple_along m _ (n -ℤ r) (omega (arith, ints)) (multiple_neg m (r -ℤ n) off)) in
    sym (wrapped_same t n r same ∙ wrapped-has t r has)

-- numbers that are off by a multiple of 2^64 are wrapped to one
pub wrapped_like : (t : IntType) (n m : ℤ) → IsMultiple (pos (2 ^ 64)) (m -ℤ n) → wrapped t m ≡ wrapped t n
wrapped_like t n m off =
    let d = pos (2 ^ width t) in
    wrapped_same t m n (in_from_off n d m (multiple_trans d (pos (2 ^ 64)) (m -ℤ n) (all_divided t) off))

pub wrapped_fits : (t : IntType) (n : ℤ) → FitsSigned w128 (wrapped t n)
wrapped_fits t n = let ends = between_has t (wrapped t n) (has-wrapped t n) in type_fits t (wrapped t n) ends.0 ends.1

-- ---- 0 and 1

pub least_low : (t : IntType) → least t ≤ℤ pos 0
least_low Char = omega (arith, ints)
least_low SChar = omega (arith, ints)
least_low UChar = omega (arith, ints)
least_low Short = omega (arith, ints)
least_low UShort = omega (arith, ints)
least_low Int = omega (arith, ints)
least_low UInt = omega (arith, ints)
least_low Long = omega (arith, ints)
least_low ULong = omega (arith, ints)
least_low LLong = omega (arith, ints)
least_low ULLong = omega (arith, ints)

one_high : (t : IntType) → pos 1 ≤ℤ pos (greatest t)
one_high Char = omega (arith, ints)
one_high SChar = omega (arith, ints)
one_high UChar = omega (arith, ints)
one_high Short = omega (arith, ints)
one_high UShort = omega (arith, ints)
one_high Int = omega (arith, ints)
one_high UInt = omega (arith, ints)
one_high Long = omega (arith, ints)
one_high ULong = omega (arith, ints)
one_high LLong = omega (arith, ints)
one_high ULLong = omega (arith, ints)

-- 0 and 1 are numbers of each type
pub truth_has : (t : IntType) (b : Bool) (m : ℤ) → m ≡ truth b → HasNumber t m
truth_has t true m e = subst (HasNumber t) (sym e) (let l = least_low t in let g = one_high t in has_between t (pos 1) (omega (arith, ints, l)) g)
truth_has t false m e = subst (HasNumber t) (sym e) (let l = least_low t in let o = one_high t in has_between t (pos 0) l (omega (arith, ints, o)))
