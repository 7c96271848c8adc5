-- The plain rule and the operators, worked by hand at numbers.
use Rattle.std.proofs.Common.{ℕ, pos, neg_ℤ, ◌≡◌, zero, suc, Some, None, true, false, refl}
use Rattle.num_api.specs.declared.message.Range.{Range}
use Rattle.num_api.specs.declared.expr.NOp.TheVariants.{Neg, Not, Add, Sub, Mul, Quot, Rem, Shl, Shr, And, Or, Xor, Eq, Ne, Lt, Le}
use Rattle.num_api.specs.Exprs.{Const, Read, Unary, Binary}
use Rattle.num_api.specs.Value.{binary_value}
use Rattle.num_api.specs.Spans.{span, point, range_of, unary_span, binary_span}
use Rattle.num_api.specs.Plain.{plain, tested, excludes}
use Rattle.num_api.specs.Ranges.{holds_some}

-- ---- operators

quotient : binary_value Quot (neg_ℤ (pos 7)) (pos 2) ≡ Some (neg_ℤ (pos 3))
quotient = refl

no_quotient : binary_value Quot (pos 7) (pos 0) ≡ None
no_quotient = refl

remainder : binary_value Rem (neg_ℤ (pos 7)) (pos 3) ≡ Some (neg_ℤ (pos 1))
remainder = refl

left_shift : binary_value Shl (neg_ℤ (pos 3)) (pos 4) ≡ Some (neg_ℤ (pos 48))
left_shift = refl

right_shift : binary_value Shr (neg_ℤ (pos 5)) (pos 1) ≡ Some (neg_ℤ (pos 3))
right_shift = refl

no_shift : binary_value Shl (pos 1) (neg_ℤ (pos 1)) ≡ None
no_shift = refl

-- -6 is ..11111010, and 12 is ..00001100
and_of_signs : binary_value And (neg_ℤ (pos 6)) (pos 12) ≡ Some (pos 8)
and_of_signs = refl

or_of_signs : binary_value Or (neg_ℤ (pos 6)) (pos 12) ≡ Some (neg_ℤ (pos 2))
or_of_signs = refl

xor_of_signs : binary_value Xor (neg_ℤ (pos 6)) (pos 12) ≡ Some (neg_ℤ (pos 10))
xor_of_signs = refl

and_of_negatives : binary_value And (neg_ℤ (pos 6)) (neg_ℤ (pos 4)) ≡ Some (neg_ℤ (pos 8))
and_of_negatives = refl

-- ---- the plain rule of an operator

opposite : unary_span Neg (span (neg_ℤ (pos 2)) (pos 5)) ≡ Some (span (neg_ℤ (pos 5)) (pos 2))
opposite = refl

difference : binary_span Sub (span (pos 1) (pos 4)) (span (neg_ℤ (pos 2)) (pos 3)) ≡ Some (span (neg_ℤ (pos 2)) (pos 6))
difference = refl

product : binary_span Mul (span (neg_ℤ (pos 2)) (pos 3)) (span (neg_ℤ (pos 5)) (pos 4)) ≡ Some (span (neg_ℤ (pos 15)) (pos 12))
product = refl

-- the divisors hold 0: -2, -1, 1, 2 and 3 are left
quotients_round_zero : binary_span Quot (span (neg_ℤ (pos 7)) (pos 7)) (span (neg_ℤ (pos 2)) (pos 3)) ≡ Some (span (neg_ℤ (pos 7)) (pos 7))
quotients_round_zero = refl

quotients_of_positives : binary_span Quot (span (pos 8) (pos 9)) (span (pos 0) (pos 2)) ≡ Some (span (pos 4) (pos 9))
quotients_of_positives = refl

quotients_by_zero : binary_span Quot (span (pos 1) (pos 2)) (point (pos 0)) ≡ None
quotients_by_zero = refl

remainders_on_both_sides : binary_span Rem (span (neg_ℤ (pos 7)) (pos 7)) (span (pos 3) (pos 5)) ≡ Some (span (neg_ℤ (pos 4)) (pos 4))
remainders_on_both_sides = refl

remainders_of_small : binary_span Rem (span (pos 1) (pos 2)) (span (neg_ℤ (pos 9)) (pos 5)) ≡ Some (span (pos 0) (pos 2))
remainders_of_small = refl

remainders_by_zero : binary_span Rem (span (pos 1) (pos 2)) (point (pos 0)) ≡ None
remainders_by_zero = refl

and_of_points : binary_span And (point (pos 12)) (point (pos 10)) ≡ Some (point (pos 8))
and_of_points = refl

and_of_spans : binary_span And (span (pos 0) (pos 1)) (point (pos 1)) ≡ None
and_of_spans = refl

not_of_zero : unary_span Not (point (pos 0)) ≡ Some (point (pos 1))
not_of_zero = refl

not_of_others : unary_span Not (span (pos 1) (pos 4)) ≡ Some (point (pos 0))
not_of_others = refl

not_of_some : unary_span Not (span (pos 0) (pos 4)) ≡ Some (span (pos 0) (pos 1))
not_of_some = refl

less_of_apart : binary_span Lt (span (pos 0) (pos 3)) (span (pos 4) (pos 9)) ≡ Some (point (pos 1))
less_of_apart = refl

less_of_over : binary_span Lt (span (pos 4) (pos 9)) (span (pos 0) (pos 4)) ≡ Some (point (pos 0))
less_of_over = refl

at_most_of_touching : binary_span Le (span (pos 4) (pos 9)) (span (pos 0) (pos 4)) ≡ Some (span (pos 0) (pos 1))
at_most_of_touching = refl

equal_of_points : binary_span Eq (point (pos 4)) (point (pos 4)) ≡ Some (point (pos 1))
equal_of_points = refl

equal_of_apart : binary_span Eq (span (pos 0) (pos 3)) (point (pos 4)) ≡ Some (point (pos 0))
equal_of_apart = refl

other_of_spans : binary_span Ne (span (pos 0) (pos 4)) (point (pos 4)) ≡ Some (span (pos 0) (pos 1))
other_of_spans = refl

-- ---- tests; variable 0 is from 0 to 9, each other one from 5 to 20

abbrev given : ℕ → Range
given zero = range_of (span (pos 0) (pos 9))
given (suc x) = range_of (span (pos 5) (pos 20))

sum : plain given (Binary Add (Read 0) (Binary Mul (Const (pos 4)) (Read 1))) ≡ Some (span (pos 20) (pos 89))
sum = refl

-- x < 7, and not x < 7
cut_above : tested given (Binary Lt (Read 0) (Const (pos 7))) true 0 ≡ range_of (span (pos 0) (pos 6))
cut_above = refl

cut_below : tested given (Binary Lt (Read 0) (Const (pos 7))) false 0 ≡ range_of (span (pos 7) (pos 9))
cut_below = refl

-- 7 <= x
cut_right : tested given (Binary Le (Const (pos 7)) (Read 0)) true 0 ≡ range_of (span (pos 7) (pos 9))
cut_right = refl

-- y < x cuts both, and !(y < x) neither
cut_left_of_two : tested given (Binary Lt (Read 1) (Read 0)) true 1 ≡ range_of (span (pos 5) (pos 8))
cut_left_of_two = refl

cut_right_of_two : tested given (Binary Lt (Read 1) (Read 0)) true 0 ≡ range_of (span (pos 6) (pos 9))
cut_right_of_two = refl

cut_of_negation : tested given (Unary Not (Binary Lt (Read 1) (Read 0))) true 0 ≡ range_of (span (pos 0) (pos 9))
cut_of_negation = refl

-- x == y, x != 0, x != 4
cut_of_equal : tested given (Binary Eq (Read 0) (Read 1)) true 1 ≡ range_of (span (pos 5) (pos 9))
cut_of_equal = refl

cut_at_end : tested given (Binary Ne (Read 0) (Const (pos 0))) true 0 ≡ range_of (span (pos 1) (pos 9))
cut_at_end = refl

no_cut_inside : tested given (Binary Ne (Read 0) (Const (pos 4))) true 0 ≡ range_of (span (pos 0) (pos 9))
no_cut_inside = refl

-- x < x, x <= x, x == x and x != x: both cuts hold
cut_from_both_ends : tested given (Binary Lt (Read 0) (Read 0)) true 0 ≡ range_of (span (pos 1) (pos 8))
cut_from_both_ends = refl

cut_at_neither_end : tested given (Binary Le (Read 0) (Read 0)) true 0 ≡ range_of (span (pos 0) (pos 9))
cut_at_neither_end = refl

cut_of_itself : tested given (Binary Eq (Read 0) (Read 0)) true 0 ≡ range_of (span (pos 0) (pos 9))
cut_of_itself = refl

cut_of_another : tested given (Binary Ne (Read 0) (Read 0)) true 0 ≡ range_of (span (pos 0) (pos 9))
cut_of_another = refl

nothing_is_left : holds_some (tested (λ x. range_of (span (pos 0) (pos 1))) (Binary Lt (Read 0) (Read 0)) true 0) ≡ false
nothing_is_left = refl

-- a variable alone is a test that cuts nothing
no_cut_of_variable : tested given (Read 0) true 0 ≡ range_of (span (pos 0) (pos 9))
no_cut_of_variable = refl

excluded : excludes true (point (pos 0)) ≡ true
excluded = refl

not_excluded : excludes false (span (neg_ℤ (pos 1)) (pos 1)) ≡ false
not_excluded = refl
