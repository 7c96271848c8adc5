-- What the plain rules come to, worked out by hand: each operator, each cut and test, checks, and small runs.
use Rattle.std.specs.Prelude.{◌≡◌, ℕ, ℤ, pos, negsuc, Bool, true, false, if◌then◌else◌, List, [], ◌∷◌, Option, Some, None, option_map, codes, slice_get, unwrap_or}
use Rattle.c_syntax_written.specs.declared.place.Pos.{Pos}
use Rattle.c_syntax_written.specs.declared.int_type.IntType.TheVariants as ints
use Rattle.c_syntax.specs.declared.alarm.WrongKind.{WrongKind}
use Rattle.c_syntax.specs.declared.alarm.WrongKind.TheVariants as kinds
use Rattle.c_syntax.specs.declared.operator.Arithmetic.{Arithmetic}
use Rattle.c_syntax.specs.declared.operator.Arithmetic.TheVariants as arithmetics
use Rattle.c_syntax.specs.declared.operator.Shift.TheVariants.{Left, Right}
use Rattle.c_syntax.specs.declared.operator.Comparison.{Comparison}
use Rattle.c_syntax.specs.declared.operator.Comparison.TheVariants as comparisons
use Rattle.c_syntax.specs.declared.operator.TUnaryOp.TheVariants as unaries
use Rattle.c_syntax.specs.declared.operator.TBinaryOp.TheVariants as binaries
use Rattle.c_syntax.specs.declared.program.InitByte.{InitByte}
use Rattle.c_syntax.specs.declared.program.InitByte.TheVariants as inits
use Rattle.c_syntax.specs.Types.{ObjectTree, Int}
use Rattle.block_mem.specs.declared.types.Scalar.{Scalar}
use Rattle.block_mem.specs.declared.types.Scalar.TheVariants as scalars
use Rattle.num_api.specs.Spans.{Span, span, point}
use Rattle.csharp.specs.Trees.{CsExprTree, Const, Temp, Address, Unary, Binary, Convert, CsStmtTree, Nothing, Set, Load, Store, Checked, Input}
use Rattle.csharp.specs.Trees.{Assume, Sequence, If, Loop, Block, Exit, Scope, Return, Goto, none, more, CsCheckTree, CsProgramTree}
use Rattle.plain_runs.specs.States.{Plain, span_of}
use Rattle.plain_runs.specs.Changes.{plain_test, plain_set}
use Rattle.plain_runs.specs.Checks.{plain_suspect, plain_pass}
use Rattle.plain_runs.specs.Runs.{Suspect, Ran, ByReturn, plain_run}

-- ---- states and expressions

-- two ints, two unsigned ints and an unsigned char, with these numbers
abbrev types : List Scalar
types = scalars.Int ints.Int ∷ scalars.Int ints.Int ∷ scalars.Int ints.UInt ∷ scalars.Int ints.UInt ∷ scalars.Int ints.UChar ∷ scalars.Pointer ∷ []

abbrev with : Span → Span → Span → Span → Span → Plain
with a b c d e = record {
  temps = λ k. unwrap_or (slice_get (a ∷ b ∷ c ∷ d ∷ e ∷ []) k) (point (pos 0));
  copies = λ k. None;
  objects = λ x. None;
  passed = None;
}

abbrev nil : Span
nil = point (pos 0)

abbrev ints_of : Span → Span → Plain
ints_of a b = with a b nil nil nil

abbrev unsigned : Span → Span → Plain
unsigned c d = with nil nil c d nil

abbrev to : ℕ → ℕ → Span
to n m = span (pos n) (pos m)

abbrev all_ints : Span
all_ints = span (negsuc 2147483647) (pos 2147483647)

abbrev number : ℕ → CsExprTree
number n = Const ints.Int (pos n)

abbrev op : Arithmetic → CsExprTree
op how = Binary (binaries.Arithmetic how ints.Int) (Temp 0) (Temp 1)

abbrev unsigned_op : Arithmetic → CsExprTree
unsigned_op how = Binary (binaries.Arithmetic how ints.UInt) (Temp 2) (Temp 3)

abbrev than : Comparison → CsExprTree → CsExprTree → CsExprTree
than how a b = Binary (binaries.CompareInts how ints.Int) a b

abbrev is : Comparison → CsExprTree
is how = than how (Temp 0) (Temp 1)

-- the first temporary on both sides
abbrev itself : Comparison → CsExprTree
itself how = than how (Temp 0) (Temp 0)

-- ---- values

pub record ValuesAre : Type 0 where
  pub constant : span_of types (ints_of nil nil) (number 7) ≡ Some (point (pos 7))
  pub sum : span_of types (ints_of (to 1 3) (to 10 20)) (op arithmetics.Add) ≡ Some (to 11 23)
  pub difference : span_of types (ints_of (to 1 3) (to 10 20)) (op arithmetics.Subtract) ≡ Some (span (negsuc 18) (negsuc 6))
  pub product : span_of types (ints_of (span (negsuc 1) (pos 3)) (to 4 5)) (op arithmetics.Multiply) ≡ Some (span (negsuc 9) (pos 15))
  pub quotient : span_of types (ints_of (to 10 20) (span (negsuc 1) (pos 3))) (op arithmetics.Divide) ≡ Some (span (negsuc 19) (pos 20))
  pub remainder : span_of types (ints_of (span (negsuc 4) (pos 100)) (to 1 8)) (op arithmetics.Remainder) ≡ Some (span (negsuc 4) (pos 7))
  pub remainder_of_few : span_of types (ints_of (to 2 3) (to 1 8)) (op arithmetics.Remainder) ≡ Some (to 0 3)
  pub minus : span_of types (ints_of (span (negsuc 2) (pos 5)) nil) (Unary (unaries.Minus ints.Int) (Temp 0)) ≡ Some (span (negsuc 4) (pos 3))
  pub plus : span_of types (ints_of (span (negsuc 2) (pos 5)) nil) (Unary (unaries.Plus ints.Int) (Temp 0)) ≡ Some (span (negsuc 2) (pos 5))
  pub unsigned_sum : span_of types (unsigned (to 0 10) (point (pos 1))) (unsigned_op arithmetics.Add) ≡ Some (to 1 11)
  pub unsigned_sum_wraps : span_of types (unsigned (to 0 10) (to 0 4294967295)) (unsigned_op arithmetics.Add) ≡ Some (to 0 4294967295)
  pub unsigned_difference_wraps : span_of types (unsigned (to 0 10) (point (pos 1))) (unsigned_op arithmetics.Subtract) ≡ Some (to 0 4294967295)
  pub and : span_of types (ints_of (point (pos 12)) (point (pos 10))) (op arithmetics.BitAnd) ≡ Some (point (pos 8))
  pub and_of_many : span_of types (ints_of (to 12 13) (point (pos 10))) (op arithmetics.BitAnd) ≡ Some all_ints
  pub or : span_of types (ints_of (point (pos 12)) (point (pos 10))) (op arithmetics.BitOr) ≡ Some (point (pos 14))
  pub exclusive_or : span_of types (ints_of (point (pos 12)) (point (pos 10))) (op arithmetics.BitXor) ≡ Some (point (pos 6))
  pub complement : span_of types (ints_of (point (pos 5)) nil) (Unary (unaries.Complement ints.Int) (Temp 0)) ≡ Some (point (negsuc 5))
  pub complement_of_many : span_of types (ints_of (to 0 1) nil) (Unary (unaries.Complement ints.Int) (Temp 0)) ≡ Some all_ints
  pub shift_left : span_of types (ints_of (point (pos 3)) (point (pos 2))) (Binary (binaries.Shift Left ints.Int) (Temp 0) (Temp 1)) ≡ Some (point (pos 12))
  pub shift_right : span_of types (ints_of (point (pos 12)) (point (pos 2))) (Binary (binaries.Shift Right ints.Int) (Temp 0) (Temp 1)) ≡ Some (point (pos 3))
  pub shift_of_many : span_of types (ints_of (to 12 13) (point (pos 2))) (Binary (binaries.Shift Right ints.Int) (Temp 0) (Temp 1)) ≡ Some all_ints
  pub conversion_keeps : span_of types (ints_of (to 0 200) nil) (Convert ints.UChar (Temp 0)) ≡ Some (to 0 200)
  pub conversion_loses : span_of types (ints_of (to 0 300) nil) (Convert ints.UChar (Temp 0)) ≡ Some (to 0 255)
  pub less : span_of types (ints_of (to 0 5) (to 6 9)) (is comparisons.Less) ≡ Some (point (pos 1))
  pub less_or_not : span_of types (ints_of (to 0 5) (to 5 9)) (is comparisons.Less) ≡ Some (to 0 1)
  pub not_less : span_of types (ints_of (to 5 9) (to 0 5)) (is comparisons.Less) ≡ Some (point (pos 0))
  pub greater : span_of types (ints_of (to 6 9) (to 0 5)) (is comparisons.Greater) ≡ Some (point (pos 1))
  pub at_most : span_of types (ints_of (to 0 5) (to 5 9)) (is comparisons.AtMost) ≡ Some (point (pos 1))
  pub at_least : span_of types (ints_of (to 0 4) (to 5 9)) (is comparisons.AtLeast) ≡ Some (point (pos 0))
  pub equal : span_of types (ints_of (point (pos 5)) (point (pos 5))) (is comparisons.Equal) ≡ Some (point (pos 1))
  pub equal_or_not : span_of types (ints_of (to 0 5) (point (pos 5))) (is comparisons.Equal) ≡ Some (to 0 1)
  pub unequal : span_of types (ints_of (to 0 4) (point (pos 5))) (is comparisons.Unequal) ≡ Some (point (pos 1))
  pub negation : span_of types (ints_of (to 1 5) nil) (Unary unaries.Not (Temp 0)) ≡ Some (point (pos 0))
  pub negation_of_zero : span_of types (ints_of nil nil) (Unary unaries.Not (Temp 0)) ≡ Some (point (pos 1))
  pub negation_or_not : span_of types (ints_of (to 0 5) nil) (Unary unaries.Not (Temp 0)) ≡ Some (to 0 1)
  pub no_integer : span_of types (ints_of nil nil) (Temp 5) ≡ None
  pub no_address : span_of types (ints_of nil nil) (Address 0) ≡ None
  pub unsigned_product : span_of types (unsigned (to 2 3) (to 4 5)) (unsigned_op arithmetics.Multiply) ≡ Some (to 8 15)
  pub unsigned_product_wraps : span_of types (unsigned (to 0 100000) (to 0 100000)) (unsigned_op arithmetics.Multiply) ≡ Some (to 0 4294967295)
  pub unsigned_quotient : span_of types (unsigned (to 10 20) (to 2 5)) (unsigned_op arithmetics.Divide) ≡ Some (to 2 10)
  pub unsigned_minus_wraps : span_of types (unsigned (to 1 5) nil) (Unary (unaries.Minus ints.UInt) (Temp 2)) ≡ Some (to 0 4294967295)
  pub sum_beyond : span_of types (ints_of (to 2147483640 2147483647) (to 0 5)) (op arithmetics.Add) ≡ Some all_ints
  pub minus_of_the_least : span_of types (ints_of (point (negsuc 2147483647)) nil) (Unary (unaries.Minus ints.Int) (Temp 0)) ≡ Some all_ints
  pub quotient_to_zero : span_of types (ints_of (point (negsuc 6)) (point (pos 2))) (op arithmetics.Divide) ≡ Some (point (negsuc 2))
  pub quotient_of_both_signs : span_of types (ints_of (span (negsuc 7) (pos 6)) (span (negsuc 1) (pos 2))) (op arithmetics.Divide) ≡ Some (span (negsuc 7) (pos 8))
  pub remainder_of_negatives : span_of types (ints_of (span (negsuc 99) (negsuc 0)) (to 1 8)) (op arithmetics.Remainder) ≡ Some (span (negsuc 6) (pos 0))
  pub remainder_by_negatives : span_of types (ints_of (to 0 100) (span (negsuc 7) (negsuc 0))) (op arithmetics.Remainder) ≡ Some (to 0 7)
  pub or_of_many : span_of types (ints_of (to 12 13) (point (pos 10))) (op arithmetics.BitOr) ≡ Some all_ints
  pub exclusive_or_of_many : span_of types (ints_of (point (pos 12)) (to 10 11)) (op arithmetics.BitXor) ≡ Some all_ints
  pub shift_left_of_many : span_of types (ints_of (point (pos 3)) (to 1 2)) (Binary (binaries.Shift Left ints.Int) (Temp 0) (Temp 1)) ≡ Some all_ints
  pub conversion_of_negatives : span_of types (ints_of (span (negsuc 0) (pos 20)) nil) (Convert ints.UInt (Temp 0)) ≡ Some (to 0 4294967295)
  pub greater_or_not : span_of types (ints_of (to 0 6) (to 5 9)) (is comparisons.Greater) ≡ Some (to 0 1)
  pub not_greater : span_of types (ints_of (to 0 5) (to 5 9)) (is comparisons.Greater) ≡ Some (point (pos 0))
  pub not_at_most : span_of types (ints_of (to 6 9) (to 0 5)) (is comparisons.AtMost) ≡ Some (point (pos 0))
  pub at_least_or_not : span_of types (ints_of (to 0 5) (to 5 9)) (is comparisons.AtLeast) ≡ Some (to 0 1)
  pub not_equal : span_of types (ints_of (to 0 4) (point (pos 5))) (is comparisons.Equal) ≡ Some (point (pos 0))
  pub not_unequal : span_of types (ints_of (point (pos 5)) (point (pos 5))) (is comparisons.Unequal) ≡ Some (point (pos 0))

-- ---- tests

-- what a test leaves of the first two temporaries and of the unsigned ones
pub data Behind : Type 0 where
  nothing : Behind
  numbers : Span → Span → Behind

abbrev left_of : Option Plain → Behind
left_of None = nothing
left_of (Some p) = numbers (p.temps 0) (p.temps 1)

abbrev behind : Plain → CsExprTree → Bool → Option Behind
behind p e truth = option_map left_of (plain_test types p e truth)

-- an int as an unsigned one, below 10
abbrev unsigned_below : CsExprTree
unsigned_below = Binary (binaries.CompareInts comparisons.Less ints.UInt) (Convert ints.UInt (Temp 0)) (Const ints.UInt (pos 10))

pub record TestsAre : Type 0 where
  pub below : behind (ints_of (to 0 20) nil) (than comparisons.Less (Temp 0) (number 10)) true ≡ Some (numbers (to 0 9) nil)
  pub not_below : behind (ints_of (to 0 20) nil) (than comparisons.Less (Temp 0) (number 10)) false ≡ Some (numbers (to 10 20) nil)
  pub turned : behind (ints_of (to 0 20) nil) (than comparisons.Greater (number 10) (Temp 0)) true ≡ Some (numbers (to 0 9) nil)
  pub at_most : behind (ints_of (to 0 20) nil) (than comparisons.AtMost (Temp 0) (number 10)) true ≡ Some (numbers (to 0 10) nil)
  pub at_least : behind (ints_of (to 0 20) nil) (than comparisons.AtLeast (Temp 0) (number 10)) true ≡ Some (numbers (to 10 20) nil)
  pub equal : behind (ints_of (to 0 20) nil) (than comparisons.Equal (Temp 0) (number 10)) true ≡ Some (numbers (point (pos 10)) nil)
  pub unequal_at_an_end : behind (ints_of (to 5 9) nil) (than comparisons.Equal (Temp 0) (number 5)) false ≡ Some (numbers (to 6 9) nil)
  pub unequal_within : behind (ints_of (to 4 9) nil) (than comparisons.Unequal (Temp 0) (number 5)) true ≡ Some (numbers (to 4 9) nil)
  pub two_sides : behind (ints_of (to 0 20) (to 5 8)) (is comparisons.Less) true ≡ Some (numbers (to 0 7) (to 5 8))
  pub two_sides_back : behind (ints_of (to 6 20) (to 5 8)) (is comparisons.Less) true ≡ Some (numbers (to 6 7) (to 7 8))
  pub excluded : behind (ints_of (to 10 20) nil) (than comparisons.Less (Temp 0) (number 10)) true ≡ Some nothing
  pub negated : behind (ints_of (to 0 20) nil) (Unary unaries.Not (than comparisons.Less (Temp 0) (number 10))) true ≡ Some (numbers (to 10 20) nil)
  pub converted : behind (ints_of (to 0 20) nil) unsigned_below true ≡ Some (numbers (to 0 9) nil)
  pub not_kept : behind (ints_of (span (negsuc 0) (pos 20)) nil) unsigned_below true ≡ Some (numbers (span (negsuc 0) (pos 20)) nil)
  pub truth : behind (ints_of (to 0 5) nil) (Temp 0) true ≡ Some (numbers (to 0 5) nil)
  pub no_truth : behind (ints_of (to 1 5) nil) (Temp 0) false ≡ Some nothing
  pub sum_below : behind (ints_of (to 0 20) (to 0 1)) (than comparisons.Less (op arithmetics.Add) (number 10)) true ≡ Some (numbers (to 0 20) (to 0 1))
  pub pointer : behind (ints_of nil nil) (Temp 5) true ≡ None
  pub not_at_most : behind (ints_of (to 0 20) nil) (than comparisons.AtMost (Temp 0) (number 10)) false ≡ Some (numbers (to 11 20) nil)
  pub not_at_least : behind (ints_of (to 0 20) nil) (than comparisons.AtLeast (Temp 0) (number 10)) false ≡ Some (numbers (to 0 9) nil)
  pub greater : behind (ints_of (to 0 20) nil) (than comparisons.Greater (Temp 0) (number 10)) true ≡ Some (numbers (to 11 20) nil)
  pub not_greater : behind (ints_of (to 0 20) nil) (than comparisons.Greater (Temp 0) (number 10)) false ≡ Some (numbers (to 0 10) nil)
  pub not_unequal : behind (ints_of (to 0 20) nil) (than comparisons.Unequal (Temp 0) (number 10)) false ≡ Some (numbers (point (pos 10)) nil)
  pub turned_at_most : behind (ints_of (to 0 20) nil) (than comparisons.AtMost (number 10) (Temp 0)) true ≡ Some (numbers (to 10 20) nil)
  pub turned_at_least : behind (ints_of (to 0 20) nil) (than comparisons.AtLeast (number 10) (Temp 0)) true ≡ Some (numbers (to 0 10) nil)
  pub turned_equal : behind (ints_of (to 0 20) nil) (than comparisons.Equal (number 10) (Temp 0)) true ≡ Some (numbers (point (pos 10)) nil)
  pub turned_unequal : behind (ints_of (to 5 9) nil) (than comparisons.Unequal (number 9) (Temp 0)) true ≡ Some (numbers (to 5 8) nil)
  pub unequal_to_many : behind (ints_of (to 5 9) (to 5 6)) (is comparisons.Unequal) true ≡ Some (numbers (to 5 9) (to 5 6))
  pub both_equal : behind (ints_of (to 0 20) (to 5 30)) (is comparisons.Equal) true ≡ Some (numbers (to 5 20) (to 5 20))
  pub both_at_least : behind (ints_of (to 0 6) (to 5 8)) (is comparisons.AtLeast) true ≡ Some (numbers (to 5 6) (to 5 6))
  pub both_unequal : behind (ints_of (point (pos 5)) (to 5 8)) (is comparisons.Unequal) true ≡ Some (numbers (point (pos 5)) (to 6 8))
  pub negated_twice : behind (ints_of (to 0 20) nil) (Unary unaries.Not (Unary unaries.Not (than comparisons.Less (Temp 0) (number 10)))) true ≡ Some (numbers (to 0 9) nil)
  pub below_itself : behind (ints_of (to 0 20) nil) (itself comparisons.Less) true ≡ Some (numbers (to 1 19) nil)
  pub below_itself_never : behind (ints_of (to 0 1) nil) (itself comparisons.Less) true ≡ Some nothing
  pub not_below_itself : behind (ints_of (to 0 1) nil) (itself comparisons.Less) false ≡ Some (numbers (to 0 1) nil)
  pub at_most_itself : behind (ints_of (to 0 20) nil) (itself comparisons.AtMost) true ≡ Some (numbers (to 0 20) nil)
  pub above_itself : behind (ints_of (to 0 20) nil) (itself comparisons.AtMost) false ≡ Some (numbers (to 1 19) nil)
  pub other_than_itself : behind (ints_of (to 0 20) nil) (itself comparisons.Unequal) true ≡ Some (numbers (to 0 20) nil)
  pub point_other_than_itself : behind (ints_of (point (pos 5)) nil) (itself comparisons.Unequal) true ≡ Some nothing
  pub converted_below_itself : behind (ints_of (to 0 2) nil) (than comparisons.Less (Convert ints.Long (Temp 0)) (Convert ints.Long (Temp 0))) true
      ≡ Some (numbers (point (pos 1)) nil)
  pub truth_cuts_nothing : behind (ints_of (to 0 5) nil) (Unary unaries.Not (Temp 0)) true ≡ Some (numbers (to 0 5) nil)

-- ---- checks

abbrev at : ℕ → Pos
at column = record { file = 0; line = 1; col = column }

abbrev in_range : WrongKind → ℤ → ℤ → List CsExprTree → CsCheckTree
in_range kind lo hi operands = record { check = record { kind = kind; lo = lo; hi = hi; size = 0; align = 0 }; pos = at 1; ty = None; operands = operands }

abbrev in_int : WrongKind → CsExprTree → CsCheckTree
in_int kind e = in_range kind (negsuc 2147483647) (pos 2147483647) (e ∷ [])

abbrev of_zero : WrongKind → CsExprTree → CsCheckTree
of_zero kind e = in_range kind (pos 0) (pos 0) (e ∷ [])

abbrev amount : CsExprTree → CsCheckTree
amount e = in_range kinds.ShiftAmount (pos 0) (pos 31) (e ∷ [])

abbrev shifted : CsCheckTree
shifted = in_range kinds.ShiftResult (pos 0) (pos 2147483647) (Binary (binaries.Shift Left ints.Int) (Temp 0) (Temp 1) ∷ [])

-- the second temporary behind a check, or a sum that was checked and is then set
abbrev second_of : Option Plain → Behind
second_of None = nothing
second_of (Some p) = numbers (p.temps 0) (p.temps 1)

abbrev passes : Plain → CsCheckTree → Option Behind
passes p c = option_map second_of (plain_pass types p c)

abbrev first_of : Option Plain → Option Span
first_of None = None
first_of (Some p) = Some (p.temps 0)

abbrev set_behind : CsExprTree → Option Plain → Option Span
set_behind e None = None
set_behind e (Some p) = first_of (plain_set types p 0 e)

-- what a result has once its check has passed
abbrev result : Plain → CsCheckTree → CsExprTree → Option (Option Span)
result p c e = option_map (set_behind e) (plain_pass types p c)

abbrev near_the_end : Plain
near_the_end = ints_of (to 2147483640 2147483647) (to 0 5)

abbrev sum : CsExprTree
sum = op arithmetics.Add

pub record ChecksAre : Type 0 where
  pub sum_fits : plain_suspect types (ints_of (to 1 3) (to 10 20)) (in_int kinds.Overflow sum) ≡ Some false
  pub sum_leaves : plain_suspect types near_the_end (in_int kinds.Overflow sum) ≡ Some true
  pub sum_passes : result near_the_end (in_int kinds.Overflow sum) sum ≡ Some (Some (to 2147483640 2147483647))
  pub sum_never_passes : passes (ints_of (point (pos 2147483647)) (to 1 5)) (in_int kinds.Overflow sum) ≡ Some nothing
  pub divisor : plain_suspect types (ints_of nil (to 0 5)) (of_zero kinds.DivideByZero (Temp 1)) ≡ Some true
  pub divisor_passes : passes (ints_of nil (to 0 5)) (of_zero kinds.DivideByZero (Temp 1)) ≡ Some (numbers nil (to 1 5))
  pub divisor_within : passes (ints_of nil (span (negsuc 0) (pos 5))) (of_zero kinds.DivideByZero (Temp 1)) ≡ Some (numbers nil (span (negsuc 0) (pos 5)))
  pub divisor_is_zero : passes (ints_of nil nil) (of_zero kinds.DivideByZero (Temp 1)) ≡ Some nothing
  pub quotient : plain_suspect types (ints_of all_ints (span (negsuc 0) (pos 5))) (in_int kinds.Quotient (op arithmetics.Divide)) ≡ Some true
  pub quotient_fits : plain_suspect types (ints_of all_ints (to 1 5)) (in_int kinds.Quotient (op arithmetics.Divide)) ≡ Some false
  pub by_its_quotient : plain_suspect types (ints_of all_ints (span (negsuc 0) (pos 5))) (in_int kinds.Quotient (op arithmetics.Remainder)) ≡ Some true
  pub remainder_is_not_cut : result (ints_of all_ints (span (negsuc 0) (pos 5))) (in_int kinds.Quotient (op arithmetics.Remainder)) (op arithmetics.Remainder)
      ≡ Some (Some (span (negsuc 3) (pos 4)))
  pub amount_leaves : plain_suspect types (ints_of nil (to 5 40)) (amount (Temp 1)) ≡ Some true
  pub amount_passes : passes (ints_of nil (to 5 40)) (amount (Temp 1)) ≡ Some (numbers nil (to 5 31))
  pub amount_fits : plain_suspect types (ints_of nil (to 0 31)) (amount (Temp 1)) ≡ Some false
  pub point_shifts : plain_suspect types (ints_of (point (pos 3)) (point (pos 2))) shifted ≡ Some false
  pub point_leaves : plain_suspect types (ints_of (point (pos 1)) (point (pos 31))) shifted ≡ Some true
  pub many_shift : plain_suspect types (ints_of (to 1 2) (point (pos 2))) shifted ≡ Some true
  pub many_pass : result (ints_of (to 1 2) (point (pos 2))) shifted (Binary (binaries.Shift Left ints.Int) (Temp 0) (Temp 1)) ≡ Some (Some (to 0 2147483647))
  pub assertion : plain_suspect types (ints_of (to 0 1) nil) (of_zero kinds.AssertFailed (Temp 0)) ≡ Some true
  pub assertion_cuts_nothing : passes (ints_of (to 0 1) nil) (of_zero kinds.AssertFailed (Temp 0)) ≡ Some (numbers (to 0 1) nil)
  pub assertion_never_holds : passes (ints_of nil nil) (of_zero kinds.AssertFailed (Temp 0)) ≡ Some nothing
  pub another_value_is_not_cut : result near_the_end (in_int kinds.Overflow sum) (op arithmetics.BitAnd) ≡ Some (Some all_ints)
  pub product_leaves : plain_suspect types (ints_of (to 0 100000) (to 0 100000)) (in_int kinds.Overflow (op arithmetics.Multiply)) ≡ Some true
  pub product_passes : result (ints_of (to 0 100000) (to 0 100000)) (in_int kinds.Overflow (op arithmetics.Multiply)) (op arithmetics.Multiply) ≡ Some (Some (to 0 2147483647))
  pub minus_leaves : plain_suspect types (ints_of all_ints nil) (in_int kinds.Overflow (Unary (unaries.Minus ints.Int) (Temp 0))) ≡ Some true
  pub minus_passes : result (ints_of all_ints nil) (in_int kinds.Overflow (Unary (unaries.Minus ints.Int) (Temp 0))) (Unary (unaries.Minus ints.Int) (Temp 0))
      ≡ Some (Some (span (negsuc 2147483646) (pos 2147483647)))
  pub quotient_passes : result (ints_of all_ints (span (negsuc 0) (pos 5))) (in_int kinds.Quotient (op arithmetics.Divide)) (op arithmetics.Divide) ≡ Some (Some all_ints)
  pub amount_never_passes : passes (ints_of nil (to 40 50)) (amount (Temp 1)) ≡ Some nothing
  pub assertion_holds : plain_suspect types (ints_of (to 1 5) nil) (of_zero kinds.AssertFailed (Temp 0)) ≡ Some false

-- ---- runs

abbrev object : Bool → ObjectTree
object is_static = record { name = codes "x"; pos = at 1; ty = Int ints.Int; size = 4; read_only = false; is_static = is_static }

abbrev zero_byte : InitByte
zero_byte = inits.Num 0

-- object 0 is automatic, and object 1 static and 0
abbrev program : CsStmtTree → CsProgramTree
program body = record {
  structs = [];
  objects = object false ∷ object true ∷ [];
  initial = record { object = 1; bytes = zero_byte ∷ zero_byte ∷ zero_byte ∷ zero_byte ∷ [] } ∷ [];
  functions = record { params = []; body = body } ∷ [];
  temps = scalars.Int ints.Int ∷ scalars.Int ints.Int ∷ [];
  main = 0;
}

abbrev load : ℕ → ℕ → CsStmtTree
load d x = Load d (scalars.Int ints.Int) (Address x)

abbrev store : ℕ → CsExprTree → CsStmtTree
store x e = Store (scalars.Int ints.Int) (Address x) e

abbrev steps : List CsStmtTree → CsStmtTree
steps [] = Nothing
steps (a ∷ rest) = Sequence a (steps rest)

abbrev loaded_check : ℕ → ℕ → CsStmtTree
loaded_check x column = Checked (record {
  check = record { kind = kinds.Indeterminate; lo = pos 0; hi = pos 0; size = 0; align = 0 };
  pos = at column;
  ty = Some (scalars.Int ints.Int);
  operands = Address x ∷ [];
})

abbrev overflow_check : CsExprTree → ℕ → CsStmtTree
overflow_check e column = Checked (record (in_int kinds.Overflow e) { pos = at column })

abbrev in_scope : CsStmtTree → CsStmtTree
in_scope body = Scope (0 ∷ []) (more body none)

abbrev plus_one : ℕ → CsExprTree
plus_one d = Binary (binaries.Arithmetic arithmetics.Add ints.Int) (Temp d) (number 1)

-- x = 0; while (x < n) x = x + 1; return x;
abbrev counted : ℕ → CsStmtTree
counted n = in_scope (steps (
    store 0 (number 0)
    ∷ Block (Loop (at 2) (steps (
    load 0 0
    ∷ If (than comparisons.Less (Temp 0) (number n)) Nothing (Exit 0)
    ∷ load 1 0
    ∷ overflow_check (plus_one 1) 3
    ∷ Set 1 (plus_one 1)
    ∷ store 0 (Temp 1)
    ∷ [])))
    ∷ load 0 0
    ∷ Return (Some (Temp 0))
    ∷ []))

-- x is read before it has a value
abbrev unread : CsStmtTree
unread = in_scope (steps (loaded_check 0 5 ∷ load 0 0 ∷ Return (Some (Temp 0)) ∷ []))

-- x = input; if (x > 100) y = 100; else y = x; return y + 1;
abbrev limited : CsStmtTree
limited = in_scope (steps (
    Input 0 ints.Int
    ∷ store 0 (Temp 0)
    ∷ load 0 0
    ∷ If (than comparisons.Greater (Temp 0) (number 100)) (store 1 (number 100)) (steps (load 1 0 ∷ store 1 (Temp 1) ∷ []))
    ∷ load 1 1
    ∷ overflow_check (plus_one 1) 4
    ∷ Set 1 (plus_one 1)
    ∷ Return (Some (Temp 1))
    ∷ []))

-- x has a value in one branch, and in both
abbrev one_branch : CsStmtTree
one_branch = in_scope (steps (
    Input 0 ints.Int ∷ If (Temp 0) (store 0 (number 1)) Nothing ∷ loaded_check 0 7 ∷ load 0 0 ∷ Return (Some (Temp 0)) ∷ []))

abbrev both_branches : CsStmtTree
both_branches = in_scope (steps (
    Input 0 ints.Int ∷ If (Temp 0) (store 0 (number 1)) (store 0 (number 5)) ∷ loaded_check 0 7 ∷ load 0 0 ∷ Return (Some (Temp 0)) ∷ []))

-- x = 0; while (x < 3) { if (input) break; x = x + 1; } return x;
abbrev interrupted : CsStmtTree
interrupted = in_scope (steps (
    store 0 (number 0)
    ∷ Block (Loop (at 2) (steps (
    load 0 0
    ∷ If (than comparisons.Less (Temp 0) (number 3)) Nothing (Exit 0)
    ∷ Input 1 ints.Int
    ∷ If (Temp 1) (Exit 0) Nothing
    ∷ load 1 0
    ∷ overflow_check (plus_one 1) 3
    ∷ Set 1 (plus_one 1)
    ∷ store 0 (Temp 1)
    ∷ [])))
    ∷ load 0 0
    ∷ Return (Some (Temp 0))
    ∷ []))

-- the value of a test, as its branches are reached
abbrev chosen : CsStmtTree
chosen = If (Temp 0) (Set 1 (number 1)) (Set 1 (number 0))

-- x = input ? 1 : 0; if (x < x) assert(0); return;
abbrev against_itself : CsStmtTree
against_itself = in_scope (steps (
    Input 0 ints.Int
    ∷ If (Temp 0) (store 0 (number 1)) (store 0 (number 0))
    ∷ load 0 0
    ∷ load 1 0
    ∷ If (is comparisons.Less) (Checked (record (of_zero kinds.AssertFailed (number 0)) { pos = at 9 })) Nothing
    ∷ Return None
    ∷ []))

-- x = input; x is above 2 in one copy, and below 2 in another; assert(0); return;
abbrev cut_twice : CsStmtTree
cut_twice = in_scope (steps (
    Input 0 ints.Int
    ∷ store 0 (Temp 0)
    ∷ load 0 0
    ∷ load 1 0
    ∷ Assume (than comparisons.Greater (Temp 0) (number 2))
    ∷ Assume (than comparisons.Less (Temp 1) (number 2))
    ∷ Checked (record (of_zero kinds.AssertFailed (number 0)) { pos = at 9 })
    ∷ Return None
    ∷ []))

-- how a run of main ends: not there; or with these numbers of the first two temporaries where it returns, and these suspects
pub data End : Type 0 where
  none_there : End
  returned : Option Behind → List Suspect → End

abbrev end_of : Ran → End
end_of ran = if ran.there then returned (option_map (λ p. numbers (p.temps 0) (p.temps 1)) (ran.exits ByReturn)) ran.suspects else none_there

abbrev ends : ℕ → CsStmtTree → End
ends bound body = end_of (plain_run bound (program body))

pub record RunsAre : Type 0 where
  pub within_the_bound : ends 3 (counted 3) ≡ returned (Some (numbers (point (pos 3)) (point (pos 3)))) []
  pub beyond_the_bound : ends 2 (counted 3) ≡ none_there
  pub no_turn : ends 0 (counted 0) ≡ returned (Some (numbers (point (pos 0)) (point (pos 0)))) []
  pub read_before_it_has_a_value : ends 0 unread ≡ returned (Some (numbers all_ints nil)) (record { at = at 5; kind = kinds.Indeterminate } ∷ [])
  pub object_is_cut_with_its_copy : ends 0 limited ≡ returned (Some (numbers all_ints (span (negsuc 2147483646) (pos 101)))) []
  pub static_object_is_zero : ends 0 (steps (load 0 1 ∷ Return (Some (Temp 0)) ∷ [])) ≡ returned (Some (numbers nil nil)) []
  pub no_goto : ends 0 (Goto 0) ≡ none_there
  pub nothing_behind_a_false_assumption : ends 0 (steps (Assume (number 0) ∷ Return None ∷ [])) ≡ returned None []
  pub one_branch_assigns : ends 0 one_branch ≡ returned (Some (numbers all_ints nil)) (record { at = at 7; kind = kinds.Indeterminate } ∷ [])
  pub both_branches_assign : ends 0 both_branches ≡ returned (Some (numbers (to 1 5) nil)) []
  pub exits_are_joined : ends 3 interrupted ≡ returned (Some (numbers (to 0 3) all_ints)) []
  pub exits_beyond_the_bound : ends 2 interrupted ≡ none_there
  pub assumption_cuts : ends 0 (steps (Input 0 ints.Int ∷ Assume (than comparisons.Less (Temp 0) (number 10)) ∷ Return None ∷ []))
      ≡ returned (Some (numbers (span (negsuc 2147483647) (pos 9)) nil)) []
  pub assertion_is_a_suspect : ends 0 (steps (Input 0 ints.Int ∷ Checked (record (of_zero kinds.AssertFailed (Temp 0)) { pos = at 9 }) ∷ Return None ∷ []))
      ≡ returned (Some (numbers all_ints nil)) (record { at = at 9; kind = kinds.AssertFailed } ∷ [])
  pub value_of_branches : ends 0 (steps (Input 0 ints.Int ∷ chosen ∷ Return None ∷ [])) ≡ returned (Some (numbers all_ints (to 0 1))) []
  pub object_is_not_below_itself : ends 0 against_itself ≡ returned (Some (numbers (to 0 1) (to 0 1))) []
  pub nothing_is_left_of_an_object : ends 0 cut_twice ≡ returned None []
  pub value_of_one_branch : ends 0 (steps (Set 0 (number 5) ∷ chosen ∷ Return None ∷ [])) ≡ returned (Some (numbers (point (pos 5)) (point (pos 1)))) []

-- all of them
pub record SamplesAre : Type 0 where
  pub values : ValuesAre
  pub tests : TestsAre
  pub checks : ChecksAre
  pub runs : RunsAre
