-- Ranges of what operators give on values.
use Rattle.std.proofs.Common.{◌≡◌, ◌≢◌, ℕ, ℤ, pos, neg_ℤ, inl, inr, arith, refl, sym, subst, ◌∙◌, Bool, true, false, Option, Some, None}
use Rattle.std.specs.Prelude.{◌==◌, not, if◌then◌else◌, ◌<ℤ◌}
use Rattle.std.specs.Int.RustNames.{FitsSigned, int_le, int_lt}
use Rattle.std.specs.Ordering.{int_eq}
use mir.Syntax.{w128}
use Rattle.std.proofs.lemmas.Int.{ints}
use Rattle.std.proofs.lemmas.Bool.{and_parts}
use Rattle.std.proofs.lemmas.Bool.Decides.{Decides-int_eq}
use Rattle.c_syntax_written.specs.declared.int_type.IntType.{IntType}
use Rattle.c_syntax_written.specs.declared.int_type.IntType.TheVariants as types
use Rattle.c_syntax_written.specs.Integer.{width, wrapped}
use Rattle.c_syntax.specs.declared.operator.Arithmetic.{Arithmetic}
use Rattle.c_syntax.specs.declared.operator.Arithmetic.TheVariants.{Multiply, Divide, Remainder, Add, Subtract, BitAnd, BitXor, BitOr}
use Rattle.c_syntax.specs.declared.operator.Shift.{Shift}
use Rattle.c_syntax.specs.declared.operator.Comparison.{Comparison}
use Rattle.c_syntax.specs.declared.operator.Comparison.TheVariants as comparisons
use Rattle.c_syntax.specs.declared.operator.TUnaryOp.TheVariants as unaries
use Rattle.c_syntax.specs.declared.operator.TBinaryOp.{TBinaryOp}
use Rattle.c_syntax.specs.declared.operator.TBinaryOp.TheVariants as binaries
use Rattle.block_mem.specs.declared.types.Scalar.TheVariants as scalars
use Rattle.block_mem.specs.declared.types.Value.{Value}
use Rattle.block_mem.specs.declared.types.Value.TheVariants as values
use Rattle.c_values.specs.Numbers.{compares}
use Rattle.c_values.specs.Numbers as numbers
use Rattle.c_values.specs.Values.{truth as is_true, bit}
use Rattle.c_values.specs.Operators.{unary_result, binary_result}
use Rattle.ext_int.proofs.Ends.{le-from_int_le}
use Rattle.num_api.specs.declared.message.Range.{Range}
use Rattle.num_api.specs.declared.expr.NOp.{NOp}
use Rattle.num_api.specs.declared.expr.NOp.TheVariants as ops
use Rattle.num_api.specs.Ranges.{InRange, IsPoint, NoWider}
use Rattle.num_api.specs.Spans.{Span, span, FitsSpan, range_of, unary_span}
use Rattle.num_api.specs.Value.{truth, unary_value}
use Rattle.num_api.proofs.Parts.{as_wide, only_number}
use Rattle.machine_nums.specs.Rule.{type_span, value_span}
use Rattle.machine_nums.specs.MExprs.{MExprTree, type_of}
use Rattle.machine_nums.specs.Rule.{exact_span}
use Rattle.machine_nums.specs.Laws.{IsDivision}
use Rattle.machine_nums.specs.Wrapping.{IsWrapping}
use Rattle.machine_nums.specs.declared.wrapping.Way.{Way}
use Rattle.machine_nums.proofs.Rules.{kept_or_all, converted_fits}
use Rattle.machine_nums.proofs.Values.{has-wrapped, wrapped-has}
use Rattle.machine_nums.proofs.Wrapped.{inside_has, has_inside, point_holds}
use Rattle.mem_temps.proofs.Wraps.{wrapped_under}
use Rattle.csharp.specs.States.{takes_right, if_taken}
use Rattle.mem_temps.specs.Values.{number_of, IsNoObject}
use Rattle.mem_temps.specs.Operators.{LiesIn, MayDivide, IsArithmetic, IsAmount, IsShifted, IsComplement, IsTestRange, IsCompared, IsUnary, IsBinary}
use Rattle.mem_temps.proofs.Bounds.{number_fits, minus_fits}
use Rattle.mem_temps.proofs.Results.{truth_has}

-- ---- comparisons

pub compared_less : (r s found : Range) → IsTestRange ops.Lt r s found → IsCompared comparisons.Less r s found
compared_less r s found f = record {
  inside = f.inside;
  holds = λ a b i j. f.holds a b (int_lt a b) i j refl;
  point = λ a b p q. f.point a b (int_lt a b) p q refl;
  plain = λ given a b u v. f.plain (value_span given a) (value_span given b) u (converted_fits (type_of a) (exact_span given a)) v (converted_fits (type_of b) (exact_span given b));
}

pub compared_greater : (r s found : Range) → IsTestRange ops.Lt s r found → IsCompared comparisons.Greater r s found
compared_greater r s found f = record {
  inside = f.inside;
  holds = λ a b i j. f.holds b a (int_lt b a) j i refl;
  point = λ a b p q. f.point b a (int_lt b a) q p refl;
  plain = λ given a b u v. f.plain (value_span given b) (value_span given a) v (converted_fits (type_of b) (exact_span given b)) u (converted_fits (type_of a) (exact_span given a));
}

pub compared_at_most : (r s found : Range) → IsTestRange ops.Le r s found → IsCompared comparisons.AtMost r s found
compared_at_most r s found f = record {
  inside = f.inside;
  holds = λ a b i j. f.holds a b (int_le a b) i j refl;
  point = λ a b p q. f.point a b (int_le a b) p q refl;
  plain = λ given a b u v. f.plain (value_span given a) (value_span given b) u (converted_fits (type_of a) (exact_span given a)) v (converted_fits (type_of b) (exact_span given b));
}

pub compared_at_least : (r s found : Range) → IsTestRange ops.Le s r found → IsCompared comparisons.AtLeast r s found
compared_at_least r s found f = record {
  inside = f.inside;
  holds = λ a b i j. f.holds b a (int_le b a) j i refl;
  point = λ a b p q. f.point b a (int_le b a) q p refl;
  plain = λ given a b u v. f.plain (value_span given b) (value_span given a) v (converted_fits (type_of b) (exact_span given b)) u (converted_fits (type_of a) (exact_span given a));
}

pub compared_equal : (r s found : Range) → IsTestRange ops.Eq r s found → IsCompared comparisons.Equal r s found
compared_equal r s found f = record {
  inside = f.inside;
  holds = λ a b i j. f.holds a b (int_eq a b) i j refl;
  point = λ a b p q. f.point a b (int_eq a b) p q refl;
  plain = λ given a b u v. f.plain (value_span given a) (value_span given b) u (converted_fits (type_of a) (exact_span given a)) v (converted_fits (type_of b) (exact_span given b));
}

pub compared_unequal : (r s found : Range) → IsTestRange ops.Ne r s found → IsCompared comparisons.Unequal r s found
compared_unequal r s found f = record {
  inside = f.inside;
  holds = λ a b i j. f.holds a b (not (int_eq a b)) i j refl;
  point = λ a b p q. f.point a b (not (int_eq a b)) p q refl;
  plain = λ given a b u v. f.plain (value_span given a) (value_span given b) u (converted_fits (type_of a) (exact_span given a)) v (converted_fits (type_of b) (exact_span given b));
}

-- ---- one operand

-- what a value is that an option gives
given : (P : Value → Type 0) (v w : Value) → Some v ≡ Some w → P v → P w
given P v w e p = let same : v ≡ w = cc in subst P same p

same_type : (P : IntType → Type 0) (t u : IntType) → scalars.Int t ≡ scalars.Int u → P t → P u
same_type P t u e p = let same : t ≡ u = cc in subst P same p

pub plus_range : (t : IntType) (r : Range) → IsUnary (unaries.Plus t) r r
plus_range t r = record {
  holds = held;
  point = λ fit. only;
  inside = λ fit u e. same_type (λ x. LiesIn x r) t u e fit;
  plain = λ fit g a under. kept_or_all (λ (z : Span). NoWider r (range_of z)) t (Some (value_span g a)) fit
      (λ z e f. let same : value_span g a ≡ z = cc in subst (λ (y : Span). NoWider r (range_of y)) same under);
} where
  held : (v w : Value) → InRange r (number_of v) → unary_result (unaries.Plus t) v ≡ Some w → InRange r (number_of w)
  held (values.Int u n) w i e = given (λ x. InRange r (number_of x)) (values.Int t n) w e i
  held (values.Ptr p) w i e = absurd (cc)
  held values.Null w i e = absurd (cc)

  only : (v w : Value) → IsNoObject v → IsPoint r (number_of v) → unary_result (unaries.Plus t) v ≡ Some w → IsPoint r (number_of w) × IsNoObject w
  only (values.Int u n) w o p e = given (λ x. IsPoint r (number_of x) × IsNoObject x) (values.Int t n) w e (p, tt)
  only (values.Ptr q) w o p e = absurd (cc)
  only values.Null w o p e = absurd (cc)

-- what is told of a range of one operand's results
abbrev pub IsOne : NOp → Range → Range → Type 0
IsOne op r found =
    ((x n : ℤ) → InRange r x → unary_value op x ≡ Some n → InRange found n)
    × ((x n : ℤ) → IsPoint r x → unary_value op x ≡ Some n → FitsSigned w128 n → IsPoint found n)
    × ((s u : Span) → NoWider r (range_of s) → FitsSpan s → unary_span op s ≡ Some u → FitsSpan u → NoWider found (range_of u))

pub minus_range : (t : IntType) (r found taken : Range) (way : Way) → IsOne ops.Neg r found → IsWrapping t found way taken → IsUnary (unaries.Minus t) r taken
minus_range t r found taken way f w = record {
  holds = held;
  point = only;
  inside = λ fit u e. same_type (λ x. LiesIn x taken) t u e w.takes.inside;
  plain = λ fit g a under. wrapped_under t found taken way (unary_span ops.Neg (value_span g a)) w
      (λ z e h. f.2 (value_span g a) z under (converted_fits (type_of a) (exact_span g a)) e h);
} where
  held : (v w : Value) → InRange r (number_of v) → unary_result (unaries.Minus t) v ≡ Some w → InRange taken (number_of w)
  held (values.Int u n) x i e = given (λ y. InRange taken (number_of y)) (values.Int t (wrapped t (neg_ℤ n))) x e (w.takes.holds _ (f.0 n _ i refl))
  held (values.Ptr p) x i e = absurd (cc)
  held values.Null x i e = absurd (cc)

  only : LiesIn t r → (v x : Value) → IsNoObject v → IsPoint r (number_of v) → unary_result (unaries.Minus t) v ≡ Some x → IsPoint taken (number_of x) × IsNoObject x
  only fit (values.Int u n) x o p e =
      given (λ y. IsPoint taken (number_of y) × IsNoObject y) (values.Int t (wrapped t (neg_ℤ n))) x e
      (w.point _ (f.1 n _ p refl (minus_fits t n (inside_has t r n fit (point_holds r n p)))), tt)
  only fit (values.Ptr q) x o p e = absurd (cc)
  only fit values.Null x o p e = absurd (cc)

pub turned_range : (t : IntType) (r found : Range) → IsComplement t r found → IsUnary (unaries.Complement t) r found
turned_range t r found f = record {
  holds = held;
  point = only;
  inside = λ fit u e. same_type (λ x. LiesIn x found) t u e f.inside;
  plain = λ fit g a under. f.plain fit (value_span g a) under (converted_fits (type_of a) (exact_span g a));
} where
  held : (v w : Value) → InRange r (number_of v) → unary_result (unaries.Complement t) v ≡ Some w → InRange found (number_of w)
  held (values.Int u n) x i e = given (λ y. InRange found (number_of y)) (values.Int t (numbers.complement t n)) x e (f.holds n i)
  held (values.Ptr p) x i e = absurd (cc)
  held values.Null x i e = absurd (cc)

  only : LiesIn t r → (v x : Value) → IsNoObject v → IsPoint r (number_of v) → unary_result (unaries.Complement t) v ≡ Some x → IsPoint found (number_of x) × IsNoObject x
  only fit (values.Int u n) x o p e = given (λ y. IsPoint found (number_of y) × IsNoObject y) (values.Int t (numbers.complement t n)) x e (f.point fit n p, tt)
  only fit (values.Ptr q) x o p e = absurd (cc)
  only fit values.Null x o p e = absurd (cc)

twice : (b : Bool) → truth b ≡ number_of (bit (not (not b)))
twice true = refl
twice false = refl

-- a value is 0 where its test fails
tested : (v : Value) → truth (int_eq (number_of v) (pos 0)) ≡ number_of (bit (not (is_true v)))
tested (values.Int t n) = twice (int_eq n (pos 0))
tested (values.Ptr p) = refl
tested values.Null = refl

pub not_range : (r found taken : Range) (way : Way) → IsOne ops.Not r found → IsWrapping types.Int found way taken → IsUnary unaries.Not r taken
not_range r found taken way f w = record {
  holds = λ v x i e. given (λ y. InRange taken (number_of y)) (bit (not (is_true v))) x e (subst (InRange taken) (value v) (w.takes.holds _ (f.0 (number_of v) _ i refl)));
  point = λ fit v x o p e. given (λ y. IsPoint taken (number_of y) × IsNoObject y) (bit (not (is_true v))) x e
      (subst (IsPoint taken) (value v) (w.point _ (f.1 (number_of v) _ p refl (number_fits types.Int _ (truth_has (int_eq (number_of v) (pos 0)))))), tt);
  inside = λ fit u e. same_type (λ x. LiesIn x taken) types.Int u e w.takes.inside;
  plain = λ fit g a under. wrapped_under types.Int found taken way (unary_span ops.Not (value_span g a)) w
      (λ z e h. f.2 (value_span g a) z under (converted_fits (type_of a) (exact_span g a)) e h);
} where
  value : (v : Value) → wrapped types.Int (truth (int_eq (number_of v) (pos 0))) ≡ number_of (bit (not (is_true v)))
  value v = wrapped-has types.Int _ (truth_has (int_eq (number_of v) (pos 0))) ∙ tested v

-- ---- two operands

pub taken_value : {A : Type 0} (b : Bool) (o : Option A) (x : A) → (if b then o else None) ≡ Some x → (b ≡ true) × (o ≡ Some x)
taken_value true o x e = (refl, e)
taken_value false o x e = absurd (cc)

nothing : {A : Type 0} (b : Bool) (x : A) → (if b then None else None) ≡ Some x → ⊥
nothing true x e = absurd (cc)
nothing false x e = absurd (cc)

not_zero : (b : ℤ) → not (int_eq b (pos 0)) ≡ true → b ≢ pos 0
not_zero b e same = let yes = (Decides-int_eq b (pos 0)).1 same in opposite (int_eq b (pos 0)) e yes where
  opposite : (t : Bool) → not t ≡ true → t ≡ true → ⊥
  opposite true h k = absurd (cc)
  opposite false h k = absurd (cc)

pub divides : (op : Arithmetic) (t u : IntType) (b : ℤ) → takes_right (binaries.Arithmetic op t) (values.Int u b) ≡ true → MayDivide op b
divides Divide t u b e = λ d. not_zero b e
divides Remainder t u b e = λ d. not_zero b e
divides Multiply t u b e = none where
  none : IsDivision Multiply → b ≢ pos 0
  none (inl h) = absurd (cc)
  none (inr h) = absurd (cc)
divides Add t u b e = none where
  none : IsDivision Add → b ≢ pos 0
  none (inl h) = absurd (cc)
  none (inr h) = absurd (cc)
divides Subtract t u b e = none where
  none : IsDivision Subtract → b ≢ pos 0
  none (inl h) = absurd (cc)
  none (inr h) = absurd (cc)
divides BitAnd t u b e = none where
  none : IsDivision BitAnd → b ≢ pos 0
  none (inl h) = absurd (cc)
  none (inr h) = absurd (cc)
divides BitXor t u b e = none where
  none : IsDivision BitXor → b ≢ pos 0
  none (inl h) = absurd (cc)
  none (inr h) = absurd (cc)
divides BitOr t u b e = none where
  none : IsDivision BitOr → b ≢ pos 0
  none (inl h) = absurd (cc)
  none (inr h) = absurd (cc)

pub amount : (way : Shift) (t u : IntType) (k : ℤ) → takes_right (binaries.Shift way t) (values.Int u k) ≡ true → IsAmount t k
amount way t u k e =
    let both = and_parts (int_le (pos 0) k) (int_lt k (pos (width t))) e in (le-from_int_le (pos 0) k both.0, less k (pos (width t)) both.1)
  where
    less : (x y : ℤ) → int_lt x y ≡ true → x <ℤ y
    less x y h = omega (arith, ints, h)

-- what a result has that is only there where the operator takes its operands
module _ (P : Value → Type 0) (op : TBinaryOp) (v u w : Value) (e : if_taken op (binary_result op) v u ≡ Some w) where
  is_taken : takes_right op u ≡ true
  is_taken = (taken_value (takes_right op u) (binary_result op v u) w e).0

  is_result : binary_result op v u ≡ Some w
  is_result = (taken_value (takes_right op u) (binary_result op v u) w e).1

pub arithmetic_value : (op : Arithmetic) (t : IntType) (r s found : Range) → IsArithmetic op t r s found → IsBinary (binaries.Arithmetic op t) r s found
arithmetic_value op t r s found f = record {
  holds = held;
  point = only;
  inside = λ fit u e. same_type (λ x. LiesIn x found) t u e f.inside;
  plain = λ fit g a b m under also e. of_tree (λ x. NoWider found (range_of (value_span g x))) m e
      (f.plain fit.0 fit.1 (value_span g a) (value_span g b) under (converted_fits (type_of a) (exact_span g a)) also (converted_fits (type_of b) (exact_span g b)));
} where
  of_tree : {x : MExprTree} (P : MExprTree → Type 0) (m : MExprTree) → Some x ≡ Some m → P x → P m
  of_tree {x = x} P m e p = let same : x ≡ m = cc in subst P same p

  divisor : (v u w : Value) (b : ℤ) (tb : IntType) → u ≡ values.Int tb b → if_taken (binaries.Arithmetic op t) (binary_result (binaries.Arithmetic op t)) v u ≡ Some w → MayDivide op b
  divisor v u w b tb is e =
      divides op t tb b (subst (λ (x : Value). takes_right (binaries.Arithmetic op t) x ≡ true) is (is_taken (λ x. Unit {0}) (binaries.Arithmetic op t) v u w e))

  held : (v u w : Value) → InRange r (number_of v) → InRange s (number_of u) → if_taken (binaries.Arithmetic op t) (binary_result (binaries.Arithmetic op t)) v u ≡ Some w
      → InRange found (number_of w)
  held (values.Int ta a) (values.Int tb b) w i j e = given (λ x. InRange found (number_of x)) (values.Int t (numbers.arithmetic op t a b)) w
      (is_result (λ x. Unit {0}) (binaries.Arithmetic op t) (values.Int ta a) (values.Int tb b) w e) (f.holds a b i j (divisor (values.Int ta a) (values.Int tb b) w b tb refl e))
  held v u w i j e = let none = is_result (λ x. Unit {0}) (binaries.Arithmetic op t) v u w e in absurd (cc)

  only : LiesIn t r × LiesIn t s → (v u w : Value) → IsNoObject v → IsNoObject u → IsPoint r (number_of v) → IsPoint s (number_of u)
      → if_taken (binaries.Arithmetic op t) (binary_result (binaries.Arithmetic op t)) v u ≡ Some w → IsPoint found (number_of w) × IsNoObject w
  only fit (values.Int ta a) (values.Int tb b) w o n p q e = given (λ x. IsPoint found (number_of x) × IsNoObject x) (values.Int t (numbers.arithmetic op t a b)) w
      (is_result (λ x. Unit {0}) (binaries.Arithmetic op t) (values.Int ta a) (values.Int tb b) w e)
      (f.point fit.0 fit.1 a b p q (divisor (values.Int ta a) (values.Int tb b) w b tb refl e), tt)
  only fit v u w o n p q e = let none = is_result (λ x. Unit {0}) (binaries.Arithmetic op t) v u w e in absurd (cc)

pub shift_value : (way : Shift) (t : IntType) (r s found : Range) → IsShifted way t r s found → IsBinary (binaries.Shift way t) r s found
shift_value way t r s found f = record {
  holds = held;
  point = only;
  inside = λ fit u e. same_type (λ x. LiesIn x found) t u e (f.inside fit);
  plain = λ fit g a b m under also e. of_tree (λ x. NoWider found (range_of (value_span g x))) m e
      (f.plain fit (value_span g a) (value_span g b) under (converted_fits (type_of a) (exact_span g a)) also (converted_fits (type_of b) (exact_span g b)));
} where
  of_tree : {x : MExprTree} (P : MExprTree → Type 0) (m : MExprTree) → Some x ≡ Some m → P x → P m
  of_tree {x = x} P m e p = let same : x ≡ m = cc in subst P same p

  held : (v u w : Value) → InRange r (number_of v) → InRange s (number_of u) → if_taken (binaries.Shift way t) (binary_result (binaries.Shift way t)) v u ≡ Some w
      → InRange found (number_of w)
  held (values.Int ta a) (values.Int tb b) w i j e = given (λ x. InRange found (number_of x)) (values.Int t (numbers.shifted way t a b)) w
      (is_result (λ x. Unit {0}) (binaries.Shift way t) (values.Int ta a) (values.Int tb b) w e)
      (f.holds a b i j (amount way t tb b (is_taken (λ x. Unit {0}) (binaries.Shift way t) (values.Int ta a) (values.Int tb b) w e)))
  held v u w i j e = let none = is_result (λ x. Unit {0}) (binaries.Shift way t) v u w e in absurd (cc)

  only : LiesIn t r → (v u w : Value) → IsNoObject v → IsNoObject u → IsPoint r (number_of v) → IsPoint s (number_of u)
      → if_taken (binaries.Shift way t) (binary_result (binaries.Shift way t)) v u ≡ Some w → IsPoint found (number_of w) × IsNoObject w
  only fit (values.Int ta a) (values.Int tb b) w o n p q e = given (λ x. IsPoint found (number_of x) × IsNoObject x) (values.Int t (numbers.shifted way t a b)) w
      (is_result (λ x. Unit {0}) (binaries.Shift way t) (values.Int ta a) (values.Int tb b) w e)
      (f.point fit a b p q (amount way t tb b (is_taken (λ x. Unit {0}) (binaries.Shift way t) (values.Int ta a) (values.Int tb b) w e)), tt)
  only fit v u w o n p q e = let none = is_result (λ x. Unit {0}) (binaries.Shift way t) v u w e in absurd (cc)

bit_number : (b : Bool) → number_of (bit b) ≡ truth b
bit_number true = refl
bit_number false = refl

pub compare_value : (c : Comparison) (t : IntType) (r s found : Range) → IsCompared c r s found → IsBinary (binaries.CompareInts c t) r s found
compare_value c t r s found f = record {
  holds = held;
  point = λ fit. only;
  inside = λ fit u e. same_type (λ x. LiesIn x found) types.Int u e f.inside;
  plain = λ fit g a b m under also e. of_tree (λ x. NoWider found (range_of (value_span g x))) m e (f.plain g a b under also);
} where
  of_tree : {x : MExprTree} (P : MExprTree → Type 0) (m : MExprTree) → Some x ≡ Some m → P x → P m
  of_tree {x = x} P m e p = let same : x ≡ m = cc in subst P same p

  held : (v u w : Value) → InRange r (number_of v) → InRange s (number_of u) → if_taken (binaries.CompareInts c t) (binary_result (binaries.CompareInts c t)) v u ≡ Some w
      → InRange found (number_of w)
  held (values.Int ta a) (values.Int tb b) w i j e = given (λ x. InRange found (number_of x)) (bit (compares c a b)) w e
      (subst (InRange found) (sym (bit_number (compares c a b))) (f.holds a b i j))
  held v u w i j e = absurd (cc)

  only : (v u w : Value) → IsNoObject v → IsNoObject u → IsPoint r (number_of v) → IsPoint s (number_of u)
      → if_taken (binaries.CompareInts c t) (binary_result (binaries.CompareInts c t)) v u ≡ Some w → IsPoint found (number_of w) × IsNoObject w
  only (values.Int ta a) (values.Int tb b) w o n p q e = given (λ x. IsPoint found (number_of x) × IsNoObject x) (bit (compares c a b)) w e
      (subst (IsPoint found) (sym (bit_number (compares c a b))) (f.point a b p q), tt)
  only v u w o n p q e = absurd (cc)

-- ---- pointers

zero_or_one : (b : Bool) → InRange (range_of (span (pos 0) (pos 1))) (number_of (bit b))
zero_or_one true = record { low = omega (arith, ints); high = omega (arith, ints) }
zero_or_one false = record { low = omega (arith, ints); high = omega (arith, ints) }

inside_int : LiesIn types.Int (range_of (span (pos 0) (pos 1)))
inside_int = record { low = omega (arith, ints); high = omega (arith, ints) }

any_bit : (c : Comparison) (b : Bool) (a x y z : ℤ) (w : Value) → (if b then Some (bit (compares c a x)) else Some (bit (compares c y z))) ≡ Some w
    → InRange (range_of (span (pos 0) (pos 1))) (number_of w)
any_bit c true a x y z w e = given (λ x. InRange (range_of (span (pos 0) (pos 1))) (number_of x)) (bit (compares c a x)) w e (zero_or_one (compares c a x))
any_bit c false a x y z w e = given (λ x. InRange (range_of (span (pos 0) (pos 1))) (number_of x)) (bit (compares c y z)) w e (zero_or_one (compares c y z))

in_bits : (b : Bool) (w : Value) → Some (bit b) ≡ Some w → InRange (range_of (span (pos 0) (pos 1))) (number_of w)
in_bits b w e = given (λ x. InRange (range_of (span (pos 0) (pos 1))) (number_of x)) (bit b) w e (zero_or_one b)

pub either_value : (c : Comparison) (r s found : Range) → found ≡ range_of (span (pos 0) (pos 1)) → (IsPoint r (pos 0) → IsPoint s (pos 0) → ⊥)
    → IsBinary (binaries.ComparePointers c) r s found
either_value c r s found is out = subst (IsBinary (binaries.ComparePointers c) r s) (sym is) (record {
  holds = held;
  point = λ fit. only;
  inside = λ fit u e. same_type (λ x. LiesIn x (range_of (span (pos 0) (pos 1)))) types.Int u e inside_int;
  plain = λ fit g a b m under also e. absurd (cc);
}) where
  held : (v u w : Value) → InRange r (number_of v) → InRange s (number_of u) → binary_result (binaries.ComparePointers c) v u ≡ Some w
      → InRange (range_of (span (pos 0) (pos 1))) (number_of w)
  held (values.Ptr p) (values.Ptr q) w i j e = any_bit c (p.block == q.block) p.offset q.offset (pos 0) (pos 1) w e
  held (values.Ptr p) values.Null w i j e = in_bits (compares c (pos 1) (pos 0)) w e
  held values.Null (values.Ptr q) w i j e = in_bits (compares c (pos 0) (pos 1)) w e
  held values.Null values.Null w i j e = in_bits (compares c (pos 0) (pos 0)) w e
  held v u w i j e = absurd (cc)

  only : (v u w : Value) → IsNoObject v → IsNoObject u → IsPoint r (number_of v) → IsPoint s (number_of u) → binary_result (binaries.ComparePointers c) v u ≡ Some w
      → IsPoint (range_of (span (pos 0) (pos 1))) (number_of w) × IsNoObject w
  only values.Null values.Null w o n p q e = absurd (out p q)
  only (values.Ptr a) u w o n p q e = absurd o
  only values.Null (values.Ptr b) w o n p q e = absurd n
  only v u w o n p q e = absurd (cc)

pub null_value : (c : Comparison) (r s found : Range) → IsCompared c r s found → IsPoint r (pos 0) → IsPoint s (pos 0) → IsBinary (binaries.ComparePointers c) r s found
null_value c r s found f left right = record {
  holds = held;
  point = λ fit. only;
  inside = λ fit u e. same_type (λ x. LiesIn x found) types.Int u e f.inside;
  plain = λ fit g a b m under also e. absurd (cc);
} where
  one : (x : Range) → IsPoint x (pos 0) → InRange x (pos 1) → ⊥
  one x p i = let same = only_number x (pos 0) (pos 1) p i in absurd (omega (arith, ints, same))

  held : (v u w : Value) → InRange r (number_of v) → InRange s (number_of u) → binary_result (binaries.ComparePointers c) v u ≡ Some w → InRange found (number_of w)
  held (values.Ptr p) u w i j e = absurd (one r left i)
  held values.Null (values.Ptr q) w i j e = absurd (one s right j)
  held values.Null values.Null w i j e = given (λ x. InRange found (number_of x)) (bit (compares c (pos 0) (pos 0))) w e
      (subst (InRange found) (sym (bit_number (compares c (pos 0) (pos 0)))) (f.holds (pos 0) (pos 0) i j))
  held v u w i j e = absurd (cc)

  only : (v u w : Value) → IsNoObject v → IsNoObject u → IsPoint r (number_of v) → IsPoint s (number_of u) → binary_result (binaries.ComparePointers c) v u ≡ Some w
      → IsPoint found (number_of w) × IsNoObject w
  only values.Null values.Null w o n p q e = given (λ x. IsPoint found (number_of x) × IsNoObject x) (bit (compares c (pos 0) (pos 0))) w e
      (subst (IsPoint found) (sym (bit_number (compares c (pos 0) (pos 0)))) (f.point (pos 0) (pos 0) p q), tt)
  only (values.Ptr a) u w o n p q e = absurd o
  only values.Null (values.Ptr b) w o n p q e = absurd n
  only v u w o n p q e = absurd (cc)

pub difference_value : (k : ℕ) (r s found : Range) → found ≡ range_of (type_span types.Long) → IsBinary (binaries.PointerMinusPointer k) r s found
difference_value k r s found is = subst (IsBinary (binaries.PointerMinusPointer k) r s) (sym is) (record {
  holds = held;
  point = λ fit. only;
  inside = λ fit u e. same_type (λ x. LiesIn x (range_of (type_span types.Long))) types.Long u e (as_wide (range_of (type_span types.Long)));
  plain = λ fit g a b m under also e. absurd (cc);
}) where
  held : (v u w : Value) → InRange r (number_of v) → InRange s (number_of u) → binary_result (binaries.PointerMinusPointer k) v u ≡ Some w
      → InRange (range_of (type_span types.Long)) (number_of w)
  held (values.Ptr p) (values.Ptr q) w i j e = given (λ x. InRange (range_of (type_span types.Long)) (number_of x)) (values.Int types.Long (wrapped types.Long _)) w e
      (has_inside types.Long (wrapped types.Long _) (has-wrapped types.Long _))
  held v u w i j e = absurd (cc)

  only : (v u w : Value) → IsNoObject v → IsNoObject u → IsPoint r (number_of v) → IsPoint s (number_of u) → binary_result (binaries.PointerMinusPointer k) v u ≡ Some w
      → IsPoint (range_of (type_span types.Long)) (number_of w) × IsNoObject w
  only (values.Ptr p) u w o n a b e = absurd o
  only v u w o n a b e = absurd (cc)
