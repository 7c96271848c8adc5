-- Exact results that are checked.
use Rattle.std.proofs.Common.{inl, inr, ◌⊎◌, ◌∙◌, ap, Option, ◌≡◌, ◌≢◌, ◌≤◌, ◌^◌, ◌*◌, ℕ, ℤ, pos, negsuc, neg_ℤ, ◌+ℤ◌, ◌-ℤ◌, ◌*ℤ◌, arith, refl, sym, subst, Bool, true, false, Some, None, List}
use Rattle.std.specs.Prelude.{IsTrue, if◌then◌else◌, ◌&&◌, option_and_then, slice_get}
use Rattle.std.specs.Int.{int_min, int_max}
use Rattle.std.specs.Int.RustNames.{FitsSigned, int_div, int_lt, unsigned_abs}
use Rattle.std.specs.Ordering.{int_eq}
use mir.Syntax.{w128}
use Rattle.std.proofs.lemmas.Int.{ints, unsigned_abs-mul, fits_signed_from_abs}
use Rattle.std.proofs.lemmas.Bool.Decides.{Decides-int_eq}
use Rattle.std.proofs.Math.Nat.{mul-le-mul}
use Rattle.c_syntax_written.specs.declared.int_type.IntType.{IntType}
use Rattle.c_syntax_written.specs.declared.int_type.IntType.TheVariants as types
use Rattle.c_syntax_written.specs.Integer.{HasNumber, is_signed, least, greatest, width}
use Rattle.c_layout.specs.Checks.{range_check}
use Rattle.c_syntax.specs.declared.alarm.Check.{Check}
use Rattle.c_syntax.specs.declared.alarm.WrongKind.{WrongKind}
use Rattle.c_syntax.specs.declared.alarm.WrongKind.TheVariants as kinds
use Rattle.c_syntax.specs.declared.operator.Arithmetic.{Arithmetic}
use Rattle.c_syntax.specs.declared.operator.Arithmetic.TheVariants as arithmetics
use Rattle.c_syntax.specs.declared.operator.Comparison.{Comparison}
use Rattle.c_syntax.specs.declared.operator.Comparison.TheVariants as comparisons
use Rattle.c_syntax.specs.declared.operator.Shift.TheVariants as shifts
use Rattle.c_syntax.specs.declared.operator.TUnaryOp.{TUnaryOp}
use Rattle.c_syntax.specs.declared.operator.TUnaryOp.TheVariants as unaries
use Rattle.c_syntax.specs.declared.operator.TBinaryOp.{TBinaryOp}
use Rattle.c_syntax.specs.declared.operator.TBinaryOp.TheVariants as binaries
use Rattle.c_syntax.specs.Operand.{Number}
use Rattle.block_mem.specs.declared.types.Scalar.{Scalar}
use Rattle.block_mem.specs.declared.types.Scalar.TheVariants as scalars
use Rattle.block_mem.specs.declared.types.Value.{Value}
use Rattle.block_mem.specs.declared.types.Value.TheVariants as values
use Rattle.c_values.specs.Places.{ObjectMemory}
use Rattle.c_values.specs.Typed.{TakesBoth, unary_type, binary_type}
use Rattle.c_values.specs.Numbers.{exact_arithmetic, exact_shift}
use Rattle.c_values.specs.Operators.{exact_binary, unary_operand}
use Rattle.num_api.specs.declared.message.Range.{Range}
use Rattle.num_api.specs.declared.expr.NOp.{NOp}
use Rattle.num_api.specs.declared.expr.NOp.TheVariants as ops
use Rattle.num_api.specs.Ranges.{InRange, IsPoint, NoWider, holds_some}
use Rattle.num_api.specs.Spans.{Span, FitsSpan, range_of, span, point, corners, joined, quotients, quotients_by, below_zero, above_zero, of_points, option_point}
use Rattle.ext_int.proofs.Ends.{holds_number_from, number_between as number_in}
use Rattle.num_api.proofs.Parts.{wider, in_point}
use Rattle.machine_nums.specs.MExprs.{MExprTree, type_of}
use Rattle.machine_nums.specs.MExprs as numbers
use Rattle.machine_nums.specs.Rule.{exact_span, value_span, typed_span, type_span, is_number, or_type}
use Rattle.machine_nums.proofs.Rules.{converted_fits, kept_or_all, ends_fit, number_between}
use Rattle.plain_runs.specs.States.{given}
use Rattle.plain_runs.specs.Numbers.{number_expr, number_op, shift_op, compared, read, of_one, of_two}
use Rattle.plain_runs.specs.Checks.{quotient_of}
use Rattle.num_api.specs.Value.{binary_value}
use Rattle.machine_nums.proofs.Wrapped.{inside_has, point_holds, point_from, in_between}
use Rattle.csharp.specs.Trees.{CsExprTree, Unary, Binary, CsProgramTree}
use Rattle.csharp.specs.Trees as trees
use Rattle.csharp.specs.Formed.{FitsOperand, HasType, signed_check, arithmetic_check}
use Rattle.csharp.specs.States.{takes_right, if_taken, value_of}
use Rattle.mem_temps.specs.Values.{number_of}
use Rattle.mem_temps.specs.Operators.{LiesIn, MayDivide, IsAmount}
use Rattle.mem_temps.specs.Checks.{IsSmall, AreOfType, IsExact, IsExactUnary, IsExactOf, asked, quotiented}
use Rattle.mem_temps.specs.Exprs.{IsRangeOf}
use Rattle.mem_temps.proofs.Bounds.{quotient_size, power_size, size_of_number}
use Rattle.mem_temps.specs.Found.{IsFound}
use Rattle.mem_temps.proofs.Results.{small_width}
use Rattle.mem_temps.proofs.Valued.{taken_value, divides, amount, IsOne}
use Rattle.mem_temps.proofs.Ranged.{and_then_some, map_some, unary_fits, binary_fits, both_types, int_type}

-- ---- sizes

pub small_from : (n : ℤ) → unsigned_abs n ≤ 2 ^ 126 → IsSmall n
small_from (pos n) h = (omega (arith, ints), omega (arith, ints))
small_from (negsuc n) h = (omega (arith, ints), omega (arith, ints))

pub fits_from : (n : ℤ) → unsigned_abs n ≤ 2 ^ 126 → FitsSigned w128 n
fits_from n h = fits_signed_from_abs w128 n (omega arith)

-- a signed number
pub signed_size : (t : IntType) (n : ℤ) → is_signed t ≡ true → HasNumber t n → unsigned_abs n ≤ 2 ^ 63
signed_size types.Char n s h = omega (arith, ints)
signed_size types.SChar n s h = omega (arith, ints)
signed_size types.UChar n s h = absurd (cc)
signed_size types.Short n s h = omega (arith, ints)
signed_size types.UShort n s h = absurd (cc)
signed_size types.Int n s h = omega (arith, ints)
signed_size types.UInt n s h = absurd (cc)
signed_size types.Long n s h = omega (arith, ints)
signed_size types.ULong n s h = absurd (cc)
signed_size types.LLong n s h = omega (arith, ints)
signed_size types.ULLong n s h = absurd (cc)

product_size : (a b : ℤ) → unsigned_abs a ≤ 2 ^ 63 → unsigned_abs b ≤ 2 ^ 63 → unsigned_abs (a *ℤ b) ≤ 2 ^ 126
product_size a b h k = let e = unsigned_abs-mul a b in let m : unsigned_abs a * unsigned_abs b ≤ 2 ^ 63 * 2 ^ 63 = mul-le-mul h k in omega (arith, e, m)

sum_size : (a b : ℤ) → unsigned_abs a ≤ 2 ^ 63 → unsigned_abs b ≤ 2 ^ 63 → unsigned_abs (a +ℤ b) ≤ 2 ^ 126
sum_size a b h k = omega (arith, ints)

difference_size : (a b : ℤ) → unsigned_abs a ≤ 2 ^ 63 → unsigned_abs b ≤ 2 ^ 63 → unsigned_abs (a -ℤ b) ≤ 2 ^ 126
difference_size a b h k = omega (arith, ints)

minus_size : (a : ℤ) → unsigned_abs a ≤ 2 ^ 63 → unsigned_abs (neg_ℤ a) ≤ 2 ^ 126
minus_size a h = omega (arith, ints)

-- ---- ends of results

-- both ends are at most 2 to the 63 in size
record Sized (s : Span) : Type 0 where
  low : unsigned_abs s.lo ≤ 2 ^ 63
  high : unsigned_abs s.hi ≤ 2 ^ 63

number_has : (t : IntType) (n : ℤ) → is_number t n ≡ true → HasNumber t n
number_has t n e = let b = number_between t n e in inside_has t (range_of (point n)) n (record { low = b.0; high = b.1 }) (in_point n n refl)

type_sized : (t : IntType) → is_signed t ≡ true → Sized (type_span t)
type_sized types.Char e = record { low = omega (arith, ints); high = omega (arith, ints) }
type_sized types.SChar e = record { low = omega (arith, ints); high = omega (arith, ints) }
type_sized types.UChar e = absurd (cc)
type_sized types.Short e = record { low = omega (arith, ints); high = omega (arith, ints) }
type_sized types.UShort e = absurd (cc)
type_sized types.Int e = record { low = omega (arith, ints); high = omega (arith, ints) }
type_sized types.UInt e = absurd (cc)
type_sized types.Long e = record { low = omega (arith, ints); high = omega (arith, ints) }
type_sized types.ULong e = absurd (cc)
type_sized types.LLong e = record { low = omega (arith, ints); high = omega (arith, ints) }
type_sized types.ULLong e = absurd (cc)

-- the numbers of an operand of a signed type
value_sized : (t : IntType) (ranges : ℕ → Range) (l : MExprTree) → type_of l ≡ t → is_signed t ≡ true → Sized (value_span ranges l)
value_sized t ranges l is e = kept_or_all Sized (type_of l) (exact_span ranges l) (type_sized (type_of l) own)
    (λ z same f. let ends = ends_fit (type_of l) z f in record {
      low = signed_size (type_of l) z.lo own (number_has (type_of l) z.lo ends.0);
      high = signed_size (type_of l) z.hi own (number_has (type_of l) z.hi ends.1);
    })
  where
    own : is_signed (type_of l) ≡ true
    own = ap is_signed is ∙ e

fits_least : (a b : ℤ) → FitsSigned w128 a → FitsSigned w128 b → FitsSigned w128 (int_min a b)
fits_least a b h k = by (int_lt b a) where
  by : (t : Bool) → FitsSigned w128 (if t then b else a)
  by true = k
  by false = h

fits_most : (a b : ℤ) → FitsSigned w128 a → FitsSigned w128 b → FitsSigned w128 (int_max a b)
fits_most a b h k = by (int_lt b a) where
  by : (t : Bool) → FitsSigned w128 (if t then a else b)
  by true = h
  by false = k

corners_fit : (op : ℤ → ℤ → ℤ) (p q : Span) → ((a b : ℤ) → (a ≡ p.lo) ⊎ (a ≡ p.hi) → (b ≡ q.lo) ⊎ (b ≡ q.hi) → FitsSigned w128 (op a b)) → FitsSpan (corners op p q)
corners_fit op p q each =
    let a = each p.lo q.lo (inl refl) (inl refl) in let b = each p.lo q.hi (inl refl) (inr refl) in
    let c = each p.hi q.lo (inr refl) (inl refl) in let d = each p.hi q.hi (inr refl) (inr refl) in record {
      low = fits_least _ _ (fits_least _ _ a b) (fits_least _ _ c d);
      high = fits_most _ _ (fits_most _ _ a b) (fits_most _ _ c d);
    }

end_sized : (p : Span) (a : ℤ) → Sized p → (a ≡ p.lo) ⊎ (a ≡ p.hi) → unsigned_abs a ≤ 2 ^ 63
end_sized p a h (inl e) = subst (λ (x : ℤ). unsigned_abs x ≤ 2 ^ 63) (sym e) h.low
end_sized p a h (inr e) = subst (λ (x : ℤ). unsigned_abs x ≤ 2 ^ 63) (sym e) h.high

the_span : (x z : Span) → Some x ≡ Some z → FitsSpan x → FitsSpan z
the_span x z e f = let same : x ≡ z = cc in subst FitsSpan same f

-- what an operator leaves of such spans has ends that are i128 numbers
abbrev EndsFit : NOp → IntType → Type 0
EndsFit nop t = (p q z : Span) → Sized p → Sized q → typed_span nop t p q ≡ Some z → FitsSpan z

product_ends : (t : IntType) → EndsFit ops.Mul t
product_ends t p q z h k e = the_span (corners ◌*ℤ◌ p q) z e
    (corners_fit ◌*ℤ◌ p q (λ a b i j. fits_from (a *ℤ b) (product_size a b (end_sized p a h i) (end_sized q b k j))))

sum_ends : (t : IntType) → EndsFit ops.Add t
sum_ends t p q z h k e = the_span (span (p.lo +ℤ q.lo) (p.hi +ℤ q.hi)) z e
    (record { low = fits_from _ (sum_size p.lo q.lo h.low k.low); high = fits_from _ (sum_size p.hi q.hi h.high k.high) })

difference_ends : (t : IntType) → EndsFit ops.Sub t
difference_ends t p q z h k e = the_span (span (p.lo -ℤ q.hi) (p.hi -ℤ q.lo)) z e
    (record { low = fits_from _ (difference_size p.lo q.hi h.low k.high); high = fits_from _ (difference_size p.hi q.lo h.high k.low) })

quotient_fits_by : (p q : Span) → Sized p → FitsSpan (corners int_div p q)
quotient_fits_by p q h = corners_fit int_div p q (λ a b i j. let s = end_sized p a h i in let n = quotient_size a b in fits_from (int_div a b) (omega arith))

joined_fit : (o w : Option Span) (z : Span) → ((x : Span) → o ≡ Some x → FitsSpan x) → ((x : Span) → w ≡ Some x → FitsSpan x) → joined o w ≡ Some z → FitsSpan z
joined_fit None w z first second e = second z e
joined_fit (Some x) None z first second e = first z e
joined_fit (Some x) (Some y) z first second e = let f = first x refl in let g = second y refl in
    the_span (span (int_min x.lo y.lo) (int_max x.hi y.hi)) z e (record { low = fits_least _ _ f.low g.low; high = fits_most _ _ f.high g.high })

by_part : (p : Span) (o : Option Span) (z : Span) → Sized p → quotients_by p o ≡ Some z → FitsSpan z
by_part p None z h e = absurd (cc)
by_part p (Some q) z h e = the_span (corners int_div p q) z e (quotient_fits_by p q h)

or_none : (t : IntType) (o : Option Span) (z : Span) → or_type false t o ≡ Some z → o ≡ Some z
or_none t None z e = absurd (cc)
or_none t (Some x) z e = e

quotient_ends : (t : IntType) → EndsFit ops.Quot t
quotient_ends t p q z h k e = joined_fit (quotients_by p (below_zero q)) (quotients_by p (above_zero q)) z (λ x f. by_part p (below_zero q) x h f)
    (λ x f. by_part p (above_zero q) x h f) (or_none t (quotients p q) z e)

-- the opposite of a number of any type
value_ends : (ranges : ℕ → Range) (l : MExprTree) → (unsigned_abs (value_span ranges l).lo ≤ 2 ^ 64) × (unsigned_abs (value_span ranges l).hi ≤ 2 ^ 64)
value_ends ranges l =
    kept_or_all (λ (z : Span). (unsigned_abs z.lo ≤ 2 ^ 64) × (unsigned_abs z.hi ≤ 2 ^ 64)) (type_of l) (exact_span ranges l) (type_ends (type_of l))
    (λ z same f. let ends = ends_fit (type_of l) z f in
    let a = size_of_number (type_of l) z.lo (number_has (type_of l) z.lo ends.0) in let b = size_of_number (type_of l) z.hi (number_has (type_of l) z.hi ends.1) in
    (omega arith, omega arith))
  where
    type_ends : (t : IntType) → (unsigned_abs (type_span t).lo ≤ 2 ^ 64) × (unsigned_abs (type_span t).hi ≤ 2 ^ 64)
    type_ends types.Char = (omega (arith, ints), omega (arith, ints))
    type_ends types.SChar = (omega (arith, ints), omega (arith, ints))
    type_ends types.UChar = (omega (arith, ints), omega (arith, ints))
    type_ends types.Short = (omega (arith, ints), omega (arith, ints))
    type_ends types.UShort = (omega (arith, ints), omega (arith, ints))
    type_ends types.Int = (omega (arith, ints), omega (arith, ints))
    type_ends types.UInt = (omega (arith, ints), omega (arith, ints))
    type_ends types.Long = (omega (arith, ints), omega (arith, ints))
    type_ends types.ULong = (omega (arith, ints), omega (arith, ints))
    type_ends types.LLong = (omega (arith, ints), omega (arith, ints))
    type_ends types.ULLong = (omega (arith, ints), omega (arith, ints))

opposite_fits : (n : ℤ) → unsigned_abs n ≤ 2 ^ 64 → FitsSigned w128 (neg_ℤ n)
opposite_fits n h = omega (arith, ints)

-- ---- results

value_fits : (ranges : ℕ → Range) (l : MExprTree) → FitsSpan (value_span ranges l)
value_fits ranges l = converted_fits (type_of l) (exact_span ranges l)

of_signed : (kind : WrongKind) (t : IntType) (low : ℤ) (check : Check) → signed_check kind t low ≡ Some check → is_signed t ≡ true
of_signed kind t low check e = by (is_signed t) refl e where
  by : (b : Bool) → is_signed t ≡ b → (if b then Some (range_check kind low (pos (greatest t))) else None) ≡ Some check → is_signed t ≡ true
  by true is h = is
  by false is h = absurd (cc)

same_number : (P : ℤ → Type 0) (m n : ℤ) → Some (Number m) ≡ Some (Number n) → P m → P n
same_number P m n e p = let same : m ≡ n = cc in subst P same p

module _ (op : Arithmetic) (nop : NOp) (t : IntType) (r s found : Range) (f : IsFound nop t r s found)
    (value : (a b : ℤ) → MayDivide op b → binary_value nop a b ≡ Some (exact_arithmetic op a b))
    (size : (a b : ℤ) → unsigned_abs a ≤ 2 ^ 63 → unsigned_abs b ≤ 2 ^ 63 → unsigned_abs (exact_arithmetic op a b) ≤ 2 ^ 126)
    (signed : (check : Check) → arithmetic_check op t ≡ Some check → is_signed t ≡ true) (ends : EndsFit nop t) (named : nop ≡ number_op (quotiented op)) where
  held : (v u : Value) (n : ℤ) → InRange r (number_of v) → InRange s (number_of u)
      → if_taken (binaries.Arithmetic op t) (exact_binary (binaries.Arithmetic op t)) v u ≡ Some (Number n) → InRange found n
  held (values.Int ta a) (values.Int tb b) n i j e =
      let x = taken_value (takes_right (binaries.Arithmetic op t) (values.Int tb b)) (Some (Number (exact_arithmetic op a b))) (Number n) e in
      same_number (InRange found) (exact_arithmetic op a b) n x.1 (f.0 a b (exact_arithmetic op a b) i j (value a b (divides op t tb b x.0)))
  held v u n i j e =
      let none = (taken_value (takes_right (binaries.Arithmetic op t) u) (exact_binary (binaries.Arithmetic op t) v u) (Number n) e).1 in absurd (cc)

  only : (check : Check) → arithmetic_check op t ≡ Some check → LiesIn t r × LiesIn t s → (v u : Value) (n : ℤ) → IsPoint r (number_of v) → IsPoint s (number_of u)
      → if_taken (binaries.Arithmetic op t) (exact_binary (binaries.Arithmetic op t)) v u ≡ Some (Number n) → IsPoint found n × IsSmall n
  only check c fit (values.Int ta a) (values.Int tb b) n p q e =
      let x = taken_value (takes_right (binaries.Arithmetic op t) (values.Int tb b)) (Some (Number (exact_arithmetic op a b))) (Number n) e in
      let h = signed_size t a (signed check c) (inside_has t r a fit.0 (point_holds r a p)) in
      let k = signed_size t b (signed check c) (inside_has t s b fit.1 (point_holds s b q)) in
      let small = size a b h k in
      same_number (λ m. IsPoint found m × IsSmall m) (exact_arithmetic op a b) n x.1
      (f.1 a b (exact_arithmetic op a b) p q (value a b (divides op t tb b x.0)) (fits_from (exact_arithmetic op a b) small), small_from (exact_arithmetic op a b) small)
  only check c fit v u n p q e =
      let none = (taken_value (takes_right (binaries.Arithmetic op t) u) (exact_binary (binaries.Arithmetic op t) v u) (Number n) e).1 in absurd (cc)

  ruled : (check : Check) → arithmetic_check op t ≡ Some check → (ranges : ℕ → Range) (l k m : MExprTree) → (type_of l ≡ t) × (type_of k ≡ t)
      → NoWider r (range_of (value_span ranges l)) → NoWider s (range_of (value_span ranges k)) → of_two (binaries.Arithmetic (quotiented op) t) l k ≡ Some m
      → (z : Span) → exact_span ranges m ≡ Some z → NoWider found (range_of z)
  ruled check c ranges l k m are under also e z g =
      let same : numbers.Binary (number_op (quotiented op)) t l k ≡ m = cc in
      let span : typed_span (number_op (quotiented op)) t (value_span ranges l) (value_span ranges k) ≡ Some z =
      subst (λ (x : MExprTree). exact_span ranges x ≡ Some z) (sym same) g in
      let own = subst (λ (n : NOp). typed_span n t (value_span ranges l) (value_span ranges k) ≡ Some z) (sym named) span in
      f.2 (value_span ranges l) (value_span ranges k) z under (value_fits ranges l) also (value_fits ranges k) own
      (ends (value_span ranges l) (value_span ranges k) z (value_sized t ranges l are.0 (signed check c)) (value_sized t ranges k are.1 (signed check c)) own)

  exact_by : IsExact (binaries.Arithmetic op t) r s found
  exact_by = record {
    holds = held;
    point = λ a b check c fit v u n p q e. only check c fit v u n p q e;
    plain = λ a b check c ranges l k m are under also e z g. ruled check c ranges l k m are under also e z g;
  }

nonzero : (a b : ℤ) → b ≢ pos 0 → binary_value ops.Quot a b ≡ Some (int_div a b)
nonzero a b ne = by (int_eq b (pos 0)) (λ e. ne ((Decides-int_eq b (pos 0)).0 e)) where
  by : (z : Bool) → (z ≡ true → ⊥) → (if z then None else Some (int_div a b)) ≡ Some (int_div a b)
  by true h = absurd (h refl)
  by false h = refl

quotient_small : (a b : ℤ) → unsigned_abs a ≤ 2 ^ 63 → unsigned_abs b ≤ 2 ^ 63 → unsigned_abs (int_div a b) ≤ 2 ^ 126
quotient_small a b h k = let q = quotient_size a b in omega arith

pub exact_product : (t : IntType) (r s found : Range) → IsFound ops.Mul t r s found → IsExact (binaries.Arithmetic arithmetics.Multiply t) r s found
exact_product t r s found f = exact_by arithmetics.Multiply ops.Mul t r s found f (λ a b d. refl) product_size (λ check c. of_signed _ t _ check c) (product_ends t) refl

pub exact_quotient : (t : IntType) (r s found : Range) → IsFound ops.Quot t r s found → IsExact (binaries.Arithmetic arithmetics.Divide t) r s found
exact_quotient t r s found f =
    exact_by arithmetics.Divide ops.Quot t r s found f (λ a b d. nonzero a b (d (inl refl))) quotient_small (λ check c. of_signed _ t _ check c) (quotient_ends t) refl

pub exact_remainder : (t : IntType) (r s found : Range) → IsFound ops.Quot t r s found → IsExact (binaries.Arithmetic arithmetics.Remainder t) r s found
exact_remainder t r s found f =
    exact_by arithmetics.Remainder ops.Quot t r s found f (λ a b d. nonzero a b (d (inr refl))) quotient_small (λ check c. of_signed _ t _ check c) (quotient_ends t) refl

pub exact_sum : (t : IntType) (r s found : Range) → IsFound ops.Add t r s found → IsExact (binaries.Arithmetic arithmetics.Add t) r s found
exact_sum t r s found f = exact_by arithmetics.Add ops.Add t r s found f (λ a b d. refl) sum_size (λ check c. of_signed _ t _ check c) (sum_ends t) refl

pub exact_difference : (t : IntType) (r s found : Range) → IsFound ops.Sub t r s found → IsExact (binaries.Arithmetic arithmetics.Subtract t) r s found
exact_difference t r s found f = exact_by arithmetics.Subtract ops.Sub t r s found f (λ a b d. refl) difference_size (λ check c. of_signed _ t _ check c) (difference_ends t) refl

-- shifts
shifted_value : (t : IntType) (a k : ℤ) → IsAmount t k → binary_value ops.Shl a k ≡ Some (exact_shift a k)
shifted_value t a (pos m) h = refl
shifted_value t a (negsuc m) h = absurd (omega (arith, ints, h.0))

shifted_small : (t : IntType) (a k : ℤ) → unsigned_abs a ≤ 2 ^ 63 → IsAmount t k → unsigned_abs (exact_shift a k) ≤ 2 ^ 126
shifted_small t a (pos m) h amount = let w = small_width t in product_size a (pos (2 ^ m)) h (power_size m (omega (arith, ints, amount.1)))
shifted_small t a (negsuc m) h amount = absurd (omega (arith, ints, amount.0))

-- a point at an amount of the width
power_ends : (t : IntType) (a k : ℤ) (z : Span) → unsigned_abs a ≤ 2 ^ 63 → IsAmount t k → option_point (binary_value ops.Shl a k) ≡ Some z → FitsSpan z
power_ends t a (pos m) z h amount e =
    let fit = fits_from (a *ℤ pos (2 ^ m)) (shifted_small t a (pos m) h amount) in the_span (point (a *ℤ pos (2 ^ m))) z e (record { low = fit; high = fit })
power_ends t a (negsuc m) z h amount e = absurd (omega (arith, ints, amount.0))

-- of an amount that is not one of the width there is no shifted number
module _ (t : IntType) (r s cut found : Range) (some : IsTrue (holds_some cut) → IsFound ops.Shl t r cut found) (none : holds_some cut ≡ false → (x : Range) → NoWider found x)
    (holds : (k : ℤ) → InRange s k → IsAmount t k → InRange cut k) (inside : NoWider cut s) (amounts : NoWider cut (range_of (span (pos 0) (pos (width t) -ℤ pos 1)))) where
  there : (k : ℤ) → InRange cut k → IsTrue (holds_some cut)
  there k i = holds_number_from cut.lo cut.hi k i.low i.high

  keeps : (v u : Value) (n : ℤ) → InRange r (number_of v) → InRange s (number_of u)
      → if_taken (binaries.Shift shifts.Left t) (exact_binary (binaries.Shift shifts.Left t)) v u ≡ Some (Number n) → InRange found n
  keeps (values.Int ta a) (values.Int tb k) n i j e =
      let x = taken_value (takes_right (binaries.Shift shifts.Left t) (values.Int tb k)) (Some (Number (exact_shift a k))) (Number n) e in
      let am = amount shifts.Left t tb k x.0 in
      let c = holds k j am in
      same_number (InRange found) (exact_shift a k) n x.1 ((some (there k c)).0 a k (exact_shift a k) i c (shifted_value t a k am))
  keeps v u n i j e =
      let none_taken = (taken_value (takes_right (binaries.Shift shifts.Left t) u) (exact_binary (binaries.Shift shifts.Left t) v u) (Number n) e).1 in absurd (cc)

  alone : (check : Check) → signed_check kinds.ShiftResult t (pos 0) ≡ Some check → LiesIn t r → (v u : Value) (n : ℤ) → IsPoint r (number_of v) → IsPoint s (number_of u)
      → if_taken (binaries.Shift shifts.Left t) (exact_binary (binaries.Shift shifts.Left t)) v u ≡ Some (Number n) → IsPoint found n × IsSmall n
  alone check c fit (values.Int ta a) (values.Int tb k) n p q e =
      let x = taken_value (takes_right (binaries.Shift shifts.Left t) (values.Int tb k)) (Some (Number (exact_shift a k))) (Number n) e in
      let am = amount shifts.Left t tb k x.0 in
      let i = holds k (point_holds s k q) am in
      let small = shifted_small t a k (signed_size t a (of_signed _ t _ check c) (inside_has t r a fit (point_holds r a p))) am in
      same_number (λ m. IsPoint found m × IsSmall m) (exact_shift a k) n x.1 (
        (some (there k i)).1 a k (exact_shift a k) p (point_from cut s k k i inside q) (shifted_value t a k am) (fits_from (exact_shift a k) small),
        small_from (exact_shift a k) small,
      )
  alone check c fit v u n p q e =
      let none_taken = (taken_value (takes_right (binaries.Shift shifts.Left t) u) (exact_binary (binaries.Shift shifts.Left t) v u) (Number n) e).1 in absurd (cc)

  -- the rule takes points alone
  points : (p q z : Span) → option_point (of_points (binary_value ops.Shl) p q) ≡ Some z → (p.lo ≡ p.hi) × (q.lo ≡ q.hi) × (option_point (binary_value ops.Shl p.lo q.lo) ≡ Some z)
  points p q z e = by (int_eq p.lo p.hi) (int_eq q.lo q.hi) (λ h. (Decides-int_eq p.lo p.hi).0 h) (λ h. (Decides-int_eq q.lo q.hi).0 h) e where
    by : (a b : Bool) → (a ≡ true → p.lo ≡ p.hi) → (b ≡ true → q.lo ≡ q.hi) → option_point (if a && b then binary_value ops.Shl p.lo q.lo else None) ≡ Some z
        → (p.lo ≡ p.hi) × (q.lo ≡ q.hi) × (option_point (binary_value ops.Shl p.lo q.lo) ≡ Some z)
    by true true h k e = (h refl, k refl, e)
    by true false h k e = absurd (cc)
    by false b h k e = absurd (cc)

  -- an amount of the cut that is a point of the rule's
  amount_of : (q : Span) → q.lo ≡ q.hi → NoWider s (range_of q) → IsTrue (holds_some cut) → IsAmount t q.lo
  amount_of q same also here =
      let k = number_in cut.lo cut.hi here in
      let own = in_between cut (range_of q) k.0 q.lo q.hi (wider cut s (range_of q) inside also) refl refl (record { low = k.1; high = k.2 }) in
      let ends = in_between cut (range_of (span (pos 0) (pos (width t) -ℤ pos 1))) k.0 (pos 0) (pos (width t) -ℤ pos 1) amounts refl refl
      (record { low = k.1; high = k.2 }) in
      let a = own.0 in let b = own.1 in let c = ends.0 in let d = ends.1 in (omega (arith, ints), omega (arith, ints))

  ruled_shift : (check : Check) → signed_check kinds.ShiftResult t (pos 0) ≡ Some check → (ranges : ℕ → Range) (l k m : MExprTree) → type_of l ≡ t
      → NoWider r (range_of (value_span ranges l)) → NoWider s (range_of (value_span ranges k)) → of_two (binaries.Shift shifts.Left t) l k ≡ Some m → (z : Span)
      → exact_span ranges m ≡ Some z → NoWider found (range_of z)
  ruled_shift check c ranges l k m is under also e z g = by (holds_some cut) refl where
    p : Span
    p = value_span ranges l

    q : Span
    q = value_span ranges k

    own : typed_span ops.Shl t (value_span ranges l) (value_span ranges k) ≡ Some z
    own = let same : numbers.Binary ops.Shl t l k ≡ m = cc in subst (λ (x : MExprTree). exact_span ranges x ≡ Some z) (sym same) g

    by : (b : Bool) → holds_some cut ≡ b → NoWider found (range_of z)
    by false h = none h (range_of z)
    by true h =
        let ends = points (value_span ranges l) (value_span ranges k) z (or_none t (option_point (of_points (binary_value ops.Shl) (value_span ranges l) (value_span ranges k))) z own) in
        let sized = value_sized t ranges l is (of_signed _ t _ check c) in
        (some h).2 (value_span ranges l) (value_span ranges k) z under (value_fits ranges l) (wider cut s (range_of (value_span ranges k)) inside also)
        (value_fits ranges k) own
        (power_ends t (value_span ranges l).lo (value_span ranges k).lo z sized.low (amount_of (value_span ranges k) ends.1 also h) ends.2)

  pub exact_shifted : IsExact (binaries.Shift shifts.Left t) r s found
  exact_shifted = record {
    holds = keeps;
    point = λ a b check c fit v u n p q e. alone check c fit v u n p q e;
    plain = λ a b check c ranges l k m is under also e z g. ruled_shift check c ranges l k m is under also e z g;
  }

-- ---- one operand

pub exact_minus : (t : IntType) (r found : Range) → IsOne ops.Neg r found → IsExactUnary (unaries.Minus t) r found
exact_minus t r found f = record {
  holds = keeps;
  point = λ a check c fit m v n p e. alone check c fit m v n p e;
  plain = λ a check c ranges l under z g.
      let ends = value_ends ranges l in
      let same : span (neg_ℤ (value_span ranges l).hi) (neg_ℤ (value_span ranges l).lo) ≡ z = cc in
      f.2 (value_span ranges l) z under (value_fits ranges l) g
      (subst FitsSpan same (record { low = opposite_fits (value_span ranges l).hi ends.1; high = opposite_fits (value_span ranges l).lo ends.0 }));
} where
  keeps : (m : ObjectMemory) (v : Value) (n : ℤ) → InRange r (number_of v) → unary_operand m (unaries.Minus t) v kinds.Overflow ≡ Some (Number n) → InRange found n
  keeps m (values.Int u a) n i e = same_number (InRange found) (neg_ℤ a) n e (f.0 a (neg_ℤ a) i refl)
  keeps m (values.Ptr p) n i e = absurd (cc)
  keeps m values.Null n i e = absurd (cc)

  alone : (check : Check) → signed_check kinds.Overflow t (least t) ≡ Some check → LiesIn t r → (m : ObjectMemory) (v : Value) (n : ℤ) → IsPoint r (number_of v)
      → unary_operand m (unaries.Minus t) v kinds.Overflow ≡ Some (Number n) → IsPoint found n × IsSmall n
  alone check c fit m (values.Int u a) n p e =
      let small = minus_size a (signed_size t a (of_signed _ t _ check c) (inside_has t r a fit (point_holds r a p))) in
      same_number (λ x. IsPoint found x × IsSmall x) (neg_ℤ a) n e (f.1 a (neg_ℤ a) p refl (fits_from (neg_ℤ a) small), small_from (neg_ℤ a) small)
  alone check c fit m (values.Ptr q) n p e = absurd (cc)
  alone check c fit m values.Null n p e = absurd (cc)

-- ---- expressions

quotient_is : (op : TBinaryOp) (a b : CsExprTree) → quotient_of (Binary op a b) ≡ Binary (asked op) a b
quotient_is (binaries.Arithmetic arithmetics.Multiply t) a b = refl
quotient_is (binaries.Arithmetic arithmetics.Divide t) a b = refl
quotient_is (binaries.Arithmetic arithmetics.Remainder t) a b = refl
quotient_is (binaries.Arithmetic arithmetics.Add t) a b = refl
quotient_is (binaries.Arithmetic arithmetics.Subtract t) a b = refl
quotient_is (binaries.Arithmetic arithmetics.BitAnd t) a b = refl
quotient_is (binaries.Arithmetic arithmetics.BitXor t) a b = refl
quotient_is (binaries.Arithmetic arithmetics.BitOr t) a b = refl
quotient_is op a b = refl

-- the types of numbers that stand for typed expressions
compared_type : (c : Comparison) (a b : MExprTree) → type_of (compared c a b) ≡ types.Int
compared_type comparisons.Less a b = refl
compared_type comparisons.Greater a b = refl
compared_type comparisons.AtMost a b = refl
compared_type comparisons.AtLeast a b = refl
compared_type comparisons.Equal a b = refl
compared_type comparisons.Unequal a b = refl

same_int : (t u : IntType) → Some (scalars.Int t) ≡ Some (scalars.Int u) → t ≡ u
same_int t u e = cc

number_type : (q : CsProgramTree) (e : CsExprTree) (m : MExprTree) (t : IntType) → number_expr q.temps e ≡ Some m → HasType q (scalars.Int t) e → type_of m ≡ t
number_type q (trees.Const u n) m t h is = let same : numbers.Const u n ≡ m = cc in ap type_of (sym same) ∙ same_int u t is
number_type q trees.Null m t h is = absurd (cc)
number_type q (trees.Temp d) m t h is = by (slice_get q.temps d) h is where
  by : (o : Option Scalar) → option_and_then (read d) o ≡ Some m → o ≡ Some (scalars.Int t) → type_of m ≡ t
  by None h is = absurd (cc)
  by (Some scalars.Pointer) h is = absurd (cc)
  by (Some (scalars.Int u)) h is = let same : numbers.Read d u ≡ m = cc in ap type_of (sym same) ∙ same_int u t is
number_type q (trees.Address x) m t h is = absurd (cc)
number_type q (Unary op e) m t h is = let l = map_some (of_one op) (number_expr q.temps e) m h in ap type_of (sym l.2) ∙ by op l.0 is where
  by : (op : TUnaryOp) (l : MExprTree) → Some (unary_type op) ≡ Some (scalars.Int t) → type_of (of_one op l) ≡ t
  by (unaries.Plus u) l is = same_int u t is
  by (unaries.Minus u) l is = same_int u t is
  by (unaries.Complement u) l is = same_int u t is
  by unaries.Not l is = same_int types.Int t is
number_type q (Binary op a b) m t h is =
    let x = and_then_some _ (number_expr q.temps a) m h in let y = and_then_some (of_two op x.0) (number_expr q.temps b) m x.2 in by op x.0 y.0 y.2 is
  where
    by : (op : TBinaryOp) (l k : MExprTree) → of_two op l k ≡ Some m → Some (binary_type op) ≡ Some (scalars.Int t) → type_of m ≡ t
    by (binaries.Arithmetic op u) l k h is = let same : numbers.Binary (number_op op) u l k ≡ m = cc in ap type_of (sym same) ∙ same_int u t is
    by (binaries.Shift way u) l k h is = let same : numbers.Binary (shift_op way) u l k ≡ m = cc in ap type_of (sym same) ∙ same_int u t is
    by (binaries.CompareInts c u) l k h is = let same : compared c l k ≡ m = cc in ap type_of (sym same) ∙ compared_type c l k ∙ same_int types.Int t is
    by op l k h is = absurd (cc)
number_type q (trees.Convert u e) m t h is =
    let l = map_some (numbers.Convert u) (number_expr q.temps e) m h in ap type_of (sym l.2) ∙ same_int u t is

-- what both operands of an operator at a type have
operands_of : (op : TBinaryOp) (q : CsProgramTree) (a b : CsExprTree) (l k : MExprTree) → FitsOperand q a (λ ty v. FitsOperand q b (λ other u. TakesBoth op v u))
    → number_expr q.temps a ≡ Some l → number_expr q.temps b ≡ Some k → AreOfType op l k
operands_of (binaries.Arithmetic op t) q a b l k fit h g =
    let both = both_types (binaries.Arithmetic op t) q a b fit in
    (number_type q a l t h (both.0 ∙ ap Some (int_type t fit.0 both.3.0)), number_type q b k t g (both.2 ∙ ap Some (int_type t both.1 both.3.1)))
operands_of (binaries.Shift way t) q a b l k fit h g =
    let both = both_types (binaries.Shift way t) q a b fit in number_type q a l t h (both.0 ∙ ap Some (int_type t fit.0 both.3.0))
operands_of op q a b l k fit h g = tt

pub exact_of_unary : (rs : List Range) (op : TUnaryOp) (e : CsExprTree) (r found : Range) → IsRangeOf rs e r → IsExactUnary op r found → IsExactOf rs (Unary op e) found
exact_of_unary rs op e r found f w = record {
  holds = λ s n i h. let x = and_then_some (λ v. unary_operand s.memory op v kinds.Overflow) (value_of e s) (Number n) h in w.holds s.memory x.0 n (f.holds s x.0 i x.1) x.2;
  point = λ q check s n typed c ins all h.
      let x = and_then_some (λ v. unary_operand s.memory op v kinds.Overflow) (value_of e s) (Number n) h in
      w.point e check c (unary_fits op r q e typed.1 (λ t k. f.inside q t typed.0 ins k)) s.memory x.0 n (f.point q s x.0 typed.0 ins all x.1).0 x.2;
  plain = λ q check p m z typed c ins und h g.
      let l = map_some (of_one op) (number_expr q.temps e) m h in
      w.plain e check c (given p) l.0 (f.plain q p l.0 typed.0 ins und l.1) z (subst (λ (x : MExprTree). exact_span (given p) x ≡ Some z) (sym l.2) g);
}

pub exact_of_binary : (rs : List Range) (op : TBinaryOp) (a b : CsExprTree) (r s found : Range) → IsRangeOf rs a r → IsRangeOf rs b s → IsExact op r s found
    → IsExactOf rs (Binary op a b) found
exact_of_binary rs op a b r s found f g w = record {
  holds = λ st n i h.
      let x = and_then_some _ (value_of a st) (Number n) h in let y = and_then_some (if_taken op (exact_binary op) x.0) (value_of b st) (Number n) x.2 in
      w.holds x.0 y.0 n (f.holds st x.0 i x.1) (g.holds st y.0 i y.1) y.2;
  point = λ q check st n typed c ins all h.
      let x = and_then_some _ (value_of a st) (Number n) h in let y = and_then_some (if_taken op (exact_binary op) x.0) (value_of b st) (Number n) x.2 in
      w.point a b check c (binary_fits op r s q a b typed.2 (λ t k. f.inside q t typed.0 ins k) (λ t k. g.inside q t typed.1 ins k)) x.0 y.0 n
      (f.point q st x.0 typed.0 ins all x.1).0 (g.point q st y.0 typed.1 ins all y.1).0 y.2;
  plain = λ q check p m z typed c ins und h k.
      let asks = subst (λ (e : CsExprTree). number_expr q.temps e ≡ Some m) (quotient_is op a b) h in
      let x = and_then_some _ (number_expr q.temps a) m asks in let y = and_then_some (of_two (asked op) x.0) (number_expr q.temps b) m x.2 in
      w.plain a b check c (given p) x.0 y.0 m (operands_of op q a b x.0 y.0 typed.2 x.1 y.1) (f.plain q p x.0 typed.0 ins und x.1)
      (g.plain q p y.0 typed.1 ins und y.1) y.2 z k;
}
