-- Ranges of results at a type.
use Rattle.std.proofs.Common.{◌≡◌, ◌≢◌, ◌≤◌, ◌^◌, ◌+◌, ◌%◌, ℤ, pos, negsuc, ◌-ℤ◌, ◌+ℤ◌, ◌*ℤ◌, neg_ℤ, arith, refl, sym, subst, ap, ◌∙◌, Bool, true, false, Option, Some, None}
use Rattle.std.specs.Prelude.{IsSomeAnd}
use Rattle.std.specs.Int.RustNames.{FitsSigned}
use mir.Syntax.{w128}
use Rattle.std.specs.Int.Bits.{xor_zero_r}
use Rattle.std.proofs.lemmas.Int.{ints}
use Rattle.c_syntax_written.specs.declared.int_type.IntType.{IntType}
use Rattle.c_syntax_written.specs.declared.int_type.IntType.TheVariants as types
use Rattle.c_syntax_written.specs.Integer.{HasNumber, width, wrapped}
use Rattle.c_syntax.specs.declared.operator.Arithmetic.{Arithmetic}
use Rattle.c_syntax.specs.declared.operator.Arithmetic.TheVariants.{Multiply, Divide, Remainder, Add, Subtract, BitAnd, BitXor, BitOr}
use Rattle.c_syntax.specs.declared.operator.Shift.{Shift}
use Rattle.c_syntax.specs.declared.operator.Shift.TheVariants.{Left, Right}
use Rattle.c_values.specs.Numbers as numbers
use Rattle.num_api.specs.declared.message.Range.{Range}
use Rattle.num_api.specs.declared.expr.NOp.{NOp}
use Rattle.num_api.specs.declared.expr.NOp.TheVariants as ops
use Rattle.num_api.specs.Ranges.{InRange, IsPoint, NoWider, all_numbers}
use Rattle.num_api.specs.Residues.{class_of, InResidue, IsMultiple}
use Rattle.num_api.specs.Spans.{Span, point, FitsSpan, range_of}
use Rattle.num_api.specs.Value.{truth, binary_value, bits_of_one}
use Rattle.num_api.proofs.Multiples.{in_from_off, in_itself, multiple_along, multiple_neg}
use Rattle.residues.proofs.LowBits.{low_bits, bit-one}
use Rattle.num_api.proofs.Parts.{wider, as_wide, is_point}
use Rattle.machine_nums.specs.Laws.{StandsForArithmetic, StandsForShift}
use Rattle.machine_nums.specs.Rule.{type_span, converted, typed_span}
use Rattle.machine_nums.specs.Wrapping.{IsWrapping}
use Rattle.mem_temps.specs.Found.{IsFound}
use Rattle.mem_temps.specs.Products.{HoldsLike, IsPointLike}
use Rattle.machine_nums.specs.declared.wrapping.Way.{Way}
use Rattle.machine_nums.proofs.OperatorValues.{quotients, remainders, ands, ors, xors}
use Rattle.machine_nums.proofs.ExprCongruences.{wrapped_same}
use Rattle.machine_nums.proofs.ExprTypes.{wrapped_moves}
use Rattle.machine_nums.proofs.Rules.{fits_span, fits_inside, kept_or_all, converted_fits}
use Rattle.machine_nums.proofs.Typed.{shifted_has}
use Rattle.machine_nums.proofs.Values.{has-wrapped, wrapped-has}
use Rattle.machine_nums.proofs.Wrapped.{inside_has, has_inside, point_holds, point_from}
use Rattle.mem_temps.proofs.Wraps.{wrapped_under, like_holds, like_point}
use Rattle.plain_runs.specs.Numbers.{number_op, shift_op}
use Rattle.mem_temps.specs.Operators.{LiesIn, MayDivide, IsArithmetic, IsAmount, IsShifted, IsComplement, IsTestRange}
use Rattle.mem_temps.proofs.Bounds.{number_fits, result_fits, shifted_fits}

some_of : (P : ℤ → Type 0) (o : Option ℤ) → IsSomeAnd o P → (n : ℤ) × (o ≡ Some n) × P n
some_of P None h = absurd h
some_of P (Some n) h = (n, refl, h)

-- ---- arithmetic

stands : (op : Arithmetic) → StandsForArithmetic op (number_op op)
stands Multiply = λ t a b h k ne. refl
stands Divide = quotients
stands Remainder = remainders
stands Add = λ t a b h k ne. refl
stands Subtract = λ t a b h k ne. refl
stands BitAnd = ands
stands BitXor = xors
stands BitOr = ors

module _ (op : Arithmetic) (t : IntType) (r s found taken : Range) (way : Way) (f : IsFound (number_op op) t r s found) (w : IsWrapping t found way taken)
    (left : LiesIn t r) (right : LiesIn t s) where
  result : (a b : ℤ) → HasNumber t a → HasNumber t b → MayDivide op b
      → (n : ℤ) × (binary_value (number_op op) a b ≡ Some n) × (wrapped t n ≡ numbers.arithmetic op t a b)
  result a b h k ne = some_of (λ n. wrapped t n ≡ numbers.arithmetic op t a b) (binary_value (number_op op) a b) (stands op t a b h k ne)

  held : (a b : ℤ) → InRange r a → InRange s b → MayDivide op b → InRange taken (numbers.arithmetic op t a b)
  held a b i j ne =
      let x = result a b (inside_has t r a left i) (inside_has t s b right j) ne in subst (InRange taken) x.2 (w.takes.holds x.0 (f.0 a b x.0 i j x.1))

  only : op ≢ Multiply → (a b : ℤ) → IsPoint r a → IsPoint s b → MayDivide op b → IsPoint taken (numbers.arithmetic op t a b)
  only other a b p q ne =
      let h = inside_has t r a left (point_holds r a p) in let k = inside_has t s b right (point_holds s b q) in
      let x = result a b h k ne in
      subst (IsPoint taken) x.2 (w.point x.0 (f.1 a b x.0 p q x.1 (result_fits op t a b x.0 other h k x.1)))

  pub wrapped_result : op ≢ Multiply → IsArithmetic op t r s taken
  wrapped_result other = record {
    inside = w.takes.inside;
    holds = held;
    point = λ u v. only other;
    plain = λ u v p q under fp also fq. wrapped_under t found taken way (typed_span (number_op op) t p q) w (λ z e g. f.2 p q z under fp also fq e g);
  }

-- products
module _ (t : IntType) (r s found : Range) (f : IsFound ops.Mul t r s found) where
  pub kept_product : LiesIn t found → IsArithmetic Multiply t r s found
  kept_product inside = record {
    inside = inside;
    holds = λ a b i j ne. still a b (f.0 a b (a *ℤ b) i j refl);
    point = λ u v a b p q ne.
        let has = inside_has t found (a *ℤ b) inside (f.0 a b (a *ℤ b) (point_holds r a p) (point_holds s b q) refl) in
        subst (IsPoint found) (sym (wrapped-has t (a *ℤ b) has)) (f.1 a b (a *ℤ b) p q refl (number_fits t (a *ℤ b) has));
    plain = λ u v p q under fp also fq. kept_or_all (λ (z : Span). NoWider found (range_of z)) t (typed_span ops.Mul t p q) inside
        (λ z e g. f.2 p q z under fp also fq e (fits_span t z g));
  } where
    still : (a b : ℤ) → InRange found (a *ℤ b) → InRange found (wrapped t (a *ℤ b))
    still a b i = subst (InRange found) (sym (wrapped-has t (a *ℤ b) (inside_has t found (a *ℤ b) inside i))) i

  pub like_product : (like taken : Range) (way : Way) → (LiesIn t found → ⊥) → ((x y : ℤ) → InRange r x → InRange s y → HoldsLike like (x *ℤ y))
      → ((x y : ℤ) → IsPoint r x → IsPoint s y → IsPointLike like (x *ℤ y)) → IsWrapping t like way taken → IsArithmetic Multiply t r s taken
  like_product like taken way out holds point w = record {
    inside = w.takes.inside;
    holds = λ a b i j ne. like_holds t like taken way (a *ℤ b) w (holds a b i j);
    point = λ u v a b p q ne. like_point t like taken way (a *ℤ b) w (point a b p q);
    plain = λ u v p q under fp also fq. kept_or_all (λ (z : Span). NoWider taken (range_of z)) t (typed_span ops.Mul t p q) w.takes.inside
        (λ z e g. absurd (out (wider found (range_of z) (range_of (type_span t)) (f.2 p q z under fp also fq e (fits_span t z g)) (fits_inside t z g))));
  }

-- numbers of the type
arithmetic_has : (op : Arithmetic) (t : IntType) (a b : ℤ) → HasNumber t (numbers.arithmetic op t a b)
arithmetic_has Multiply t a b = has-wrapped t _
arithmetic_has Divide t a b = has-wrapped t _
arithmetic_has Remainder t a b = has-wrapped t _
arithmetic_has Add t a b = has-wrapped t _
arithmetic_has Subtract t a b = has-wrapped t _
arithmetic_has BitAnd t a b = has-wrapped t _
arithmetic_has BitXor t a b = has-wrapped t _
arithmetic_has BitOr t a b = has-wrapped t _

pub any_result : (op : Arithmetic) (t : IntType) (r s found : Range) → found ≡ range_of (type_span t) → (LiesIn t r → LiesIn t s → ⊥) → IsArithmetic op t r s found
any_result op t r s found is out = subst (IsArithmetic op t r s) (sym is) (record {
  inside = as_wide (range_of (type_span t));
  holds = λ a b i j ne. has_inside t (numbers.arithmetic op t a b) (arithmetic_has op t a b);
  point = λ left right. absurd (out left right);
  plain = λ left right. absurd (out left right);
})

-- ---- shifts

shift_stands : (way : Shift) → StandsForShift way (shift_op way)
shift_stands Left t a (pos k) h low = refl
shift_stands Left t a (negsuc k) h low = absurd (omega (arith, ints))
shift_stands Right t a (pos k) h low = wrapped-has t _ (shifted_has t a (pos k) _ h refl)
shift_stands Right t a (negsuc k) h low = absurd (omega (arith, ints))

pub small_width : (t : IntType) → width t ≤ 64
small_width types.Char = omega arith
small_width types.SChar = omega arith
small_width types.UChar = omega arith
small_width types.Short = omega arith
small_width types.UShort = omega arith
small_width types.Int = omega arith
small_width types.UInt = omega arith
small_width types.Long = omega arith
small_width types.ULong = omega arith
small_width types.LLong = omega arith
small_width types.ULLong = omega arith

shift_fits : (way : Shift) (t : IntType) (a k n : ℤ) → HasNumber t a → IsAmount t k → binary_value (shift_op way) a k ≡ Some n → FitsSigned w128 n
shift_fits Left t a (pos k) n h amount e =
    let w = small_width t in let same : a *ℤ pos (2 ^ k) ≡ n = cc in subst (FitsSigned w128) same (shifted_fits t a k h (omega (arith, ints, amount.1)))
shift_fits Left t a (negsuc k) n h amount e = absurd (omega (arith, ints, amount.0))
shift_fits Right t a k n h amount e = number_fits t n (shifted_has t a k n h e)

module _ (way : Shift) (t : IntType) (r s cut found taken : Range) (how : Way) (f : IsFound (shift_op way) t r cut found) (w : IsWrapping t found how taken)
    (left : LiesIn t r) (holds : (k : ℤ) → InRange s k → IsAmount t k → InRange cut k) (inside : NoWider cut s) where
  shift_result : (a k : ℤ) → HasNumber t a → IsAmount t k
      → (n : ℤ) × (binary_value (shift_op way) a k ≡ Some n) × (wrapped t n ≡ numbers.shifted way t a k)
  shift_result a k h amount = some_of (λ n. wrapped t n ≡ numbers.shifted way t a k) (binary_value (shift_op way) a k) (shift_stands way t a k h amount.0)

  pub wrapped_shift : IsShifted way t r s taken
  wrapped_shift = record {
    inside = λ u. w.takes.inside;
    holds = λ a k i j amount.
        let x = shift_result a k (inside_has t r a left i) amount in
        subst (InRange taken) x.2 (w.takes.holds x.0 (f.0 a k x.0 i (holds k j amount) x.1));
    point = λ u a k p q amount.
        let h = inside_has t r a left (point_holds r a p) in let x = shift_result a k h amount in
        let here = point_from cut s k k (holds k (point_holds s k q) amount) inside q in
        subst (IsPoint taken) x.2 (w.point x.0 (f.1 a k x.0 p here x.1 (shift_fits way t a k x.0 h amount x.1)));
    plain = λ u p q under fp also fq. wrapped_under t found taken how (typed_span (shift_op way) t p q) w
        (λ z e g. f.2 p q z under fp (wider cut s (range_of q) inside also) fq e g);
  }

pub any_shift : (way : Shift) (t : IntType) (r s found : Range) → found ≡ all_numbers → (LiesIn t r → ⊥) → IsShifted way t r s found
any_shift way t r s found is out = subst (IsShifted way t r s) (sym is) (record {
  inside = λ left. absurd (out left);
  holds = λ a k i j amount. record { low = tt; high = tt };
  point = λ left. absurd (out left);
  plain = λ left. absurd (out left);
})

-- ---- complements

turned_bits : (n : ℤ) → bits_of_one n (negsuc 0) ≡ neg_ℤ n -ℤ pos 1
turned_bits (pos a) = ap negsuc (xor_zero_r a) ∙ minus (pos a) (negsuc a) (omega (arith, ints)) where
  minus : (x y : ℤ) → (y +ℤ x) ≡ negsuc 0 → y ≡ neg_ℤ x -ℤ pos 1
  minus x y h = omega (arith, ints)
turned_bits (negsuc a) = ap pos (xor_zero_r a) ∙ minus (negsuc a) (pos a) (omega (arith, ints)) where
  minus : (x y : ℤ) → (y +ℤ x) ≡ negsuc 0 → y ≡ neg_ℤ x -ℤ pos 1
  minus x y h = omega (arith, ints)

complement_is : (t : IntType) (n : ℤ) → wrapped t (bits_of_one n (wrapped t (negsuc 0))) ≡ numbers.complement t n
complement_is t n =
    sym (ap (wrapped t) (sym (turned_bits n)) ∙ wrapped_same t (bits_of_one n (negsuc 0)) (bits_of_one n (wrapped t (negsuc 0)))
    (low_bits bits_of_one (λ b c. (b + c) % 2) bit-one (width t) n (wrapped t (negsuc 0)) n (negsuc 0) (in_itself n (pos (2 ^ width t))) (moved t)))
  where
    moved : (t : IntType) → InResidue (class_of (wrapped t (negsuc 0)) (pos (2 ^ width t))) (negsuc 0)
    moved t = back (wrapped t (negsuc 0)) (pos (2 ^ width t)) (wrapped_moves t (negsuc 0)) where
      back : (x m : ℤ) → IsMultiple m (x -ℤ negsuc 0) → InResidue (class_of x m) (negsuc 0)
      back x m h = in_from_off x m (negsuc 0) (multiple_along m (neg_ℤ (x -ℤ negsuc 0)) (negsuc 0 -ℤ x) (omega (arith, ints))
          (multiple_neg m (x -ℤ negsuc 0) h))

module _ (t : IntType) (r ones found taken : Range) (way : Way) (f : IsFound ops.Xor t r ones found) (w : IsWrapping t found way taken)
    (left : LiesIn t r) (is : ones ≡ range_of (point (wrapped t (negsuc 0)))) where
  ones_point : IsPoint ones (wrapped t (negsuc 0))
  ones_point = subst (λ (x : Range). IsPoint x (wrapped t (negsuc 0))) (sym is) (is_point (wrapped t (negsuc 0)))

  ones_under : NoWider ones (range_of (converted t (Some (point (wrapped t (negsuc 0))))))
  ones_under = kept_or_all (λ (z : Span). NoWider ones (range_of z)) t (Some (point (wrapped t (negsuc 0)))) lies
      (λ z e g. subst (λ (y : Span). NoWider ones (range_of y)) (some_is (point (wrapped t (negsuc 0))) z e) (subst (λ (x : Range). NoWider x (range_of (point (wrapped t (negsuc 0))))) (sym is) (as_wide _)))
    where
      some_is : (a b : Span) → Some a ≡ Some b → a ≡ b
      some_is a b e = cc

      lies : LiesIn t ones
      lies = let i = has_inside t (wrapped t (negsuc 0)) (has-wrapped t (negsuc 0)) in
          subst (LiesIn t) (sym is) (record { low = i.low; high = i.high })

  pub wrapped_complement : IsComplement t r taken
  wrapped_complement = record {
    inside = w.takes.inside;
    holds = λ n i. subst (InRange taken) (complement_is t n)
        (w.takes.holds (bits_of_one n (wrapped t (negsuc 0))) (f.0 n (wrapped t (negsuc 0)) (bits_of_one n (wrapped t (negsuc 0))) i (point_holds ones (wrapped t (negsuc 0)) ones_point) refl));
    point = λ u n p.
        let h = inside_has t r n left (point_holds r n p) in
        let fit = result_fits BitXor t n (wrapped t (negsuc 0)) (bits_of_one n (wrapped t (negsuc 0))) (λ e. absurd (cc)) h (has-wrapped t (negsuc 0)) refl in
        subst (IsPoint taken) (complement_is t n) (w.point (bits_of_one n (wrapped t (negsuc 0))) (f.1 n (wrapped t (negsuc 0)) (bits_of_one n (wrapped t (negsuc 0))) p ones_point refl fit));
    plain = λ u p under fp. wrapped_under t found taken way (typed_span ops.Xor t p (converted t (Some (point (wrapped t (negsuc 0)))))) w
        (λ z e g. f.2 p (converted t (Some (point (wrapped t (negsuc 0))))) z under fp ones_under (converted_fits t (Some (point (wrapped t (negsuc 0))))) e g);
  }

pub any_complement : (t : IntType) (r found : Range) → found ≡ range_of (type_span t) → (LiesIn t r → ⊥) → IsComplement t r found
any_complement t r found is out = subst (IsComplement t r) (sym is) (record {
  inside = as_wide (range_of (type_span t));
  holds = λ n i. has_inside t (numbers.complement t n) (has-wrapped t _);
  point = λ left. absurd (out left);
  plain = λ left. absurd (out left);
})

-- ---- tests

pub truth_has : (b : Bool) → HasNumber types.Int (truth b)
truth_has true = omega (arith, ints)
truth_has false = omega (arith, ints)

pub wrapped_test : (op : NOp) (r s found taken : Range) (way : Way) → IsFound op types.Int r s found → IsWrapping types.Int found way taken → IsTestRange op r s taken
wrapped_test op r s found taken way f w = record {
  inside = w.takes.inside;
  holds = λ a b t i j e. subst (InRange taken) (wrapped-has types.Int (truth t) (truth_has t)) (w.takes.holds (truth t) (f.0 a b (truth t) i j e));
  point = λ a b t p q e. subst (IsPoint taken) (wrapped-has types.Int (truth t) (truth_has t))
      (w.point (truth t) (f.1 a b (truth t) p q e (number_fits types.Int (truth t) (truth_has t))));
  plain = λ p q under fp also fq. wrapped_under types.Int found taken way (typed_span op types.Int p q) w (λ z e g. f.2 p q z under fp also fq e g);
}
