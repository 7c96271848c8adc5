-- Ranges of expressions.
use Rattle.std.proofs.Common.{◌≡◌, ℕ, ℤ, pos, arith, refl, subst, ap, ◌∙◌, List, Option, Some, None}
use Rattle.std.specs.Prelude.{option_map, option_and_then, slice_get}
use Rattle.std.proofs.lemmas.Int.{ints}
use Rattle.c_syntax_written.specs.declared.int_type.IntType.{IntType}
use Rattle.c_syntax_written.specs.declared.int_type.IntType.TheVariants as types
use Rattle.c_syntax_written.specs.Integer.{HasNumber, wrapped}
use Rattle.c_syntax.specs.declared.operator.TUnaryOp.{TUnaryOp}
use Rattle.c_syntax.specs.declared.operator.TUnaryOp.TheVariants as unaries
use Rattle.c_syntax.specs.declared.operator.TBinaryOp.{TBinaryOp}
use Rattle.c_syntax.specs.declared.operator.TBinaryOp.TheVariants as binaries
use Rattle.block_mem.specs.declared.types.Scalar.{Scalar}
use Rattle.block_mem.specs.declared.types.Scalar.TheVariants as scalars
use Rattle.block_mem.specs.declared.types.Value.{Value}
use Rattle.block_mem.specs.declared.types.Value.TheVariants as values
use Rattle.block_mem.specs.Bytes.{IsOf}
use Rattle.c_values.specs.Values.{converted_to}
use Rattle.c_values.specs.Places.{place_of}
use Rattle.c_values.specs.Operators.{unary_result, binary_result}
use Rattle.c_values.specs.Typed.{TakesOne, TakesBoth, unary_type, binary_type}
use Rattle.num_api.specs.declared.message.Range.{Range}
use Rattle.num_api.specs.Ranges.{InRange, IsPoint, NoWider}
use Rattle.num_api.specs.Spans.{Span, point, range_of, span_between}
use Rattle.num_api.proofs.Parts.{wider, as_wide, is_point, in_point, whole_range, inside}
use Rattle.machine_nums.specs.MExprs.{MExprTree}
use Rattle.machine_nums.specs.MExprs as numbers
use Rattle.machine_nums.specs.Rule.{value_span}
use Rattle.machine_nums.specs.Wrapping.{IsWrapping}
use Rattle.machine_nums.specs.declared.wrapping.Way.{Way}
use Rattle.machine_nums.proofs.Rules.{kept_or_all}
use Rattle.machine_nums.proofs.Wrapped.{has_inside}
use Rattle.mem_temps.proofs.Wraps.{wrapped_under}
use Rattle.csharp.specs.Trees.{CsExprTree, Const, Null, Temp, Address, Unary, Binary, Convert, CsProgramTree}
use Rattle.csharp.specs.Formed.{FitsOperand, HasType, AreOperandsTyped}
use Rattle.csharp.specs.States.{value_of, if_taken}
use Rattle.plain_runs.specs.States.{Plain, given}
use Rattle.plain_runs.specs.Numbers.{number_expr, of_one, of_two, read}
use Rattle.mem_temps.specs.Values.{number_of, IsNoObject}
use Rattle.mem_temps.specs.Operators.{LiesIn, UnaryFits, BinaryFits, IsUnary, IsBinary}
use Rattle.mem_temps.specs.Ranges.{range_at, AreInside, AreUnder}
use Rattle.mem_temps.specs.Exprs.{IsRangeOf}

same_some : {A : Type 0} (P : A → Type 0) (x y : A) → Some x ≡ Some y → P x → P y
same_some P x y e p = let same : x ≡ y = cc in subst P same p

same_int : (P : IntType → Type 0) (t u : IntType) → Some (scalars.Int t) ≡ Some (scalars.Int u) → P t → P u
same_int P t u e p = let same : t ≡ u = cc in subst P same p

-- what an option gives on
pub and_then_some : {A B : Type 0} (f : A → Option B) (o : Option A) (y : B) → option_and_then f o ≡ Some y → (x : A) × (o ≡ Some x) × (f x ≡ Some y)
and_then_some f None y e = absurd (cc)
and_then_some f (Some x) y e = (x, refl, e)

pub map_some : {A B : Type 0} (f : A → B) (o : Option A) (y : B) → option_map f o ≡ Some y → (x : A) × (o ≡ Some x) × (f x ≡ y)
map_some f None y e = absurd (cc)
map_some f (Some x) y e = (x, refl, (let same : f x ≡ y = cc in same))

pub point_inside : (t : IntType) (n : ℤ) → HasNumber t n → LiesIn t (range_of (point n))
point_inside t n h = let i = has_inside t n h in record { low = i.low; high = i.high }

-- ---- expressions without operands

pub const_range : (rs : List Range) (t : IntType) (n : ℤ) → IsRangeOf rs (Const t n) (range_of (point n))
const_range rs t n = record {
  holds = λ s v i e. same_some (λ x. InRange (range_of (point n)) (number_of x)) (values.Int t n) v e (in_point n n refl);
  point = λ q s v typed ins all e. same_some (λ x. IsPoint (range_of (point n)) (number_of x) × IsNoObject x) (values.Int t n) v e (is_point n, tt);
  inside = λ q u typed ins e. same_int (λ x. LiesIn x (range_of (point n))) t u e (point_inside t n typed);
  plain = λ q p m typed ins und e. same_some (λ x. NoWider (range_of (point n)) (range_of (value_span (given p) x))) (numbers.Const t n) m e
      (kept_or_all (λ (z : Span). NoWider (range_of (point n)) (range_of z)) t (Some (point n)) (point_inside t n typed)
      (λ z h f. same_some (λ (y : Span). NoWider (range_of (point n)) (range_of y)) (point n) z h (as_wide (range_of (point n)))));
}

pub null_range : (rs : List Range) → IsRangeOf rs Null (range_of (point (pos 0)))
null_range rs = record {
  holds = λ s v i e. same_some (λ x. InRange (range_of (point (pos 0))) (number_of x)) values.Null v e (in_point (pos 0) (pos 0) refl);
  point = λ q s v typed ins all e. same_some (λ x. IsPoint (range_of (point (pos 0))) (number_of x) × IsNoObject x) values.Null v e (is_point (pos 0), tt);
  inside = λ q u typed ins e. absurd (cc);
  plain = λ q p m typed ins und e. absurd (cc);
}

temp_plain : (rs : List Range) (q : CsProgramTree) (p : Plain) (d : ℕ) (m : MExprTree) → AreInside q.temps rs → AreUnder q.temps rs p → (o : Option Scalar)
    → slice_get q.temps d ≡ o → option_and_then (read d) o ≡ Some m → NoWider (range_at rs d) (range_of (value_span (given p) m))
temp_plain rs q p d m ins und None is e = absurd (cc)
temp_plain rs q p d m ins und (Some scalars.Pointer) is e = absurd (cc)
temp_plain rs q p d m ins und (Some (scalars.Int t)) is e =
    same_some (λ x. NoWider (range_at rs d) (range_of (value_span (given p) x))) (numbers.Read d t) m e
    (kept_or_all (λ (z : Span). NoWider (range_at rs d) (range_of z)) t (span_between (given p d).lo (given p d).hi) (ins d t is)
    (λ z h f. wider (range_at rs d) (range_of (p.temps d)) (range_of z) (und d t is) (inside (range_of (p.temps d)) z (whole_range (given p d).lo (given p d).hi z h))))

pub temp_range : (rs : List Range) (d : ℕ) → IsRangeOf rs (Temp d) (range_at rs d)
temp_range rs d = record {
  holds = λ s v i e. i d v e;
  point = λ q s v typed ins all e. all.temps d v e;
  inside = λ q t typed ins e. ins d t e;
  plain = λ q p m typed ins und e. temp_plain rs q p d m ins und (slice_get q.temps d) refl e;
}

pub address_range : (rs : List Range) (x : ℕ) → IsRangeOf rs (Address x) (range_of (point (pos 1)))
address_range rs x = record {
  holds = λ s v i e. let f = map_some _ (place_of s.memory x) v e in subst (λ (y : Value). InRange (range_of (point (pos 1))) (number_of y)) f.2 (in_point (pos 1) (pos 1) refl);
  point = λ q s v typed ins all e. let f = map_some _ (place_of s.memory x) v e in let none = all.places x in absurd (clash (place_of s.memory x) f.0 f.1 none);
  inside = λ q u typed ins e. absurd (cc);
  plain = λ q p m typed ins und e. absurd (cc);
} where
  clash : (o : Option ℕ) (b : ℕ) → o ≡ Some b → o ≡ None → ⊥
  clash o b e f = absurd (cc)

-- ---- operands of their types

abbrev some_value : Scalar → Value
some_value (scalars.Int t) = values.Int t (pos 0)
some_value scalars.Pointer = values.Null

pub zero_has : (t : IntType) → HasNumber t (pos 0)
zero_has types.Char = omega (arith, ints)
zero_has types.SChar = omega (arith, ints)
zero_has types.UChar = (omega (arith, ints), omega (arith, ints))
zero_has types.Short = omega (arith, ints)
zero_has types.UShort = (omega (arith, ints), omega (arith, ints))
zero_has types.Int = omega (arith, ints)
zero_has types.UInt = (omega (arith, ints), omega (arith, ints))
zero_has types.Long = omega (arith, ints)
zero_has types.ULong = (omega (arith, ints), omega (arith, ints))
zero_has types.LLong = omega (arith, ints)
zero_has types.ULLong = (omega (arith, ints), omega (arith, ints))

some_is : (ty : Scalar) → IsOf ty (some_value ty)
some_is (scalars.Int t) = (refl, zero_has t)
some_is scalars.Pointer = tt

-- the operand of an operator that takes one type
typed_operand : (r : Range) (q : CsProgramTree) (e : CsExprTree) (t : IntType) (ty : Scalar) → HasType q ty e → ty ≡ scalars.Int t
    → ((t : IntType) → HasType q (scalars.Int t) e → LiesIn t r) → LiesIn t r
typed_operand r q e t ty h same ins = ins t (h ∙ ap Some same)

pub unary_fits : (op : TUnaryOp) (r : Range) (q : CsProgramTree) (e : CsExprTree) → FitsOperand q e (TakesOne op)
    → ((t : IntType) → HasType q (scalars.Int t) e → LiesIn t r) → UnaryFits op r
unary_fits (unaries.Plus t) r q e fit ins = typed_operand r q e t fit.0 fit.1 (fit.2 (some_value fit.0) (some_is fit.0)).0 ins
unary_fits (unaries.Minus t) r q e fit ins = typed_operand r q e t fit.0 fit.1 (fit.2 (some_value fit.0) (some_is fit.0)).0 ins
unary_fits (unaries.Complement t) r q e fit ins = typed_operand r q e t fit.0 fit.1 (fit.2 (some_value fit.0) (some_is fit.0)).0 ins
unary_fits unaries.Not r q e fit ins = tt

pub int_type : (t : IntType) (ty : Scalar) → IsOf (scalars.Int t) (some_value ty) → ty ≡ scalars.Int t
int_type t (scalars.Int u) h = ap scalars.Int h.0
int_type t scalars.Pointer h = absurd h

-- both operands of an operator that takes two
module _ (op : TBinaryOp) (q : CsProgramTree) (e f : CsExprTree) (fit : FitsOperand q e (λ ty v. FitsOperand q f (λ other u. TakesBoth op v u))) where
  both_some : (other : Scalar) × (HasType q other f) × TakesBoth op (some_value fit.0) (some_value other)
  both_some = let second = fit.2 (some_value fit.0) (some_is fit.0) in (second.0, second.1, second.2 (some_value second.0) (some_is second.0))

  pub both_types : HasType q fit.0 e × (other : Scalar) × (HasType q other f) × TakesBoth op (some_value fit.0) (some_value other)
  both_types = (fit.1, both_some.0, both_some.1, both_some.2)

pub binary_fits : (op : TBinaryOp) (r s : Range) (q : CsProgramTree) (e f : CsExprTree) → FitsOperand q e (λ ty v. FitsOperand q f (λ other u. TakesBoth op v u))
    → ((t : IntType) → HasType q (scalars.Int t) e → LiesIn t r) → ((t : IntType) → HasType q (scalars.Int t) f → LiesIn t s) → BinaryFits op r s
binary_fits (binaries.Arithmetic op t) r s q e f fit left right =
    let both = both_some (binaries.Arithmetic op t) q e f fit in
    (typed_operand r q e t fit.0 fit.1 (int_type t fit.0 both.2.0) left, typed_operand s q f t both.0 both.1 (int_type t both.0 both.2.1) right)
binary_fits (binaries.Shift way t) r s q e f fit left right =
    let both = both_some (binaries.Shift way t) q e f fit in typed_operand r q e t fit.0 fit.1 (int_type t fit.0 both.2.0) left
binary_fits (binaries.CompareInts c t) r s q e f fit left right = tt
binary_fits (binaries.ComparePointers c) r s q e f fit left right = tt
binary_fits (binaries.PointerPlusInt n) r s q e f fit left right = tt
binary_fits (binaries.IntPlusPointer n) r s q e f fit left right = tt
binary_fits (binaries.PointerMinusInt n) r s q e f fit left right = tt
binary_fits (binaries.PointerMinusPointer n) r s q e f fit left right = tt

-- ---- operators

some_type : (t : IntType) (ty : Scalar) → Some ty ≡ Some (scalars.Int t) → ty ≡ scalars.Int t
some_type t ty e = cc

pub unary_range : (rs : List Range) (op : TUnaryOp) (e : CsExprTree) (r found : Range) → IsRangeOf rs e r → IsUnary op r found → IsRangeOf rs (Unary op e) found
unary_range rs op e r found f w = record {
  holds = λ s v i h. let x = and_then_some (unary_result op) (value_of e s) v h in w.holds x.0 v (f.holds s x.0 i x.1) x.2;
  point = λ q s v typed ins all h.
      let x = and_then_some (unary_result op) (value_of e s) v h in let p = f.point q s x.0 typed.0 ins all x.1 in
      w.point (fits q typed ins) x.0 v p.1 p.0 x.2;
  inside = λ q t typed ins h. w.inside (fits q typed ins) t (some_type t (unary_type op) h);
  plain = λ q p m typed ins und h.
      let x = map_some (of_one op) (number_expr q.temps e) m h in
      subst (λ y. NoWider found (range_of (value_span (given p) y))) x.2 (w.plain (fits q typed ins) (given p) x.0 (f.plain q p x.0 typed.0 ins und x.1));
} where
  fits : (q : CsProgramTree) → AreOperandsTyped q (Unary op e) → AreInside q.temps rs → UnaryFits op r
  fits q typed ins = unary_fits op r q e typed.1 (λ t h. f.inside q t typed.0 ins h)

pub binary_range : (rs : List Range) (op : TBinaryOp) (a b : CsExprTree) (r s found : Range) → IsRangeOf rs a r → IsRangeOf rs b s → IsBinary op r s found
    → IsRangeOf rs (Binary op a b) found
binary_range rs op a b r s found f g w = record {
  holds = λ st v i h.
      let x = and_then_some _ (value_of a st) v h in let y = and_then_some (if_taken op (binary_result op) x.0) (value_of b st) v x.2 in
      w.holds x.0 y.0 v (f.holds st x.0 i x.1) (g.holds st y.0 i y.1) y.2;
  point = λ q st v typed ins all h.
      let x = and_then_some _ (value_of a st) v h in let y = and_then_some (if_taken op (binary_result op) x.0) (value_of b st) v x.2 in
      let p = f.point q st x.0 typed.0 ins all x.1 in let o = g.point q st y.0 typed.1 ins all y.1 in
      w.point (fits q typed ins) x.0 y.0 v p.1 o.1 p.0 o.0 y.2;
  inside = λ q t typed ins h. w.inside (fits q typed ins) t (some_type t (binary_type op) h);
  plain = λ q p m typed ins und h.
      let x = and_then_some _ (number_expr q.temps a) m h in let y = and_then_some (of_two op x.0) (number_expr q.temps b) m x.2 in
      w.plain (fits q typed ins) (given p) x.0 y.0 m (f.plain q p x.0 typed.0 ins und x.1) (g.plain q p y.0 typed.1 ins und y.1) y.2;
} where
  fits : (q : CsProgramTree) → AreOperandsTyped q (Binary op a b) → AreInside q.temps rs → BinaryFits op r s
  fits q typed ins = binary_fits op r s q a b typed.2 (λ t h. f.inside q t typed.0 ins h) (λ t h. g.inside q t typed.1 ins h)

pub convert_range : (rs : List Range) (t : IntType) (e : CsExprTree) (r taken : Range) (way : Way) → IsRangeOf rs e r → IsWrapping t r way taken
    → IsRangeOf rs (Convert t e) taken
convert_range rs t e r taken way f w = record {
  holds = λ s v i h. let x = and_then_some (converted_to (scalars.Int t)) (value_of e s) v h in held x.0 v (f.holds s x.0 i x.1) x.2;
  point = λ q s v typed ins all h.
      let x = and_then_some (converted_to (scalars.Int t)) (value_of e s) v h in let p = f.point q s x.0 typed.0 ins all x.1 in only x.0 v p.0 x.2;
  inside = λ q u typed ins h. same_int (λ x. LiesIn x taken) t u h w.takes.inside;
  plain = λ q p m typed ins und h.
      let x = map_some (numbers.Convert t) (number_expr q.temps e) m h in
      subst (λ y. NoWider taken (range_of (value_span (given p) y))) x.2
      (wrapped_under t r taken way (Some (value_span (given p) x.0)) w
      (λ z k g. same_some (λ (y : Span). NoWider r (range_of y)) (value_span (given p) x.0) z k (f.plain q p x.0 typed.0 ins und x.1)));
} where
  held : (v u : Value) → InRange r (number_of v) → converted_to (scalars.Int t) v ≡ Some u → InRange taken (number_of u)
  held (values.Int ty n) u i h = same_some (λ x. InRange taken (number_of x)) (values.Int t (wrapped t n)) u h (w.takes.holds n i)
  held (values.Ptr p) u i h = absurd (cc)
  held values.Null u i h = absurd (cc)

  only : (v u : Value) → IsPoint r (number_of v) → converted_to (scalars.Int t) v ≡ Some u → IsPoint taken (number_of u) × IsNoObject u
  only (values.Int ty n) u p h = same_some (λ x. IsPoint taken (number_of x) × IsNoObject x) (values.Int t (wrapped t n)) u h (w.point n p, tt)
  only (values.Ptr q) u p h = absurd (cc)
  only values.Null u p h = absurd (cc)
