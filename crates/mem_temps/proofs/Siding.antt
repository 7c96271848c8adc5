-- Sides of comparisons that are temporaries.
use Rattle.std.proofs.Common.{◌≡◌, ℕ, true, refl, sym, subst, ap, ◌∙◌, List, Option, Some, None}
use Rattle.std.specs.Prelude.{option_and_then, slice_get}
use Rattle.c_syntax_written.specs.declared.int_type.IntType.{IntType}
use Rattle.c_syntax_written.specs.Integer.{wrapped}
use Rattle.c_syntax.specs.declared.operator.TUnaryOp.{TUnaryOp}
use Rattle.c_syntax.specs.declared.operator.TUnaryOp.TheVariants as unaries
use Rattle.c_syntax.specs.declared.operator.TBinaryOp.{TBinaryOp}
use Rattle.c_syntax.specs.declared.operator.TBinaryOp.TheVariants as binaries
use Rattle.c_syntax.specs.declared.operator.Comparison.TheVariants as comparisons
use Rattle.block_mem.specs.declared.types.Scalar.{Scalar}
use Rattle.block_mem.specs.declared.types.Scalar.TheVariants as scalars
use Rattle.block_mem.specs.declared.types.Value.{Value}
use Rattle.block_mem.specs.declared.types.Value.TheVariants as values
use Rattle.c_values.specs.Operators.{unary_result}
use Rattle.c_values.specs.Values.{converted_to}
use Rattle.num_api.specs.declared.message.Range.{Range}
use Rattle.num_api.specs.Spans.{Span, range_of, span_between}
use Rattle.num_api.proofs.Parts.{wider}
use Rattle.machine_nums.specs.MExprs.{MExprTree, type_of}
use Rattle.machine_nums.specs.MExprs as numbers
use Rattle.machine_nums.specs.Rule.{value_span, exact_span, exact_variable, side_variable, type_span, fits}
use Rattle.machine_nums.proofs.Rules.{fits_from, fits_inside}
use Rattle.machine_nums.proofs.Values.{wrapped-has}
use Rattle.machine_nums.proofs.Wrapped.{inside_has}
use Rattle.csharp.specs.Trees.{CsExprTree, Temp, Unary, Binary, Convert, CsProgramTree}
use Rattle.csharp.specs.States.{State, value_of}
use Rattle.plain_runs.specs.States.{Plain, given}
use Rattle.plain_runs.specs.Numbers.{number_expr, number_op, shift_op, compared, of_one, of_two, read}
use Rattle.mem_temps.specs.Values.{number_of}
use Rattle.mem_temps.specs.Operators.{LiesIn}
use Rattle.mem_temps.specs.Ranges.{AreIn}
use Rattle.mem_temps.specs.Exprs.{IsRangeOf}
use Rattle.mem_temps.proofs.Ranged.{and_then_some, map_some}
use Rattle.mem_temps.specs.Cuts.{IsSideOf}

-- ---- temporaries

pub temp_side : (rs : List Range) (d : ℕ) → IsSideOf rs (Temp d) (Some d)
temp_side rs d = record {
  holds = λ x e s v all h. let same : d ≡ x = cc in (v, subst (λ (k : ℕ). slice_get s.temps k ≡ Some v) same h, refl);
  plain = λ q p m x typed ins und h side. by q p m x (slice_get q.temps d) refl h side;
}
  where
    by : (q : CsProgramTree) (p : Plain) (m : MExprTree) (x : ℕ) (o : Option Scalar) → slice_get q.temps d ≡ o → option_and_then (read d) o ≡ Some m
        → side_variable (given p) m ≡ Some x → (Some d ≡ Some x) × (t : IntType) × (slice_get q.temps x ≡ Some (scalars.Int t))
    by q p m x None is h side = absurd (cc)
    by q p m x (Some scalars.Pointer) is h side = absurd (cc)
    by q p m x (Some (scalars.Int t)) is h side =
        let same : numbers.Read d t ≡ m = cc in
        let own : side_variable (given p) (numbers.Read d t) ≡ Some x = subst (λ (y : MExprTree). side_variable (given p) y ≡ Some x) (sym same) side in
        let f = fits_from t (span_between (given p d).lo (given p d).hi) (Some d) x own in
        let one : d ≡ x = cc (f.3) in (f.3, t, subst (λ (k : ℕ). slice_get q.temps k ≡ Some (scalars.Int t)) one is)

pub no_side : (rs : List Range) (e : CsExprTree) → ((p : Plain) (q : CsProgramTree) (m : MExprTree) (x : ℕ) → number_expr q.temps e ≡ Some m
    → side_variable (given p) m ≡ Some x → ⊥) → IsSideOf rs e None
no_side rs e none = record {
  holds = λ x e s v all h. absurd (cc);
  plain = λ q p m x typed ins und h side. absurd (none p q m x h side);
}

-- ---- conversions that keep each number

-- a conversion is looked through by the rule where it keeps the numbers
through : (p : Plain) (t : IntType) (a : MExprTree) (x : ℕ) → side_variable (given p) (numbers.Convert t a) ≡ Some x
    → (fits t (value_span (given p) a) ≡ true) × (side_variable (given p) a ≡ Some x)
through p t a x h =
    let f = fits_from t (Some (value_span (given p) a)) (side_variable (given p) a) x h in
    let same : value_span (given p) a ≡ f.0 = cc (f.1) in (subst (λ (z : Span). fits t z ≡ true) (sym same) f.2, f.3)

module _ (rs : List Range) (t : IntType) (e : CsExprTree) (r : Range) (f : IsRangeOf rs e r) where
  kept_number : LiesIn t r → (s : State) (v u : Value) → AreIn rs s → value_of e s ≡ Some v → converted_to (scalars.Int t) v ≡ Some u → number_of v ≡ number_of u
  kept_number inside s (values.Int ty n) u all h k =
      let has = inside_has t r n inside (f.holds s (values.Int ty n) all h) in
      let same : values.Int t (wrapped t n) ≡ u = cc in sym (wrapped-has t n has) ∙ ap number_of same
  kept_number inside s (values.Ptr p) u all h k = absurd (cc)
  kept_number inside s values.Null u all h k = absurd (cc)

  pub converted_side : (found : Option ℕ) → LiesIn t r → IsSideOf rs e found → IsSideOf rs (Convert t e) found
  converted_side found inside g = record {
    holds = λ x is s u all h.
        let v = and_then_some (converted_to (scalars.Int t)) (value_of e s) u h in
        let w = g.holds x is s v.0 all v.1 in (w.0, w.1, w.2 ∙ kept_number inside s v.0 u all v.1 v.2);
    plain = λ q p m x typed ins und h side.
        let a = map_some (numbers.Convert t) (number_expr q.temps e) m h in
        let own : side_variable (given p) (numbers.Convert t a.0) ≡ Some x = subst (λ (y : MExprTree). side_variable (given p) y ≡ Some x) (sym a.2) side in
        g.plain q p a.0 x typed.0 ins und a.1 (through p t a.0 x own).1;
  }

  pub changed_side : (LiesIn t r → ⊥) → IsSideOf rs (Convert t e) None
  changed_side out = record {
    holds = λ x e s v all h. absurd (cc);
    plain = λ q p m x typed ins und h side.
        let a = map_some (numbers.Convert t) (number_expr q.temps e) m h in
        let own : side_variable (given p) (numbers.Convert t a.0) ≡ Some x = subst (λ (y : MExprTree). side_variable (given p) y ≡ Some x) (sym a.2) side in
        let fit = (through p t a.0 x own).0 in
        absurd (out (wider r (range_of (value_span (given p) a.0)) (range_of (type_span t)) (f.plain q p a.0 typed.0 ins und a.1)
        (fits_inside t (value_span (given p) a.0) fit)));
  }

pub plus_side : (rs : List Range) (t : IntType) (e : CsExprTree) (found : Option ℕ) → IsSideOf rs e found → IsSideOf rs (Unary (unaries.Plus t) e) found
plus_side rs t e found g = record {
  holds = λ x is s u all h.
      let v = and_then_some (unary_result (unaries.Plus t)) (value_of e s) u h in
      let w = g.holds x is s v.0 all v.1 in (w.0, w.1, w.2 ∙ same v.0 u v.2);
  plain = λ q p m x typed ins und h side.
      let a = map_some (of_one (unaries.Plus t)) (number_expr q.temps e) m h in
      let own : side_variable (given p) (numbers.Convert t a.0) ≡ Some x = subst (λ (y : MExprTree). side_variable (given p) y ≡ Some x) (sym a.2) side in
      g.plain q p a.0 x typed.0 ins und a.1 (through p t a.0 x own).1;
}
  where
    same : (v u : Value) → unary_result (unaries.Plus t) v ≡ Some u → number_of v ≡ number_of u
    same (values.Int ty n) u k = let is : values.Int t n ≡ u = cc in ap number_of is
    same (values.Ptr p) u k = absurd (cc)
    same values.Null u k = absurd (cc)

-- ---- expressions that are no variable

pub no_unary_side : (rs : List Range) (op : TUnaryOp) (e : CsExprTree) → ((t : IntType) → op ≡ unaries.Plus t → ⊥) → IsSideOf rs (Unary op e) None
no_unary_side rs op e ne = no_side rs (Unary op e) (λ p q m x h side.
    let a = map_some (of_one op) (number_expr q.temps e) m h in by p op a.0 x ne (subst (λ (y : MExprTree). side_variable (given p) y ≡ Some x) (sym a.2) side))
  where
    none : (p : Plain) (m : MExprTree) (x : ℕ) → exact_variable (given p) m ≡ None → side_variable (given p) m ≡ Some x → ⊥
    none p m x is h = let f = fits_from (type_of m) (exact_span (given p) m) (exact_variable (given p) m) x h in let e = f.3 in cc

    by : (p : Plain) (op : TUnaryOp) (a : MExprTree) (x : ℕ) → ((t : IntType) → op ≡ unaries.Plus t → ⊥) → side_variable (given p) (of_one op a) ≡ Some x → ⊥
    by p (unaries.Plus t) a x ne h = ne t refl
    by p (unaries.Minus t) a x ne h = none p (of_one (unaries.Minus t) a) x refl h
    by p (unaries.Complement t) a x ne h = none p (of_one (unaries.Complement t) a) x refl h
    by p unaries.Not a x ne h = none p (of_one unaries.Not a) x refl h

pub no_binary_side : (rs : List Range) (op : TBinaryOp) (a b : CsExprTree) → IsSideOf rs (Binary op a b) None
no_binary_side rs op a b = no_side rs (Binary op a b) (λ p q m x h side.
    let l = and_then_some (λ l. option_and_then (of_two op l) (number_expr q.temps b)) (number_expr q.temps a) m h in
    let r = and_then_some (of_two op l.0) (number_expr q.temps b) m l.2 in by p op l.0 r.0 m x r.2 side)
  where
    none : (p : Plain) (m : MExprTree) (x : ℕ) → exact_variable (given p) m ≡ None → side_variable (given p) m ≡ Some x → ⊥
    none p m x is h = let f = fits_from (type_of m) (exact_span (given p) m) (exact_variable (given p) m) x h in let e = f.3 in cc

    into : (p : Plain) (k m : MExprTree) (x : ℕ) → exact_variable (given p) k ≡ None → Some k ≡ Some m → side_variable (given p) m ≡ Some x → ⊥
    into p k m x is e h = let same : k ≡ m = cc in none p k x is (subst (λ (y : MExprTree). side_variable (given p) y ≡ Some x) (sym same) h)

    by : (p : Plain) (op : TBinaryOp) (a b m : MExprTree) (x : ℕ) → of_two op a b ≡ Some m → side_variable (given p) m ≡ Some x → ⊥
    by p (binaries.Arithmetic o t) a b m x h k = into p (numbers.Binary (number_op o) t a b) m x refl h k
    by p (binaries.Shift w t) a b m x h k = into p (numbers.Binary (shift_op w) t a b) m x refl h k
    by p (binaries.CompareInts comparisons.Less t) a b m x h k = into p (compared comparisons.Less a b) m x refl h k
    by p (binaries.CompareInts comparisons.Greater t) a b m x h k = into p (compared comparisons.Greater a b) m x refl h k
    by p (binaries.CompareInts comparisons.AtMost t) a b m x h k = into p (compared comparisons.AtMost a b) m x refl h k
    by p (binaries.CompareInts comparisons.AtLeast t) a b m x h k = into p (compared comparisons.AtLeast a b) m x refl h k
    by p (binaries.CompareInts comparisons.Equal t) a b m x h k = into p (compared comparisons.Equal a b) m x refl h k
    by p (binaries.CompareInts comparisons.Unequal t) a b m x h k = into p (compared comparisons.Unequal a b) m x refl h k
    by p op a b m x h k = absurd (cc)
