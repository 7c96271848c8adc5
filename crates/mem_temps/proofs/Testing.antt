-- What is left of both sides of a test.
use Rattle.std.proofs.Common.{◌≡◌, ◌<◌, ℕ, ℤ, pos, Bool, true, false, refl, sym, subst, ap, ◌∙◌, List, [], ◌∷◌, length, Option, Some, None}
use Rattle.std.specs.Prelude.{All, IsTrue, not, ◌&&◌, option_and_then, slice_get}
use Rattle.std.specs.Ordering.{int_eq}
use Rattle.std.proofs.lemmas.Bool.{and_parts}
use Rattle.std.proofs.lemmas.List.Elements.{All-nil, All-cons}
use Rattle.c_syntax_written.specs.declared.int_type.IntType.{IntType}
use Rattle.c_syntax_written.specs.declared.int_type.IntType.TheVariants as ints
use Rattle.c_syntax.specs.declared.operator.Arithmetic.{Arithmetic}
use Rattle.c_syntax.specs.declared.operator.Arithmetic.TheVariants as arithmetics
use Rattle.c_syntax.specs.declared.operator.Shift.{Shift}
use Rattle.c_syntax.specs.declared.operator.Shift.TheVariants as shifts
use Rattle.c_syntax.specs.declared.operator.Comparison.{Comparison}
use Rattle.c_syntax.specs.declared.operator.Comparison.TheVariants as comparisons
use Rattle.c_syntax.specs.declared.operator.TUnaryOp.{TUnaryOp}
use Rattle.c_syntax.specs.declared.operator.TUnaryOp.TheVariants as unaries
use Rattle.c_syntax.specs.declared.operator.TBinaryOp.{TBinaryOp}
use Rattle.c_syntax.specs.declared.operator.TBinaryOp.TheVariants as binaries
use Rattle.block_mem.specs.declared.types.Scalar.{Scalar}
use Rattle.block_mem.specs.declared.types.Scalar.TheVariants as scalars
use Rattle.block_mem.specs.declared.types.Value.{Value}
use Rattle.block_mem.specs.declared.types.Value.TheVariants as values
use Rattle.c_values.specs.Numbers.{compares}
use Rattle.c_values.specs.Operators.{binary_result, unary_result}
use Rattle.c_values.specs.Values.{bit, truth as truth_of}
use Rattle.num_api.specs.declared.message.Range.{Range}
use Rattle.num_api.specs.declared.expr.NOp.{NOp}
use Rattle.num_api.specs.declared.expr.NOp.TheVariants as ops
use Rattle.num_api.specs.Plain.{Standing, standing, turned, cut}
use Rattle.num_api.specs.Ranges.{InRange, NoWider, IsUnder, holds_some}
use Rattle.num_api.specs.Spans.{Span, range_of}
use Rattle.num_api.specs.Value.{binary_value, truth as truth_number, has_truth}
use Rattle.num_api.specs.Standings.{Stands}
use Rattle.num_api.proofs.Parts.{wider, as_wide}
use Rattle.num_api.proofs.Truths.{op_stands, truth_is, turned_truth, turned_stands}
use Rattle.machine_nums.specs.MExprs.{MExprTree}
use Rattle.machine_nums.specs.MExprs as numbers
use Rattle.machine_nums.specs.Rule.{value_span, side_variable, cut_sides, tested}
use Rattle.machine_nums.proofs.Cutting.{sides_under}
use Rattle.csharp.specs.Trees.{CsExprTree, Const, Null, Temp, Address, Unary, Binary, Convert, CsProgramTree}
use Rattle.csharp.specs.Formed.{AreOperandsTyped}
use Rattle.csharp.specs.States.{State, value_of, if_taken}
use Rattle.plain_runs.specs.States.{Plain, given}
use Rattle.plain_runs.specs.Changes.{also, one_of, sides, cut_temps}
use Rattle.plain_runs.specs.Numbers.{number_expr, number_op, shift_op, compared, of_one, of_two, read}
use Rattle.mem_temps.specs.Values.{number_of}
use Rattle.mem_temps.specs.Ranges.{range_at, AreIn, AreInside, AreUnder}
use Rattle.mem_temps.specs.Exprs.{IsRangeOf}
use Rattle.mem_temps.proofs.Ranged.{and_then_some, map_some}
use Rattle.mem_temps.specs.Cuts.{IsSideOf, IsKeptIn, AreCut, IsTestCut, AreSidesCut, IsComparisonCut}
use Rattle.mem_temps.proofs.Kept.{inside_below, kept_narrow, kept_holds, kept_here, kept_left, kept_size, kept_some}

-- ---- ranges of all variables of the rule

-- those of integer temporaries, and the given ones elsewhere
of_type : Option Scalar → Range → Range → Range
of_type None r s = s
of_type (Some scalars.Pointer) r s = s
of_type (Some (scalars.Int t)) r s = r

known_of : List Scalar → List Range → Plain → ℕ → Range
known_of types new p d = of_type (slice_get types d) (range_at new d) (given p d)

known_is : (types : List Scalar) (new : List Range) (p : Plain) (d : ℕ) (t : IntType) → slice_get types d ≡ Some (scalars.Int t)
    → known_of types new p d ≡ range_at new d
unfolding known_of of_type
known_is types new p d t h = ap (λ o. of_type o (range_at new d) (given p d)) h

known_under : (types : List Scalar) (new : List Range) (p : Plain) → AreUnder types new p → IsUnder (known_of types new p) (given p)
unfolding known_of of_type
known_under types new p under = λ d. by d (slice_get types d) refl where
  by : (d : ℕ) (o : Option Scalar) → slice_get types d ≡ o → NoWider (of_type o (range_at new d) (given p d)) (given p d)
  by d None h = as_wide (given p d)
  by d (Some scalars.Pointer) h = as_wide (given p d)
  by d (Some (scalars.Int t)) h = under d t h

-- ---- the two sides

all_sides : (P : ℕ → Type 0) (a b : Option ℕ) → ((x : ℕ) → a ≡ Some x → P x) → ((x : ℕ) → b ≡ Some x → P x) → All P (also a (one_of b))
all_sides P None None h k = All-nil P
all_sides P None (Some y) h k = All-cons P y [] (k y refl) (All-nil P)
all_sides P (Some x) None h k = All-cons P x [] (h x refl) (All-nil P)
all_sides P (Some x) (Some y) h k = All-cons P x (y ∷ []) (h x refl) (All-cons P y [] (k y refl) (All-nil P))

both_true : (a b : Bool) → IsTrue a → IsTrue b → IsTrue (a && b)
both_true true true h k = refl
both_true true false h k = absurd (cc)
both_true false b h k = absurd (cc)

module _ (rs : List Range) (op : NOp) (a b : CsExprTree) (truth : Bool) (how : Standing) (is : standing op truth ≡ Some how) (l r : Range) (fa : IsRangeOf rs a l)
    (fb : IsRangeOf rs b r) (sa sb : Option ℕ) (ga : IsSideOf rs a sa) (gb : IsSideOf rs b sb) (first second : Range)
    (hold_first : (x y : ℤ) → InRange l x → InRange r y → Stands how x y → InRange first x)
    (plain_first : (p q : Span) → NoWider l (range_of p) → NoWider r (range_of q) → NoWider first (range_of (cut how p q)))
    (hold_second : (x y : ℤ) → InRange r x → InRange l y → Stands (turned how) x y → InRange second x)
    (plain_second : (p q : Span) → NoWider r (range_of p) → NoWider l (range_of q) → NoWider second (range_of (cut (turned how) p q)))
    (mid new : List Range) (one two : Bool) (ka : IsKeptIn rs sa first one mid) (kb : IsKeptIn mid sb second two new) where
  sides_narrow : (d : ℕ) → NoWider (range_at new d) (range_at rs d)
  sides_narrow d = wider (range_at new d) (range_at mid d) (range_at rs d) (kept_narrow mid second two new sb kb d) (kept_narrow rs first one mid sa ka d)

  sides_hold : (s : State) (v u : Value) → AreIn rs s → value_of a s ≡ Some v → value_of b s ≡ Some u → Stands how (number_of v) (number_of u)
      → IsTrue (one && two) × AreIn new s
  sides_hold s v u all ea eb st =
      let i = fa.holds s v all ea in let j = fb.holds s u all eb in
      let x = kept_holds rs first one mid sa ka s all (λ d e. let w = ga.holds d e s v all ea in
      (w.0, w.1, subst (InRange first) (sym w.2) (hold_first (number_of v) (number_of u) i j st))) in
      let y = kept_holds mid second two new sb kb s x.1 (λ d e. let w = gb.holds d e s u all eb in
      (w.0, w.1, subst (InRange second) (sym w.2) (hold_second (number_of u) (number_of v) j i (turned_stands how (number_of v) (number_of u) st)))) in
      (both_true one two x.0 y.0, y.1)

  module _ (q : CsProgramTree) (p : Plain) (m k : MExprTree) (ta : AreOperandsTyped q a) (tb : AreOperandsTyped q b) (ins : AreInside q.temps rs)
      (und : AreUnder q.temps rs p) (ea : number_expr q.temps a ≡ Some m) (eb : number_expr q.temps b ≡ Some k) (some : IsTrue (one && two)) where
    parts : (one ≡ true) × (two ≡ true)
    parts = and_parts one two some

    left_side : (x : ℕ) → side_variable (given p) m ≡ Some x → (sa ≡ Some x) × (t : IntType) × (slice_get q.temps x ≡ Some (scalars.Int t))
    left_side x h = ga.plain q p m x ta ins und ea h

    right_side : (x : ℕ) → side_variable (given p) k ≡ Some x → (sb ≡ Some x) × (t : IntType) × (slice_get q.temps x ≡ Some (scalars.Int t))
    right_side x h = gb.plain q p k x tb ins und eb h

    below_old : (x : ℕ) (t : IntType) → slice_get q.temps x ≡ Some (scalars.Int t) → x < length rs
    below_old x t h = inside_below q.temps rs x t ins h

    below_mid : (x : ℕ) (t : IntType) → slice_get q.temps x ≡ Some (scalars.Int t) → x < length mid
    below_mid x t h = subst (λ (n : ℕ). x < n) (sym (kept_size rs first one mid sa ka)) (below_old x t h)

    left_under : (x : ℕ) → side_variable (given p) m ≡ Some x → NoWider (known_of q.temps new p x) (range_of (cut how (value_span (given p) m) (value_span (given p) k)))
    left_under x h =
        let s = left_side x h in
        let own = kept_here rs first one mid x (subst (λ o. IsKeptIn rs o first one mid) s.0 ka) (below_old x s.1 s.2) in
        subst (λ (w : Range). NoWider w (range_of (cut how (value_span (given p) m) (value_span (given p) k)))) (sym (known_is q.temps new p x s.1 s.2))
        (wider (range_at new x) (range_at mid x) _ (kept_narrow mid second two new sb kb x)
        (wider (range_at mid x) first _ own
        (plain_first (value_span (given p) m) (value_span (given p) k) (fa.plain q p m ta ins und ea) (fb.plain q p k tb ins und eb))))

    right_under : (x : ℕ) → side_variable (given p) k ≡ Some x
        → NoWider (known_of q.temps new p x) (range_of (cut (turned how) (value_span (given p) k) (value_span (given p) m)))
    right_under x h =
        let s = right_side x h in
        let own = kept_here mid second two new x (subst (λ o. IsKeptIn mid o second two new) s.0 kb) (below_mid x s.1 s.2) in
        subst (λ (w : Range). NoWider w (range_of (cut (turned how) (value_span (given p) k) (value_span (given p) m)))) (sym (known_is q.temps new p x s.1 s.2))
        (wider (range_at new x) second _ own
        (plain_second (value_span (given p) k) (value_span (given p) m) (fb.plain q p k tb ins und eb) (fa.plain q p m ta ins und ea)))

    all_under : IsUnder (known_of q.temps new p)
        (cut_sides (given p) (side_variable (given p) m) (side_variable (given p) k) (Some how) (value_span (given p) m) (value_span (given p) k))
    all_under = sides_under (known_of q.temps new p) (given p) (side_variable (given p) m) (side_variable (given p) k) how (value_span (given p) m)
        (value_span (given p) k) (known_under q.temps new p (λ d t h. wider (range_at new d) (range_at rs d) _ (sides_narrow d) (und d t h))) left_under right_under

    HasSome : ℕ → Type 0
    HasSome d = IsTrue (holds_some (range_at new d)) × (t : IntType) × (slice_get q.temps d ≡ Some (scalars.Int t))

    left_some : (x : ℕ) → side_variable (given p) m ≡ Some x → IsTrue (holds_some (range_at new x)) × (t : IntType) × (slice_get q.temps x ≡ Some (scalars.Int t))
    left_some x h =
        let s = left_side x h in
        let here = kept_left rs first one mid x (subst (λ o. IsKeptIn rs o first one mid) s.0 ka) (below_old x s.1 s.2) parts.0 in
        (kept_some mid second two new sb kb parts.1 x (below_mid x s.1 s.2) here, s.1, s.2)

    right_some : (x : ℕ) → side_variable (given p) k ≡ Some x → IsTrue (holds_some (range_at new x)) × (t : IntType) × (slice_get q.temps x ≡ Some (scalars.Int t))
    right_some x h =
        let s = right_side x h in
        (kept_left mid second two new x (subst (λ o. IsKeptIn mid o second two new) s.0 kb) (below_mid x s.1 s.2) parts.1, s.1, s.2)

    sides_plain : AreCut q.temps new p (numbers.Binary op ints.Int m k) truth
    sides_plain = record {
      under = λ d t h. subst (λ (w : Range). NoWider w (tested (given p) (numbers.Binary op ints.Int m k) truth d)) (known_is q.temps new p d t h)
          (subst (λ o. NoWider (known_of q.temps new p d)
          (cut_sides (given p) (side_variable (given p) m) (side_variable (given p) k) o (value_span (given p) m) (value_span (given p) k) d)) (sym is) (all_under d));
      some = subst (λ o. All (λ d. IsTrue (holds_some (range_at new d)) × (t : IntType) × (slice_get q.temps d ≡ Some (scalars.Int t)))
          (sides o (side_variable (given p) m) (side_variable (given p) k))) (sym is)
          (all_sides (λ d. IsTrue (holds_some (range_at new d)) × (t : IntType) × (slice_get q.temps d ≡ Some (scalars.Int t))) (side_variable (given p) m)
          (side_variable (given p) k) left_some right_some);
    }

  pub cut_on_both : AreSidesCut rs op a b truth (one && two) new
  cut_on_both = record {
    holds = λ way s v u e all ea eb st. let same : how ≡ way = same_how way e in
        sides_hold s v u all ea eb (subst (λ (h : Standing). Stands h (number_of v) (number_of u)) (sym same) st);
    same = λ e. absurd (no_how e);
    narrow = sides_narrow;
    plain = λ q p m k ta tb ins und ea eb some. sides_plain q p m k ta tb ins und ea eb some;
  }
    where
      same_how : (way : Standing) → standing op truth ≡ Some way → how ≡ way
      same_how way e = let s : Some how ≡ Some way = sym is ∙ e in cc

      no_how : standing op truth ≡ None → ⊥
      no_how e = let s : Some how ≡ None = sym is ∙ e in cc

-- ---- no cut

-- the rule cuts nothing
abbrev Uncut : MExprTree → Type 0
Uncut m = (p : Plain) (truth : Bool) → (tested (given p) m truth ≡ given p) × (cut_temps (given p) m truth ≡ [])

uncut_op : (op : NOp) (t : IntType) (m k : MExprTree) → ((truth : Bool) → standing op truth ≡ None) → Uncut (numbers.Binary op t m k)
uncut_op op t m k none = λ p truth. (
  ap (λ o. cut_sides (given p) (side_variable (given p) m) (side_variable (given p) k) o (value_span (given p) m) (value_span (given p) k)) (none truth),
  ap (λ o. sides o (side_variable (given p) m) (side_variable (given p) k)) (none truth),
)

no_standing : (op : Arithmetic) (truth : Bool) → standing (number_op op) truth ≡ None
no_standing arithmetics.Multiply truth = refl
no_standing arithmetics.Divide truth = refl
no_standing arithmetics.Remainder truth = refl
no_standing arithmetics.Add truth = refl
no_standing arithmetics.Subtract truth = refl
no_standing arithmetics.BitAnd truth = refl
no_standing arithmetics.BitXor truth = refl
no_standing arithmetics.BitOr truth = refl

shift_standing : (way : Shift) (truth : Bool) → standing (shift_op way) truth ≡ None
shift_standing shifts.Left truth = refl
shift_standing shifts.Right truth = refl

-- the expression is no negation and no comparison of integers
abbrev pub IsNoTest : CsExprTree → Type 0
IsNoTest (Unary unaries.Not e) = ⊥
IsNoTest (Binary (binaries.CompareInts c t) a b) = ⊥
IsNoTest e = Unit {0}

uncut_expr : (types : List Scalar) (e : CsExprTree) (m : MExprTree) → IsNoTest e → number_expr types e ≡ Some m → Uncut m
uncut_expr types (Const t n) m no_test h = let same : numbers.Const t n ≡ m = cc in subst Uncut same (λ p truth. (refl, refl))
uncut_expr types Null m no_test h = absurd (cc)
uncut_expr types (Temp d) m no_test h = by (slice_get types d) h where
  by : (o : Option Scalar) → option_and_then (read d) o ≡ Some m → Uncut m
  by None h = absurd (cc)
  by (Some scalars.Pointer) h = absurd (cc)
  by (Some (scalars.Int t)) h = let same : numbers.Read d t ≡ m = cc in subst Uncut same (λ p truth. (refl, refl))
uncut_expr types (Address x) m no_test h = absurd (cc)
uncut_expr types (Unary op e) m no_test h = let a = map_some (of_one op) (number_expr types e) m h in subst Uncut a.2 (by op a.0 no_test) where
  by : (op : TUnaryOp) (k : MExprTree) → IsNoTest (Unary op e) → Uncut (of_one op k)
  by (unaries.Plus t) k no_test = λ p truth. (refl, refl)
  by (unaries.Minus t) k no_test = λ p truth. (refl, refl)
  by (unaries.Complement t) k no_test = λ p truth. (refl, refl)
  by unaries.Not k no_test = absurd no_test
uncut_expr types (Binary op a b) m no_test h =
    let x = and_then_some (λ l. option_and_then (of_two op l) (number_expr types b)) (number_expr types a) m h in
    let y = and_then_some (of_two op x.0) (number_expr types b) m x.2 in by op x.0 y.0 no_test y.2
  where
    by : (op : TBinaryOp) (l k : MExprTree) → IsNoTest (Binary op a b) → of_two op l k ≡ Some m → Uncut m
    by (binaries.Arithmetic op t) l k no_test h = let same : numbers.Binary (number_op op) t l k ≡ m = cc in subst Uncut same (uncut_op (number_op op) t l k (no_standing op))
    by (binaries.Shift way t) l k no_test h = let same : numbers.Binary (shift_op way) t l k ≡ m = cc in subst Uncut same (uncut_op (shift_op way) t l k (shift_standing way))
    by (binaries.CompareInts c t) l k no_test h = absurd no_test
    by op l k no_test h = absurd (cc)
uncut_expr types (Convert t e) m no_test h =
    let a = map_some (numbers.Convert t) (number_expr types e) m h in subst Uncut a.2 (λ p truth. (refl, refl))

still : (rs : List Range) (q : CsProgramTree) (p : Plain) (m : MExprTree) (truth : Bool) → AreUnder q.temps rs p → tested (given p) m truth ≡ given p
    → cut_temps (given p) m truth ≡ [] → AreCut q.temps rs p m truth
still rs q p m truth und same none = record {
  under = λ d t h. subst (λ (f : ℕ → Range). NoWider (range_at rs d) (f d)) (sym same) (und d t h);
  some = subst (All (λ d. IsTrue (holds_some (range_at rs d)) × (t : IntType) × (slice_get q.temps d ≡ Some (scalars.Int t)))) (sym none) (All-nil _);
}

pub test_uncut : (rs : List Range) (e : CsExprTree) (truth : Bool) → IsNoTest e → IsTestCut rs e truth true rs
test_uncut rs e truth no_test = record {
  holds = λ s v all h k. (refl, all);
  narrow = λ d. as_wide (range_at rs d);
  plain = λ q p m typed ins und h some. let u = uncut_expr q.temps e m no_test h p truth in still rs q p m truth und u.0 u.1;
}

-- an operator that tells nothing of its sides
pub sides_uncut : (rs : List Range) (op : NOp) (a b : CsExprTree) (truth : Bool) → standing op truth ≡ None → AreSidesCut rs op a b truth true rs
sides_uncut rs op a b truth none = record {
  holds = λ how s v u e all ea eb st. (refl, all);
  same = λ e. (refl, refl);
  narrow = λ d. as_wide (range_at rs d);
  plain = λ q p m k ta tb ins und ea eb some. still rs q p (numbers.Binary op ints.Int m k) truth und
      (ap (λ o. cut_sides (given p) (side_variable (given p) m) (side_variable (given p) k) o (value_span (given p) m) (value_span (given p) k)) none)
      (ap (λ o. sides o (side_variable (given p) m) (side_variable (given p) k)) none);
}

-- ---- tests

-- another list of a range, and another answer
sides_held : (rs : List Range) (op : NOp) (a b : CsExprTree) (truth some : Bool) (new : List Range) → AreSidesCut rs op a b truth some new → (s : State) (v u : Value)
    → AreIn rs s → value_of a s ≡ Some v → value_of b s ≡ Some u → (n : ℤ) → binary_value op (number_of v) (number_of u) ≡ Some n → IsTrue (has_truth truth n)
    → IsTrue some × AreIn new s
sides_held rs op a b truth some new f s v u all ea eb n is h = by (standing op truth) refl where
  by : (o : Option Standing) → standing op truth ≡ o → IsTrue some × AreIn new s
  by None e = let k = f.same e in (k.1, subst (λ (xs : List Range). AreIn xs s) (sym k.0) all)
  by (Some how) e = f.holds how s v u e all ea eb (op_stands op truth how (number_of v) (number_of u) n e is h)

-- the number of a comparison, by the operator that stands for it
module _ (rs new : List Range) (t : IntType) (a b : CsExprTree) (truth some : Bool) where
  -- the values of both sides
  operands : (c : Comparison) (s : State) (w : Value) → value_of (Binary (binaries.CompareInts c t) a b) s ≡ Some w → (v : Value) × (u : Value)
      × (value_of a s ≡ Some v) × (value_of b s ≡ Some u) × (number_of w ≡ truth_number (compares c (number_of v) (number_of u)))
  operands c s w h =
      let x = and_then_some (λ v. option_and_then (if_taken (binaries.CompareInts c t) (binary_result (binaries.CompareInts c t)) v) (value_of b s)) (value_of a s) w h in
      let y = and_then_some (if_taken (binaries.CompareInts c t) (binary_result (binaries.CompareInts c t)) x.0) (value_of b s) w x.2 in
      (x.0, y.0, x.1, y.1, by x.0 y.0 y.2)
    where
      by : (v u : Value) → binary_result (binaries.CompareInts c t) v u ≡ Some w → number_of w ≡ truth_number (compares c (number_of v) (number_of u))
      by (values.Int p m) (values.Int q n) k = let same : bit (compares c m n) ≡ w = cc in ap number_of (sym same)
      by (values.Int p m) (values.Ptr q) k = absurd (cc)
      by (values.Int p m) values.Null k = absurd (cc)
      by (values.Ptr p) u k = absurd (cc)
      by values.Null u k = absurd (cc)

  compared_held : (c : Comparison) → IsComparisonCut rs c a b truth some new → (s : State) (w : Value) → AreIn rs s
      → value_of (Binary (binaries.CompareInts c t) a b) s ≡ Some w → IsTrue (has_truth truth (number_of w)) → IsTrue some × AreIn new s
  compared_held c f s w all h k = let x = operands c s w h in by c x.0 x.1 x.2 x.3 f (subst (λ (n : ℤ). IsTrue (has_truth truth n)) x.4 k) where
    by : (c : Comparison) (v u : Value) → value_of a s ≡ Some v → value_of b s ≡ Some u → IsComparisonCut rs c a b truth some new
        → IsTrue (has_truth truth (truth_number (compares c (number_of v) (number_of u)))) → IsTrue some × AreIn new s
    by comparisons.Less v u i j f k = sides_held rs ops.Lt a b truth some new f s v u all i j _ refl k
    by comparisons.Greater v u i j f k = sides_held rs ops.Lt b a truth some new f s u v all j i _ refl k
    by comparisons.AtMost v u i j f k = sides_held rs ops.Le a b truth some new f s v u all i j _ refl k
    by comparisons.AtLeast v u i j f k = sides_held rs ops.Le b a truth some new f s u v all j i _ refl k
    by comparisons.Equal v u i j f k = sides_held rs ops.Eq a b truth some new f s v u all i j _ refl k
    by comparisons.Unequal v u i j f k = sides_held rs ops.Ne a b truth some new f s v u all i j _ refl k

  compared_narrow : (c : Comparison) → IsComparisonCut rs c a b truth some new → (d : ℕ) → NoWider (range_at new d) (range_at rs d)
  compared_narrow comparisons.Less f d = f.narrow d
  compared_narrow comparisons.Greater f d = f.narrow d
  compared_narrow comparisons.AtMost f d = f.narrow d
  compared_narrow comparisons.AtLeast f d = f.narrow d
  compared_narrow comparisons.Equal f d = f.narrow d
  compared_narrow comparisons.Unequal f d = f.narrow d

  compared_plain : (c : Comparison) → IsComparisonCut rs c a b truth some new → (q : CsProgramTree) (p : Plain) (l k : MExprTree) → AreOperandsTyped q a
      → AreOperandsTyped q b → AreInside q.temps rs → AreUnder q.temps rs p → number_expr q.temps a ≡ Some l → number_expr q.temps b ≡ Some k → IsTrue some
      → AreCut q.temps new p (compared c l k) truth
  compared_plain comparisons.Less f q p l k ta tb ins und ea eb h = f.plain q p l k ta tb ins und ea eb h
  compared_plain comparisons.Greater f q p l k ta tb ins und ea eb h = f.plain q p k l tb ta ins und eb ea h
  compared_plain comparisons.AtMost f q p l k ta tb ins und ea eb h = f.plain q p l k ta tb ins und ea eb h
  compared_plain comparisons.AtLeast f q p l k ta tb ins und ea eb h = f.plain q p k l tb ta ins und eb ea h
  compared_plain comparisons.Equal f q p l k ta tb ins und ea eb h = f.plain q p l k ta tb ins und ea eb h
  compared_plain comparisons.Unequal f q p l k ta tb ins und ea eb h = f.plain q p l k ta tb ins und ea eb h

  pub comparison_cut : (c : Comparison) → IsComparisonCut rs c a b truth some new → IsTestCut rs (Binary (binaries.CompareInts c t) a b) truth some new
  comparison_cut c f = record {
    holds = λ s w all h k. compared_held c f s w all h k;
    narrow = compared_narrow c f;
    plain = λ q p m typed ins und h here.
        let x = and_then_some (λ l. option_and_then (of_two (binaries.CompareInts c t) l) (number_expr q.temps b)) (number_expr q.temps a) m h in
        let y = and_then_some (of_two (binaries.CompareInts c t) x.0) (number_expr q.temps b) m x.2 in
        let same : compared c x.0 y.0 ≡ m = cc (y.2) in
        subst (λ (z : MExprTree). AreCut q.temps new p z truth) same (compared_plain c f q p x.0 y.0 typed.0 typed.1 ins und x.1 y.1 here);
  }

-- a negation has the other truth of its operand
pub negation_cut : (rs new : List Range) (e : CsExprTree) (truth some : Bool) → IsTestCut rs e (not truth) some new → IsTestCut rs (Unary unaries.Not e) truth some new
negation_cut rs new e truth some f = record {
  holds = λ s w all h k.
      let v = and_then_some (unary_result unaries.Not) (value_of e s) w h in f.holds s v.0 all v.1 (other v.0 w v.2 k);
  narrow = f.narrow;
  plain = λ q p m typed ins und h here.
      let a = map_some (of_one unaries.Not) (number_expr q.temps e) m h in
      let r = f.plain q p a.0 typed.0 ins und a.1 here in
      subst (λ (z : MExprTree). AreCut q.temps new p z truth) a.2 (record { under = r.under; some = r.some });
}
  where
    number_bit : (b : Bool) → number_of (bit b) ≡ truth_number b
    number_bit true = refl
    number_bit false = refl

    is_zero : (v : Value) → not (truth_of v) ≡ int_eq (number_of v) (pos 0)
    is_zero (values.Int t n) = twice (int_eq n (pos 0)) where
      twice : (b : Bool) → not (not b) ≡ b
      twice true = refl
      twice false = refl
    is_zero (values.Ptr p) = refl
    is_zero values.Null = refl

    other : (v w : Value) → unary_result unaries.Not v ≡ Some w → IsTrue (has_truth truth (number_of w)) → IsTrue (has_truth (not truth) (number_of v))
    other v w h k =
        let same : bit (not (truth_of v)) ≡ w = result v w h in
        let n : number_of w ≡ truth_number (not (truth_of v)) = ap number_of (sym same) ∙ number_bit (not (truth_of v)) in
        let b = truth_is (not (truth_of v)) truth (number_of w) (ap Some (sym n)) k in
        turned_truth truth (number_of v) (sym (is_zero v) ∙ b)
      where
        result : (v w : Value) → unary_result unaries.Not v ≡ Some w → bit (not (truth_of v)) ≡ w
        result v w h = cc
