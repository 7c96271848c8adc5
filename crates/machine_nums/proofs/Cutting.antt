-- What a test says of its sides, and the ranges behind it.
use Rattle.std.proofs.Common.{ℕ, ℤ, pos, List, ◌≡◌, ⊎_elim, Option, Some, None, Bool, refl, sym, subst, ◌∙◌}
use Rattle.std.specs.Prelude.{IsTrue, IsSomeAnd, IfSome, not, nat_eq}
use Rattle.std.specs.Int.RustNames.{int_le, int_lt}
use Rattle.std.specs.Ordering.{int_eq}
use Rattle.std.proofs.lemmas.Option.{none-some}
use Rattle.std.proofs.lemmas.Bool.{eq-eqb, ne_eqb, cond-true, cond-false, cases_eq}
use Rattle.ext_int.specs.Valuation.{value_at}
use Rattle.c_syntax_written.specs.declared.int_type.IntType.{IntType}
use Rattle.c_syntax_written.specs.Integer.{wrapped}
use Rattle.num_api.specs.declared.message.Range.{Range}
use Rattle.num_api.specs.declared.expr.NOp.{NOp}
use Rattle.num_api.specs.declared.expr.NOp.TheVariants.{Not, Eq, Ne, Lt, Le}
use Rattle.num_api.specs.Exprs.{NExprTree}
use Rattle.num_api.specs.Ranges.{InRange, NoWider, IsUnder, with_range, common}
use Rattle.num_api.proofs.Narrowing.{in_common}
use Rattle.num_api.specs.Spans.{Span, range_of}
use Rattle.num_api.specs.Value.{value_of, unary_value, binary_value, truth, has_truth}
use Rattle.num_api.specs.Plain.{Standing, standing, turned, cut}
use Rattle.num_api.proofs.Parts.{of_one-some, of_two-some, wider, as_wide}
use Rattle.num_api.proofs.Truths.{op_stands, truth_is, turned_truth}
use Rattle.num_api.specs.Standings.{Stands}
use Rattle.machine_nums.specs.MExprs.{MExprTree, Unary, Binary}
use Rattle.machine_nums.specs.Machine.{exact_value, machine_value}
use Rattle.machine_nums.specs.Cuts.{HoldsCut, IsCutBy}
use Rattle.machine_nums.specs.Rule.{cut_side, cut_sides, tested}
use Rattle.machine_nums.specs.declared.cuts.Cut.{Cut}
use Rattle.machine_nums.proofs.Values.{wrapped-has}
use Rattle.machine_nums.proofs.ExprTypes.{truth_has}
use Rattle.machine_nums.proofs.Results.{wrapped_some}

-- ---- truths

wrapped_truth : (t : IntType) (b : Bool) (m n : ℤ) → m ≡ truth b → wrapped t m ≡ n → m ≡ n
wrapped_truth t b m n e f = sym (wrapped-has t m (truth_has t b m e)) ∙ f

compared_truth : (op : NOp) (wanted : Bool) (how : Standing) (x y m : ℤ) → standing op wanted ≡ Some how → binary_value op x y ≡ Some m → (b : Bool)
    × (m ≡ truth b)
compared_truth Eq wanted how x y m e f = let same : truth (int_eq x y) ≡ m = cc in (int_eq x y, sym same)
compared_truth Ne wanted how x y m e f = let same : truth (not (int_eq x y)) ≡ m = cc in (not (int_eq x y), sym same)
compared_truth Lt wanted how x y m e f = let same : truth (int_lt x y) ≡ m = cc in (int_lt x y, sym same)
compared_truth Le wanted how x y m e f = let same : truth (int_le x y) ≡ m = cc in (int_le x y, sym same)
compared_truth op wanted how x y m e f = absurd (none-some how e)

-- the sides of a comparison of this truth stand so to each other
pub sides_stand : (op : NOp) (t : IntType) (a b : MExprTree) (wanted : Bool) (how : Standing) (v : List ℤ) (n : ℤ) → standing op wanted ≡ Some how
    → machine_value v (Binary op t a b) ≡ Some n → IsTrue (has_truth wanted n)
    → (x : ℤ) × (y : ℤ) × (machine_value v a ≡ Some x) × (machine_value v b ≡ Some y) × Stands how x y
sides_stand op t a b wanted how v n e f h =
    let out = wrapped_some t (exact_value v (Binary op t a b)) n f in
    let step = of_two-some (binary_value op) (machine_value v a) (machine_value v b) out.0 out.1 in
    let is = compared_truth op wanted how step.0 step.1 out.0 e step.4 in
    let same = wrapped_truth t is.0 out.0 n is.1 out.2 in
    (step.0, step.1, step.2, step.3, op_stands op wanted how step.0 step.1 out.0 e step.4 (subst (λ (k : ℤ). IsTrue (has_truth wanted k)) (sym same) h))

-- and the part of a negation has the other truth
pub negated : (t : IntType) (a : MExprTree) (wanted : Bool) (v : List ℤ) (n : ℤ) → machine_value v (Unary Not t a) ≡ Some n → IsTrue (has_truth wanted n)
    → (m : ℤ) × (machine_value v a ≡ Some m) × IsTrue (has_truth (not wanted) m)
negated t a wanted v n f h =
    let out = wrapped_some t (exact_value v (Unary Not t a)) n f in
    let step = of_one-some (unary_value Not) (machine_value v a) out.0 out.1 in
    let is : truth (int_eq step.0 (pos 0)) ≡ out.0 = some_same (truth (int_eq step.0 (pos 0))) out.0 step.2 in
    let same = wrapped_truth t (int_eq step.0 (pos 0)) out.0 n (sym is) out.2 in (
      step.0,
      step.1,
      turned_truth wanted step.0
          (truth_is (int_eq step.0 (pos 0)) wanted out.0 step.2 (subst (λ (k : ℤ). IsTrue (has_truth wanted k)) (sym same) h)),
    )
  where
    some_same : (x y : ℤ) → Some x ≡ Some y → x ≡ y
    some_same x y e = cc

-- ---- cuts

pub cut_holds : (o : Option Cut) (e : NExprTree) (r : Range) (v : List ℤ) (n : ℤ)
    → IfSome o (λ c. (v : List ℤ) (n : ℤ) → value_of v e ≡ Some n → InRange r n → InRange c.range (value_at v c.x.0))
    → value_of v e ≡ Some n → InRange r n → HoldsCut v o
cut_holds None e r v n h f i = tt
cut_holds (Some c) e r v n h f i = h v n f i

pub read_cut : (known : ℕ → Range) (o : Option Cut) (x : ℕ) (r : Range) → IsSomeAnd o (λ c. (c.x.0 ≡ x) × (c.range ≡ r)) → IsCutBy known o → NoWider (known x) r
read_cut known None x r h k = absurd h
read_cut known (Some c) x r h k = subst (λ (y : ℕ). NoWider (known y) r) h.0 (subst (λ (s : Range). NoWider (known c.x.0) s) h.1 k)

-- another range at one variable
pub with_under : (known given : ℕ → Range) (x : ℕ) (r : Range) → ((y : ℕ) → (y ≡ x → ⊥) → NoWider (known y) (given y)) → NoWider (known x) r
    → IsUnder known (with_range given x r)
with_under known given x r u w = λ y. ⊎_elim
    (λ (q : y ≡ x). subst (NoWider (known y)) (sym (cond-true (nat_eq y x) r (given y) (eq-eqb y x q))) (subst (λ (z : ℕ). NoWider (known z) r) (sym q) w))
    (λ (q : y ≡ x → ⊥). subst (NoWider (known y)) (sym (cond-false (nat_eq y x) r (given y) (ne_eqb y x q))) (u y q))
    (cases_eq y x)

-- what lies under such ranges lies under the given ones elsewhere
pub under_elsewhere : (known given : ℕ → Range) (x : ℕ) (r : Range) (y : ℕ) → IsUnder known (with_range given x r) → (y ≡ x → ⊥) → NoWider (known y) (given y)
under_elsewhere known given x r y u q = subst (NoWider (known y)) (cond-false (nat_eq y x) r (given y) (ne_eqb y x q)) (u y)

pub under_here : (known given : ℕ → Range) (x : ℕ) (r : Range) → IsUnder known (with_range given x r) → NoWider (known x) r
under_here known given x r u = subst (NoWider (known x)) (cond-true (nat_eq x x) r (given x) (eq-eqb x x refl)) (u x)

side_under : (known given : ℕ → Range) (o : Option ℕ) (how : Standing) (s t : Span) → IsUnder known given
    → ((x : ℕ) → o ≡ Some x → NoWider (known x) (range_of (cut how s t))) → IsUnder known (cut_side given o how s t)
side_under known given None how s t u h = u
side_under known given (Some x) how s t u h = with_under known given x (common (given x) (range_of (cut how s t))) (λ y q. u y)
    (in_common (known x) (given x) (range_of (cut how s t)) (u x) (h x refl))

pub sides_under : (known given : ℕ → Range) (a b : Option ℕ) (how : Standing) (s t : Span) → IsUnder known given
    → ((x : ℕ) → a ≡ Some x → NoWider (known x) (range_of (cut how s t))) → ((x : ℕ) → b ≡ Some x → NoWider (known x) (range_of (cut (turned how) t s)))
    → IsUnder known (cut_sides given a b (Some how) s t)
sides_under known given a b how s t u left right = side_under known (cut_side given a how s t) b (turned how) t s
    (side_under known given a how s t u left) right

-- another operator of one operand cuts nothing
pub tested_other : (given : ℕ → Range) (op : NOp) (t : IntType) (a : MExprTree) (wanted : Bool) → (op ≡ Not → ⊥) → tested given (Unary op t a) wanted ≡ given
tested_other given Not t a wanted h = absurd (h refl)
tested_other given op t a wanted h = refl

-- a cut holds of what is known under it
pub cut_under : (known left : ℕ → Range) (o : Option Cut) → IsUnder known left → IsCutBy left o → IsCutBy known o
cut_under known left None u h = tt
cut_under known left (Some c) u h = wider (known c.x.0) (left c.x.0) c.range (u c.x.0) h

pub under_itself : (known : ℕ → Range) → IsUnder known known
under_itself known = λ x. as_wide (known x)
