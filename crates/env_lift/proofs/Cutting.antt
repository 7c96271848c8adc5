-- What a test says of its parts, and the ranges behind it.
use Rattle.std.proofs.Common.{arith, ℕ, ℤ, pos, List, ◌≡◌, ⊎_elim, Option, Some, None, Bool, true, false, refl, sym, subst, ◌∙◌, ◌≤ℤ◌, ◌<ℤ◌}
use Rattle.std.specs.Prelude.{IsTrue, IsSomeAnd, not, nat_eq}
use Rattle.std.specs.Int.RustNames.{int_le, int_lt}
use Rattle.std.specs.Ordering.{int_eq}
use Rattle.std.proofs.lemmas.Int.{ints}
use Rattle.std.proofs.lemmas.Option.{none-some}
use Rattle.std.proofs.lemmas.Bool.{eq-eqb, ne_eqb, cond-true, cond-false, cases_eq, false≢true, not-true, not-false, not_from_false}
use Rattle.std.proofs.lemmas.Bool.Decides.{Decides-int_eq}
use Rattle.num_api.specs.declared.message.Range.{Range}
use Rattle.num_api.specs.declared.expr.NOp.{NOp}
use Rattle.num_api.specs.declared.expr.NOp.TheVariants.{Not, Eq, Ne, Lt, Le}
use Rattle.num_api.specs.Exprs.{NExprTree, Const, Read, Unary, Binary}
use Rattle.num_api.specs.Ranges.{NoWider, IsUnder, common}
use Rattle.num_api.proofs.Narrowing.{in_common}
use Rattle.num_api.specs.Spans.{Span, FitsSpan, range_of}
use Rattle.num_api.specs.Value.{value_of, unary_value, binary_value, truth, has_truth}
use Rattle.num_api.specs.Plain.{Standing, less, at_most, greater, at_least, same, other, standing, turned, cut, cut_side, cut_sides, tested, plain, IsPlain}
use Rattle.num_api.proofs.Parts.{of_one-some, of_two-some}
use Rattle.num_api.specs.Standings.{Stands}
use Rattle.num_api.proofs.Truths.{op_stands, truth_is, turned_truth}
use Rattle.env_lift.specs.declared.entries.Entry.{Entry}
use Rattle.env_lift.specs.States.{AllAdmit}
use Rattle.env_lift.specs.Changes.{HasTruth, Compare, LiesIn}

-- ---- tests

pub sides_stand : (op : NOp) (a b : NExprTree) (wanted : Bool) (how : Standing) (v : List ℤ) → standing op wanted ≡ Some how → HasTruth (Binary op a b) wanted v → Compare a b how v
sides_stand op a b wanted how v e h =
    let step = of_two-some (binary_value op) (value_of v a) (value_of v b) h.0 h.1 in
    (step.0, step.1, step.2, step.3, op_stands op wanted how step.0 step.1 h.0 e step.4 h.2)

pub negated : (a : NExprTree) (wanted : Bool) (v : List ℤ) → HasTruth (Unary Not a) wanted v → HasTruth a (not wanted) v
negated a wanted v h =
    let step = of_one-some (unary_value Not) (value_of v a) h.0 h.1 in
    (step.0, step.1, turned_truth wanted step.0 (truth_is (int_eq step.0 (pos 0)) wanted h.0 step.2 h.2))

-- ---- the ranges behind a comparison

side_under : (known given : ℕ → Range) (e : NExprTree) (how : Standing) (s t : Span) → IsUnder known given → ((x : ℕ) → e ≡ Read x → NoWider (known x) (range_of (cut how s t))) → IsUnder known (cut_side given e how (Some s) (Some t))
side_under known given (Const n) how s t u h = u
side_under known given (Read x) how s t u h =
    let left = common (given x) (range_of (cut how s t)) in λ y. ⊎_elim
    (λ (q : y ≡ x).
    subst (NoWider (known y)) (sym (cond-true (nat_eq y x) left (given y) (eq-eqb y x q)))
    (subst (λ (z : ℕ). NoWider (known z) left) (sym q) (in_common (known x) (given x) (range_of (cut how s t)) (u x) (h x refl))))
    (λ (q : y ≡ x → ⊥). subst (NoWider (known y)) (sym (cond-false (nat_eq y x) left (given y) (ne_eqb y x q))) (u y))
    (cases_eq y x)
side_under known given (Unary op a) how s t u h = u
side_under known given (Binary op a b) how s t u h = u

pub sides_under : (known given : ℕ → Range) (a b : NExprTree) (how : Standing) (p q : Option Span) (s t : Span) → p ≡ Some s → q ≡ Some t → IsUnder known given → ((x : ℕ) → a ≡ Read x → NoWider (known x) (range_of (cut how s t))) → ((x : ℕ) → b ≡ Read x → NoWider (known x) (range_of (cut (turned how) t s))) → IsUnder known (cut_sides given a b (Some how) p q)
sides_under known given a b how p q s t e f u left right =
    let both : IsUnder known (cut_sides given a b (Some how) (Some s) (Some t)) = side_under known (cut_side given a how (Some s) (Some t)) b (turned how) t s (side_under known given a how s t u left) right in
    subst (λ (o : Option Span). IsUnder known (cut_sides given a b (Some how) o q)) (sym e)
    (subst (λ (o : Option Span). IsUnder known (cut_sides given a b (Some how) (Some s) o)) (sym f) both)

-- the plain rule leaves something of what it is defined for
some_left : (P : Span → Type 0) (o : Option Span) → IsSomeAnd o P → (s : Span) × (o ≡ Some s)
some_left P None h = absurd h
some_left P (Some s) h = (s, refl)

pub left_plain : (given : ℕ → Range) (e : NExprTree) → IsPlain given e → (s : Span) × (plain given e ≡ Some s)
left_plain given (Const n) h = some_left FitsSpan (plain given (Const n)) h
left_plain given (Read x) h = some_left FitsSpan (plain given (Read x)) h
left_plain given (Unary op a) h = some_left FitsSpan (plain given (Unary op a)) h.0
left_plain given (Binary op a b) h = some_left FitsSpan (plain given (Binary op a b)) h.0

-- another operator of one operand cuts nothing
pub tested_other : (given : ℕ → Range) (op : NOp) (a : NExprTree) (wanted : Bool) → (op ≡ Not → ⊥) → tested given (Unary op a) wanted ≡ given
tested_other given Not a wanted h = absurd (h refl)
tested_other given op a wanted h = refl

-- ---- operands

-- where the whole lies in a value, the operands lie in what is left of them
pub operands_lie : {V : Type 0} (A : V → ℤ → Type 0) (state : List (Entry V)) (op : NOp) (a b : NExprTree) (value p q : V)
    → ((v : List ℤ) (x y n : ℤ) → AllAdmit A state v → value_of v a ≡ Some x → value_of v b ≡ Some y → binary_value op x y ≡ Some n → A value n → A p x × A q y)
    → (v : List ℤ) → AllAdmit A state v → LiesIn A (Binary op a b) value v → LiesIn A a p v × LiesIn A b q v
operands_lie A state op a b value p q law v h l =
    let step = of_two-some (binary_value op) (value_of v a) (value_of v b) l.0 l.1 in
    let both = law v step.0 step.1 l.0 h step.2 step.3 step.4 l.2 in
    ((step.0, step.2, both.0), (step.1, step.3, both.1))
