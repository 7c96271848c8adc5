-- A bound that goes on to the next step leaves fewer steps beyond it.
use Rattle.std.proofs.Common.{ℕ, ℤ, ◌≡◌, ◌+◌, ◌<◌, ◌≤◌, ◌≤ℤ◌, ◌<ℤ◌, List, [], ◌∷◌, Option, None, Some, cond, true, false, refl, sym, ◌∙◌, arith}
use Rattle.std.specs.Int.RustNames.{int_le}
use Rattle.std.proofs.lemmas.Int.{ints, by_lt_z}
use Rattle.num_api.specs.Steps.{least, greatest, later, steps_above, steps_below}
use Rattle.num_api.proofs.StepLemmas.{least-hit, least-miss}

-- ---- upward

pub least-ge : (xs : List ℤ) (m s : ℤ) → least xs m ≡ Some s → m ≤ℤ s
least-ge [] m s e = cc
least-ge (x ∷ xs) m s e = by_lt_z x m
    (λ below. least-ge xs m s (sym (least-miss x m xs below) ∙ e))
    (λ over. let same : Some x ≡ Some s = sym (least-hit x m xs over) ∙ e in let one : x ≡ s = cc in rw (← one) over)

pub above-le : (xs : List ℤ) (n m : ℤ) → n ≤ℤ m → steps_above xs m ≤ steps_above xs n
above-le [] n m h = omega arith
above-le (x ∷ xs) n m h = grind (arith, ints, above-le xs n m h)

-- the step that follows m is above n, and then fewer steps are
pub above-falls : (xs : List ℤ) (n m s : ℤ) → least xs m ≡ Some s → n <ℤ m → steps_above xs s < steps_above xs n
above-falls [] n m s e h = cc
above-falls (x ∷ xs) n m s e h = by_lt_z x m
    (λ below. let rest : least xs m ≡ Some s = sym (least-miss x m xs below) ∙ e in
    let over = least-ge xs m s rest in let fewer = above-falls xs n m s rest h in grind (arith, ints))
    (λ over. let same : Some x ≡ Some s = sym (least-hit x m xs over) ∙ e in let one : x ≡ s = cc in
    let fewer = above-le xs n x (omega (arith, ints)) in grind (arith, ints))

-- ---- downward

later-some : (b : Option ℤ) (x s : ℤ) → later (Some x) b ≡ Some s → (x ≡ s → ⊥) → b ≡ Some s
later-some None x s e apart = absurd (apart cc)
later-some (Some y) x s e apart = e

later-none : (b : Option ℤ) (s : ℤ) → later None b ≡ Some s → b ≡ Some s
later-none None s e = e
later-none (Some y) s e = e

greatest-miss : (x n s : ℤ) (xs : List ℤ) → n <ℤ x → greatest (x ∷ xs) n ≡ Some s → greatest xs n ≡ Some s
greatest-miss x n s xs h e = let none : cond (int_le x n) (Some x) None ≡ None = grind (arith, ints) in
    later-none (greatest xs n) s (rw none at e)

greatest-other : (x n s : ℤ) (xs : List ℤ) → x ≤ℤ n → greatest (x ∷ xs) n ≡ Some s → (x ≡ s → ⊥) → greatest xs n ≡ Some s
greatest-other x n s xs h e apart = let some : cond (int_le x n) (Some x) None ≡ Some x = grind (arith, ints) in
    later-some (greatest xs n) x s (rw some at e) apart

by_equal : {P : Type 0} (x y : ℤ) → (x ≡ y → P) → ((x ≡ y → ⊥) → P) → P
by_equal {P} x y same apart = by_lt_z x y (λ below. apart (λ e. absurd (omega (arith, ints, below, e))))
    (λ over. by_lt_z y x (λ above. apart (λ e. absurd (omega (arith, ints, above, e)))) (λ under. same (omega (arith, ints, over, under))))

pub greatest-le : (xs : List ℤ) (m s : ℤ) → greatest xs m ≡ Some s → s ≤ℤ m
greatest-le [] m s e = cc
greatest-le (x ∷ xs) m s e = by_lt_z m x
    (λ over. greatest-le xs m s (greatest-miss x m s xs over e))
    (λ below. by_equal x s (λ same. rw (← same) below) (λ apart. greatest-le xs m s (greatest-other x m s xs below e apart)))

pub below-le : (xs : List ℤ) (n m : ℤ) → m ≤ℤ n → steps_below xs m ≤ steps_below xs n
below-le [] n m h = omega arith
below-le (x ∷ xs) n m h = grind (arith, ints, below-le xs n m h)

-- the step before m is below n, and then fewer steps are
pub below-falls : (xs : List ℤ) (n m s : ℤ) → greatest xs m ≡ Some s → m <ℤ n → steps_below xs s < steps_below xs n
below-falls [] n m s e h = cc
below-falls (x ∷ xs) n m s e h = by_lt_z m x
    (λ over. let rest = greatest-miss x m s xs over e in
    let low = greatest-le xs m s rest in let fewer = below-falls xs n m s rest h in grind (arith, ints))
    (λ below. by_equal x s
    (λ same. let fewer = below-le xs n x (omega (arith, ints)) in rw (← same) (grind (arith, ints)))
    (λ apart. let rest = greatest-other x m s xs below e apart in
    let low = greatest-le xs m s rest in let fewer = below-falls xs n m s rest h in grind (arith, ints)))
