-- Bounds that are seen in another matrix.
use Rattle.std.proofs.Common.{ℕ, ℤ, pos, neg_ℤ, Option, None, Some, ◌≡◌, ◌<◌, ◌≤◌, ◌+◌, ◌-◌, ◌*◌, ◌/◌, ◌%◌, ◌+ℤ◌, ◌≤ℤ◌, refl, ap, sym, subst, ◌∙◌, arith, true, false, Bool, List}
use Rattle.std.specs.Prelude.{nat_eq}
use Rattle.std.proofs.lemmas.Int.{ints}
use Rattle.std.proofs.lemmas.Bool.Decides.{nat_tests}
use Rattle.ext_int.specs.Ext.{Above}
use Rattle.ext_int.specs.Valuation.{value_at}
use Rattle.ext_int.specs.declared.Ext.{Ext}
use Rattle.ext_int.specs.declared.Ext.TheVariants.{Low, Fin, High}
use Rattle.bound_matrix.specs.Bound.{MatrixView, bound_at, bar}
use Rattle.bound_matrix.specs.Points.{signed, IsPoint}
use Rattle.bound_matrix.proofs.Places.{nat-either, bar-twice, bound-mirror}
use Rattle.octagons_sources.specs.Seen.{place_at, index_at, seen_index, bound_of, seen, AllSeen}
use Rattle.octagons_sources.proofs.Reading.{other_index, index-bar, bar-half, bar-rest}
use Rattle.octagons_sources.proofs.Soundness.{signed-even, signed-odd}

index_at-bar : (o : Option ℕ) (a b : ℕ) → a < 2 → b ≡ 1 - a → index_at o b ≡ other_index (index_at o a)
index_at-bar None a b l e = refl
index_at-bar (Some k) a b l e = ap Some (index-bar k a b l e)

seen_index-bar : (places : List (Option ℕ)) (p : ℕ) → seen_index places (bar p) ≡ other_index (seen_index places p)
seen_index-bar places p = ap (λ (k : ℕ). index_at (place_at places k) (bar p % 2)) (bar-half p) ∙ index_at-bar (place_at places (p / 2)) (p % 2) (bar p % 2) (omega arith) (bar-rest p)

bound_of-mirror : (m : MatrixView) (a b : Option ℕ) → bound_of (bound_at m) a b ≡ bound_of (bound_at m) (other_index b) (other_index a)
bound_of-mirror m None None = refl
bound_of-mirror m None (Some j) = refl
bound_of-mirror m (Some i) None = refl
bound_of-mirror m (Some i) (Some j) = bound-mirror m i j

pub seen-same : (places : List (Option ℕ)) (m : ℕ → ℕ → Ext) (p q : ℕ) → p ≡ q → seen places m p q ≡ Fin (pos 0)
seen-same places m p q e = let t : nat_eq p q ≡ true = grind (arith, nat_tests) in rw t refl

pub seen-other : (places : List (Option ℕ)) (m : ℕ → ℕ → Ext) (p q : ℕ) → (p ≡ q → ⊥) → seen places m p q ≡ bound_of m (seen_index places p) (seen_index places q)
seen-other places m p q d = let t : nat_eq p q ≡ false = grind (arith, nat_tests) in rw t refl

pub seen-mirror : (places : List (Option ℕ)) (m : MatrixView) (p q : ℕ) → seen places (bound_at m) p q ≡ seen places (bound_at m) (bar q) (bar p)
seen-mirror places m p q = nat-either p q
    (λ e. seen-same places (bound_at m) p q e ∙ sym (seen-same places (bound_at m) (bar q) (bar p) (ap bar (sym e))))
    (λ d. seen-other places (bound_at m) p q d ∙ (bound_of-mirror m (seen_index places p) (seen_index places q)
    ∙ (ap (λ (o : Option ℕ). bound_of (bound_at m) o (other_index (seen_index places p))) (sym (seen_index-bar places q))
    ∙ (ap (bound_of (bound_at m) (seen_index places (bar q))) (sym (seen_index-bar places p))
    ∙ sym (seen-other places (bound_at m) (bar q) (bar p) (λ e. d (sym (sym (bar-twice q) ∙ (ap bar e ∙ bar-twice p)))))))))

signed-seen : (places : List (Option ℕ)) (vars p i : ℕ) (v w : List ℤ) → AllSeen places vars v w → p < 2 * vars → seen_index places p ≡ Some i → signed w p ≡ signed v i
signed-seen places vars p i v w all l e = at (place_at places (p / 2)) refl e
  where
    at : (o : Option ℕ) → place_at places (p / 2) ≡ o → index_at o (p % 2) ≡ Some i → signed w p ≡ signed v i
    at None f g = cc
    at (Some k) f g =
        let h : i ≡ k + k + p % 2 = cc in
        let n : value_at w (p / 2) ≡ value_at v k = all (p / 2) k (omega arith) f in
        nat-either (p % 2) 0
        (λ z. signed-even w p (p / 2) (omega arith) ∙ (n ∙ sym (signed-even v i k (omega arith))))
        (λ z. signed-odd w p (p / 2) (omega arith) ∙ (ap neg_ℤ n ∙ sym (signed-odd v i k (omega arith))))

-- a valuation that agrees with a point meets what is seen there
pub seen-above : (places : List (Option ℕ)) (m : MatrixView) (vars p q : ℕ) (v w : List ℤ) → IsPoint v m → AllSeen places vars v w → p < 2 * vars → q < 2 * vars → Above (seen places (bound_at m) p q) (signed w q +ℤ neg_ℤ (signed w p))
seen-above places m vars p q v w h all k l = nat-either p q
    (λ e. subst (λ (o : Ext). Above o (signed w q +ℤ neg_ℤ (signed w p))) (sym (seen-same places (bound_at m) p q e))
    (subst (λ (o : ℕ). (signed w q +ℤ neg_ℤ (signed w o)) ≤ℤ pos 0) (sym e) (none (signed w q))))
    (λ d. subst (λ (o : Ext). Above o (signed w q +ℤ neg_ℤ (signed w p))) (sym (seen-other places (bound_at m) p q d))
    (at (seen_index places p) (seen_index places q) refl refl))
  where
    none : (x : ℤ) → (x +ℤ neg_ℤ x) ≤ℤ pos 0
    none x = omega (arith, ints)

    at : (a b : Option ℕ) → seen_index places p ≡ a → seen_index places q ≡ b → Above (bound_of (bound_at m) a b) (signed w q +ℤ neg_ℤ (signed w p))
    at None b e f = tt
    at (Some i) None e f = tt
    at (Some i) (Some j) e f =
        let x = signed-seen places vars p i v w all k e in let y = signed-seen places vars q j v w all l f in
        rw (x, y) (h.meets i j)
