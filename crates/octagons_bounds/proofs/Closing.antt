-- What closing leaves, and when it is known to leave tightly closed bounds.
use Rattle.std.proofs.Common.{ℕ, ℤ, List, [], ◌∷◌, length, ap, ◌≡◌, ◌<◌, ◌≤◌, ◌+◌, ◌*◌, refl, sym, subst, ◌∙◌, arith, true, false, Bool}
use Rattle.std.specs.Prelude.{IsTrue}
use Rattle.ext_int.specs.declared.Ext.{Ext}
use Rattle.ext_int.specs.declared.Ext.TheVariants.{Low, Fin, High}
use Rattle.ext_int.specs.declared.Live.{Live as LiveOrDead}
use Rattle.ext_int.specs.declared.Live.TheVariants.{Live, Dead}
use Rattle.bound_matrix.specs.Bound.{MatrixView, bound_at, IsKept}
use Rattle.bound_matrix.specs.Points.{IsSmall, IsSmallNumber}
use Rattle.bound_matrix.proofs.Places.{inside-or, entry-out}
use Rattle.num_api.specs.Lives.{is_live}
use Rattle.octagons_bounds.specs.Flags.{IsSmallBound, no_bounds}

pub alive : (r : LiveOrDead) → (r ≡ Dead → ⊥) → IsTrue (is_live r)
alive Live f = refl
alive Dead f = absurd (f refl)

small-number : (e : Ext) (x : ℤ) → IsSmallBound e → e ≡ Fin x → IsSmallNumber x
small-number Low x s h = cc
small-number (Fin y) x s h = let f : y ≡ x = cc in subst IsSmallNumber f s
small-number High x s h = cc

-- all bounds are small where those of the indices are
pub small-all : (m : MatrixView) → ((p q : ℕ) → p < 2 * m.vars → q < 2 * m.vars → IsSmallBound (bound_at m p q)) → IsSmall (bound_at m)
small-all m f = record {
  small = λ i j x e. inside-or m.vars i j
      (λ a b. small-number (bound_at m i j) x (f i j (omega arith) (omega arith)) e)
      (λ o. let h : High ≡ Fin x = sym (entry-out m.vars m.kept i j o) ∙ e in cc);
}

no-items : (xs : List Ext) → length xs ≡ 0 → xs ≡ []
no-items [] e = refl
no-items (x ∷ xs) e = absurd (omega arith)

-- a matrix of no variable keeps nothing
pub no-vars : (m : MatrixView) → m.vars ≡ 0 → IsKept m.vars m.kept → m ≡ no_bounds
no-vars m e k =
    let s = k.size in
    let z : length m.kept ≡ 0 = s ∙ ap (λ (n : ℕ). 2 * n * (n + 1)) e in
    let f : m.kept ≡ [] = no-items m.kept z in
    ap (λ (n : ℕ). let r : MatrixView = record { vars = n; kept = m.kept } in r) e ∙ ap (λ (l : List Ext). let r : MatrixView = record { vars = 0; kept = l } in r) f
