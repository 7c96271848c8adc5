-- Reading and writing cells that stand row by row.
use Rattle.std.specs.Prelude.{ℕ, ◌≡◌, ◌<◌, ◌≤◌, ◌+◌, ◌*◌, List, Bool, true, false, if◌then◌else◌, length, slice_index_or, slice_set, nat_lt, ◌&&◌}
use Rattle.std.proofs.Common.{arith, sym, refl, ◌∙◌}
use Rattle.std.proofs.lemmas.List.{get_or-set_same, get_or-set_other}
use Rattle.std.proofs.lemmas.Bool.Decides.{nat_tests}
use Rattle.ext_int.specs.declared.Ext.{Ext}
use Rattle.ext_int.specs.declared.Ext.TheVariants.{Low, High}
use Rattle.bound_matrix.specs.Cells.{cell, SameBut}
use Rattle.bound_matrix.proofs.Places.{nat-less_or}

pub cell-in : (n : ℕ) (s : List Ext) (i j : ℕ) → i < n → j < n → cell n s i j ≡ slice_index_or s (i * 48 + j) Low
unfolding cell
cell-in n s i j h g = grind (arith, nat_tests)

pub cell-out : (n : ℕ) (s : List Ext) (i j : ℕ) → (i < n → j < n → ⊥) → cell n s i j ≡ High
unfolding cell
cell-out n s i j h = by (nat_lt i n) (nat_lt j n) refl refl
  where
    by : (a b : Bool) → nat_lt i n ≡ a → nat_lt j n ≡ b → (if nat_lt i n && nat_lt j n then slice_index_or s (i * 48 + j) Low else High) ≡ High
    by true true x y = absurd (h (grind (arith, nat_tests)) (grind (arith, nat_tests)))
    by true false x y = rw (x, y) refl
    by false b x y = rw x refl

pub write-here : (n : ℕ) (s : List Ext) (i j : ℕ) (e : Ext) → length s ≡ 2304 → n ≤ 48 → i < n → j < n → cell n (slice_set s (i * 48 + j) e) i j ≡ e
write-here n s i j e l few h g = cell-in n _ i j h g ∙ get_or-set_same s (i * 48 + j) e Low (omega arith)

write-other : (n : ℕ) (s : List Ext) (i j : ℕ) (e : Ext) → (p q : ℕ) → (p < n → q < n → p * 48 + q ≡ i * 48 + j → ⊥) → cell n (slice_set s (i * 48 + j) e) p q ≡ cell n s p q
write-other n s i j e p q d = nat-less_or p n
    (λ h. nat-less_or q n
    (λ g. cell-in n _ p q h g ∙ (get_or-set_other s (i * 48 + j) (p * 48 + q) e Low (d h g) ∙ sym (cell-in n s p q h g)))
    (λ l. cell-out n _ p q (λ _ g. absurd (omega arith)) ∙ sym (cell-out n s p q (λ _ g. absurd (omega arith)))))
    (λ l. cell-out n _ p q (λ g _. absurd (omega arith)) ∙ sym (cell-out n s p q (λ g _. absurd (omega arith))))

flat-row : (n i j p q : ℕ) → n ≤ 48 → j < n → q < n → p * 48 + q ≡ i * 48 + j → p ≡ i
flat-row n i j p q few h g e = omega arith

flat-column : (n i j p q : ℕ) → n ≤ 48 → j < n → q < n → p * 48 + q ≡ i * 48 + j → q ≡ j
flat-column n i j p q few h g e = omega arith

pub write-others : (n : ℕ) (s : List Ext) (i j : ℕ) (e : Ext) → n ≤ 48 → i < n → j < n → SameBut i j (cell n s) (cell n (slice_set s (i * 48 + j) e))
write-others n s i j e few h g = record {
  other_row = λ p q d. write-other n s i j e p q (λ a b f. d (flat-row n i j p q few g b f));
  other_place = λ p q d. write-other n s i j e p q (λ a b f. d (flat-column n i j p q few g b f));
}
