-- The numbers of a pack.
use Rattle.std.proofs.Common.{ℕ, ℤ, zero, suc, pos, neg_ℤ, List, [], ◌∷◌, Option, None, Some, length, ◌≡◌, ◌<◌, ◌≤◌, ◌+◌, ◌+ℤ◌, refl, ap, sym, subst, ◌∙◌, arith}
use Rattle.std.proofs.lemmas.Int.{ints}
use Rattle.ext_int.specs.Ext.{Below, Above}
use Rattle.ext_int.specs.Valuation.{value_at}
use Rattle.num_api.specs.Valuation.{SetTo}
use Rattle.octagons_sources.specs.Sources.{IsDrawn, any_source, same_source}
use Rattle.octagons_pack.specs.Packs.{picked, at}

pub picked-at : (v : List ℤ) (xs : List ℕ) (k : ℕ) → k < length xs → value_at (picked v xs) k ≡ value_at v (at xs k)
picked-at v [] k h = absurd (omega arith)
picked-at v (x ∷ xs) zero h = refl
picked-at v (x ∷ xs) (suc k) h = picked-at v xs k (omega arith)

-- a variable outside the pack changes no number of it
pub picked-outside : (v w : List ℤ) (xs : List ℕ) (x : ℕ) (n : ℤ) → SetTo x n v w → ((k : ℕ) → k < length xs → at xs k ≡ x → ⊥) → picked w xs ≡ picked v xs
picked-outside v w [] x n s f = refl
picked-outside v w (y ∷ xs) x n s f =
    let head : value_at w y ≡ value_at v y = s.others y (λ e. f 0 (omega arith) e) in
    let rest : picked w xs ≡ picked v xs = picked-outside v w xs x n s (λ k h e. f (suc k) (omega arith) e) in
    rw (head, rest) refl

pub drawn-any : (v : List ℤ) (n : ℤ) → IsDrawn any_source v n
drawn-any v n = record { low = tt; high = tt }

none : (x y : ℤ) → x ≡ y → pos 0 ≡ (x +ℤ neg_ℤ y)
none x y e = omega (arith, ints)

pub drawn-same : (v : List ℤ) (k : ℕ) (n : ℤ) → n ≡ value_at v k → IsDrawn (same_source k) v n
drawn-same v k n e = let z = none n (value_at v k) e in record { low = omega (arith, ints); high = omega (arith, ints) }
