-- Bounds of another pack, looked up by variable.
use Rattle.std.proofs.Common.{ℕ, ℤ, zero, suc, List, Option, length, ◌≡◌, ◌<◌, ◌/◌, ◌%◌, refl, ap, sym, ◌∙◌, arith}
use Rattle.ext_int.specs.Valuation.{value_at}
use Rattle.ext_int.specs.declared.Ext.{Ext}
use Rattle.octagons_sources.specs.Seen.{place_at, index_at, seen, seen_index, AllSeen}
use Rattle.bound_matrix.proofs.Places.{entry-out}
use Rattle.octagons_bounds.specs.Flags.{no_bounds}
use Rattle.octagons_bounds.proofs.Raising.{no-bounds}
use Rattle.octagons_changes.specs.States.{Admits, no_relations}
use Rattle.octagons_bounds.specs.Passes.{row_covers, all_cover}
use Rattle.octagons_pack.specs.Packs.{picked, at, places_in}
use Rattle.octagons_pack.proofs.Picking.{picked-at}
use Rattle.octagons_pack.proofs.Places.{places-at, found-place}

-- the numbers of a pack are those of the other one, by variable
pub picked-seen : (own other : List ℕ) (places : List (Option ℕ)) (vars : ℕ) (v : List ℤ) → length own ≡ vars → ((k : ℕ) → place_at places k ≡ place_at (places_in own other) k) → AllSeen places vars (picked v other) (picked v own)
picked-seen own other places vars v size same k l h e =
    let lt : k < length own = omega arith in
    let f = found-place (at own k) other l (sym (places-at own other k lt) ∙ (sym (same k) ∙ e)) in
    picked-at v own k lt ∙ (ap (value_at v) (sym f.1) ∙ sym (picked-at v other l f.0))

index-same : (places ps : List (Option ℕ)) → ((k : ℕ) → place_at places k ≡ place_at ps k) → (p : ℕ) → seen_index places p ≡ seen_index ps p
index-same places ps same p = ap (λ (o : Option ℕ). index_at o (p % 2)) (same (p / 2))

seen-places : (places ps : List (Option ℕ)) (m : ℕ → ℕ → Ext) → ((k : ℕ) → place_at places k ≡ place_at ps k) → (p q : ℕ) → seen places m p q ≡ seen ps m p q
seen-places places ps m same p q = rw (index-same places ps same p, index-same places ps same q) refl

row-same : (n : ℕ) (f g h : ℕ → Ext) → ((q : ℕ) → g q ≡ h q) → row_covers n f g ≡ row_covers n f h
row-same zero f g h same = refl
row-same (suc n) f g h same = rw (row-same n f g h same, same n) refl

all-same : (r n : ℕ) (f g h : ℕ → ℕ → Ext) → ((p q : ℕ) → g p q ≡ h p q) → all_cover r n f g ≡ all_cover r n f h
all-same zero n f g h same = refl
all-same (suc r) n f g h same = rw (all-same r n f g h same, row-same n (f r) (g r) (h r) (same r)) refl

-- whether bounds cover others does not depend on how the places are written
pub cover-places : (n : ℕ) (f m : ℕ → ℕ → Ext) (places ps : List (Option ℕ)) → ((k : ℕ) → place_at places k ≡ place_at ps k) → all_cover n n f (seen places m) ≡ all_cover n n f (seen ps m)
cover-places n f m places ps same = all-same n n f (seen places m) (seen ps m) (seen-places places ps m same)

-- where nothing is known, every valuation is admitted
pub none-admits : (v : List ℤ) → Admits no_relations v
none-admits v = no-bounds (picked v no_relations.pack) no_bounds (λ i j. entry-out 0 no_bounds.kept i j (λ a b. absurd (omega arith)))
