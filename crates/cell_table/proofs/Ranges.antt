-- What a range of the places holds, and what its numbers are.
use Rattle.std.proofs.Common.{◌≡◌, ◌≢◌, ℕ, ◌-◌, ◌<◌, ◌≤◌, ◌==◌, ◌&&◌, nat_lt, true, false, List, [], ◌∷◌, refl, sym, ap, arith, rules}
use Rattle.std.specs.Prelude.{if◌then◌else◌}
use Rattle.std.specs.declared.ops.Bound.TheVariants.{Included, Excluded}
use Rattle.std.specs.BTreeMap.Range.{range_contains, entries_between}
use Rattle.cell_table.specs.declared.places.Place.{Place}
use Rattle.cell_table.specs.Places.{place_cmp, numbers_in}
use Rattle.cell_table.proofs.Slots.{by_bool}
use Rattle.cell_table.proofs.Steps.{by_cmp}

-- the numbers of the places that reach beyond the start of a part that is not empty
abbrev pub wanted : ℕ → ℕ → List ((ℕ × ℕ) × Place) → List ℕ
wanted from to [] = []
wanted from to (e ∷ es) =
    (if nat_lt from to && nat_lt (from - e.0.1) e.1.size then e.1.number ∷ wanted from to es else wanted from to es)

is-lt : (a b : ℕ) → a < b → nat_lt a b ≡ true
is-lt a b h = search rules

no-lt : (a b : ℕ) → b ≤ a → nat_lt a b ≡ false
no-lt a b h = search rules

is-eq : (a b : ℕ) → a ≡ b → (a == b) ≡ true
is-eq a b h = search rules

no-eq : (a b : ℕ) → a ≢ b → (a == b) ≡ false
no-eq a b h = search rules

in-object : (object to : ℕ) (p : ℕ × ℕ) → range_contains place_cmp (Included (object, 0)) (Excluded (object, to)) p ≡ ((p.0 == object) && nat_lt p.1 to)
in-object object to p =
    by_cmp object p.0
    (λ l e. let differ : p.0 ≢ object = (λ s. omega (arith, s)) in rw (e, no-eq p.0 object differ) refl)
    (λ s e. rw (e, is-eq p.0 object (sym s))
    (by_cmp 0 p.1
    (λ l f. rw f (by_cmp to p.1 (λ k g. rw (g, no-lt p.1 to (omega arith)) refl) (λ k g. rw (g, no-lt p.1 to (omega (arith, k))) refl) (λ k g. rw (g, is-lt p.1 to k) refl)))
    (λ l f. rw f (by_cmp to p.1 (λ k g. rw (g, no-lt p.1 to (omega arith)) refl) (λ k g. rw (g, no-lt p.1 to (omega (arith, k))) refl) (λ k g. rw (g, is-lt p.1 to k) refl)))
    (λ l f. absurd (omega arith))))
    (λ l e. let differ : p.0 ≢ object = (λ s. omega (arith, s)) in rw (e, no-eq p.0 object differ) refl)

-- the range of an object up to an offset holds all that has a byte of a part up to there
pub wanted-between : (object from to : ℕ) (es : List ((ℕ × ℕ) × Place))
    → wanted from to (entries_between place_cmp (Included (object, 0)) (Excluded (object, to)) es) ≡ numbers_in object from to es
wanted-between object from to [] = refl
wanted-between object from to (e ∷ es) =
    rw (in-object object to e.0)
    (by_bool (e.0.0 == object)
    (λ q. rw q (by_bool (nat_lt e.0.1 to)
    (λ r. rw r (by_bool (nat_lt from to && nat_lt (from - e.0.1) e.1.size) (λ t. rw t (ap (λ (ns : List ℕ). e.1.number ∷ ns) (wanted-between object from to es))) (λ t. rw t (wanted-between object from to es))))
    (λ r. rw r (wanted-between object from to es))))
    (λ q. rw q (wanted-between object from to es)))
