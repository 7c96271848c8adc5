-- The cells in use in the order of their objects and offsets.
use Rattle.std.specs.Prelude.{ℕ, ◌-◌, ◌&&◌, ◌==◌, List, [], ◌∷◌, Bool, nat_lt, if◌then◌else◌}
use Rattle.std.specs.Ordering.{nat_cmp, ordering_then}
use Rattle.std.specs.declared.cmp.Ordering.{Ordering}
use Rattle.cell_table.specs.declared.places.Place.{Place}

-- places by object, and by offset in one object
abbrev pub place_cmp : ℕ × ℕ → ℕ × ℕ → Ordering
place_cmp p q = ordering_then (nat_cmp p.0 q.0) (nat_cmp p.1 q.1)

-- the cell at a place has a byte of the object from one offset up to before another
abbrev pub has_byte_in : ℕ → ℕ → ℕ → (ℕ × ℕ) × Place → Bool
has_byte_in object from to e =
    (e.0.0 == object) && (nat_lt e.0.1 to && (nat_lt from to && nat_lt (from - e.0.1) e.1.size))

-- the numbers of such cells
abbrev pub numbers_in : ℕ → ℕ → ℕ → List ((ℕ × ℕ) × Place) → List ℕ
numbers_in object from to [] = []
numbers_in object from to (e ∷ es) =
    (if has_byte_in object from to e then e.1.number ∷ numbers_in object from to es else numbers_in object from to es)
