-- The set of nothing.
use Rattle.std.proofs.Common.{ℕ, ◌≡◌, ◌++◌, ◌∷◌, true, false, List, [], refl}
use Rattle.pointsets.specs.Targets.{BaseSet, Any, Among, covers_set, killed}
use Rattle.mem_cell_bytes.specs.Ends.{killed_all}

-- each set covers it
pub covers-nothing : (s : BaseSet) → covers_set s (Among [] false false) ≡ true
covers-nothing Any = refl
covers-nothing (Among names true true) = refl
covers-nothing (Among names true false) = refl
covers-nothing (Among names false true) = refl
covers-nothing (Among names false false) = refl

-- nothing of it can end
pub nothing-killed : (xs : List ℕ) → killed_all (Among [] false false) xs ≡ Among [] false false
nothing-killed [] = refl
nothing-killed (x ∷ xs) = nothing-killed xs

pub killed-push : (s : BaseSet) (xs : List ℕ) (y : ℕ) → killed_all s (xs ++ y ∷ []) ≡ killed (killed_all s xs) (y ∷ [])
killed-push s [] y = refl
killed-push s (x ∷ xs) y = killed-push (killed s (x ∷ [])) xs y
