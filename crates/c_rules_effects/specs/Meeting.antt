-- When two touches may be of one byte (this profile).
use Rattle.std.specs.Prelude.{◌≡◌, ◌⊎◌, ℕ, Bool, true, false, List, ◌++◌, get_or}
use Rattle.c_rules_effects.specs.declared.touch.Part.{Part}
use Rattle.c_rules_effects.specs.declared.touch.Touch.{Touch}
use Rattle.c_rules_effects.specs.declared.touch.Touch.TheVariants.{Mem, Object}

-- one path goes on from the other
abbrev pub Begins : List Part → List Part → Type 0
Begins path longer = (rest : List Part) × (longer ≡ path ++ rest)

-- the address of the object of this number is taken
abbrev pub IsTaken : List Bool → ℕ → Type 0
IsTaken taken n = get_or taken n false ≡ true

-- both through pointers; one object, of which one part is in the other; or through a pointer and an object whose address is taken
abbrev pub Meet : List Bool → Touch → Touch → Type 0
Meet taken Mem Mem = Unit {0}
Meet taken Mem (Object n path) = IsTaken taken n
Meet taken (Object n path) Mem = IsTaken taken n
Meet taken (Object m path) (Object n other) = (m ≡ n) × (Begins path other ⊎ Begins other path)
