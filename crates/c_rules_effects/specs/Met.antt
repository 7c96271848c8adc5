-- Whether two touches may be of one byte, as a test.
use Rattle.std.specs.Prelude.{◌==◌, ◌&&◌, ◌||◌, Bool, true, false, List, [], ◌∷◌, get_or}
use Rattle.c_rules_effects.specs.declared.touch.Part.{Part}
use Rattle.c_rules_effects.specs.declared.touch.Part.TheVariants.{Member, Index}
use Rattle.c_rules_effects.specs.declared.touch.Touch.{Touch}
use Rattle.c_rules_effects.specs.declared.touch.Touch.TheVariants.{Mem, Object}

abbrev pub is_same_part : Part → Part → Bool
is_same_part (Member k) (Member m) = k == m
is_same_part Index Index = true
is_same_part part other = false

-- one path goes on from the other
abbrev pub begins : List Part → List Part → Bool
begins [] longer = true
begins (part ∷ path) [] = false
begins (part ∷ path) (other ∷ longer) = is_same_part part other && begins path longer

-- as `Meet` of c_rules_effects
abbrev pub met : List Bool → Touch → Touch → Bool
met taken Mem Mem = true
met taken Mem (Object n path) = get_or taken n false
met taken (Object n path) Mem = get_or taken n false
met taken (Object m path) (Object n other) = (m == n) && (begins path other || begins other path)
