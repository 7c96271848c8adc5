-- What a set of touches has.
use Rattle.std.specs.Prelude.{◌≡◌, ◌↔◌, ◌⊎◌, ◌==◌, ℕ, Bool, true, false, unwrap_or, List, [], Contains}
use Rattle.std.specs.Ordering.{nat_cmp}
use Rattle.std.specs.List.{filter, list_any}
use Rattle.std.specs.BTreeMap.{get}
use Rattle.c_rules_effects.specs.declared.touch.Touch.{Touch}
use Rattle.c_rules_effects.specs.declared.touch.Touch.TheVariants.{Mem, Object}
use Rattle.c_rules_effects.specs.declared.touch_set.TouchSet.{TouchSet}
use Rattle.c_rules_effects.specs.Met.{met}

abbrev pub is_mem : Touch → Bool
is_mem Mem = true
is_mem (Object n path) = false

-- the touch is one of this object
abbrev pub is_of : ℕ → Touch → Bool
is_of n Mem = false
is_of n (Object m path) = m == n

-- the touches of one object that a set keeps
abbrev pub group_of : TouchSet → ℕ → List Touch
group_of set n = unwrap_or (get nat_cmp set.groups n) []

-- the marks and groups are those of these touches
pub record Keeps (set : TouchSet) (taken : List Bool) (kept : List Touch) : Type 0 where
  pub has_mem : set.has_mem ≡ list_any is_mem kept
  pub meets_mem : set.meets_mem ≡ list_any (met taken Mem) kept
  pub groups : (n : ℕ) → group_of set n ≡ filter (is_of n) kept

abbrev pub HasSame : List Touch → List Touch → Type 0
HasSame kept touches = (t : Touch) → Contains kept t ↔ Contains touches t

-- the set has these touches and no others, where this tells of each object whether its address is taken
pub record Holds (set : TouchSet) (taken : List Bool) (touches : List Touch) : Type 0 where
  pub kept : List Touch
  pub keeps : Keeps set taken kept
  pub same : HasSame kept touches

-- the second list has one touch more than the first, or the same ones where that is in the first
abbrev pub Adds : List Touch → Touch → List Touch → Type 0
Adds before touch after = (t : Touch) → Contains after t ↔ (Contains before t ⊎ (touch ≡ t))
