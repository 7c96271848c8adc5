-- Points-to sets: every base, or the numbers of some objects in rising order with two marks.
use Rattle.std.specs.Prelude.{◌≡◌, ◌≢◌, ℕ, ◌≤◌, Bool, true, List, [], ◌∷◌, length, nat_lt, nat_le, ◌==◌, ◌||◌, ◌&&◌, suc, ◌+◌, ◌-◌, false, not, filter, IsTrue, ◌⊎◌, if◌then◌else◌}
use Rattle.std.specs.List.{list_any, list_all}
use Rattle.std.specs.List.Sorted.{IsStrictlyIncreasing}
use Rattle.pointsets.specs.declared.Base.{Base}
use Rattle.pointsets.specs.declared.Base.TheVariants.{Null, Dead, Object}

-- what a pointer may point to: anything, or the objects of these numbers, and Null and Dead where marked
pub data BaseSet : Type 0 where
  Any : BaseSet
  Among : List ℕ → Bool → Bool → BaseSet

-- a number stands in a list
abbrev pub has_name : List ℕ → ℕ → Bool
has_name names n = list_any (λ name. name == n) names

-- the set has the base
abbrev pub has_base : BaseSet → Base → Bool
has_base Any b = true
has_base (Among names null dead) Null = null
has_base (Among names null dead) Dead = dead
has_base (Among names null dead) (Object n) = has_name names n

-- the numbers of the set's objects; of Any none are known
abbrev pub names_of : BaseSet → List ℕ
names_of Any = []
names_of (Among names null dead) = names

-- a rising list with one more number in its place
abbrev pub put : List ℕ → ℕ → List ℕ
put [] n = n ∷ []
put (x ∷ xs) n =
    (if nat_lt n x then n ∷ x ∷ xs else (if x == n then x ∷ xs else x ∷ put xs n))

-- a rising list with all numbers of another list
abbrev pub put_all : List ℕ → List ℕ → List ℕ
put_all xs [] = xs
put_all xs (n ∷ ns) = put_all (put xs n) ns

-- more than 16 objects are not told apart (this profile)
abbrev pub at_most_16 : List ℕ → Bool → Bool → BaseSet
at_most_16 names null dead = (if nat_le (length names) 16 then Among names null dead else Any)

-- the set with one more base
abbrev pub with_base : BaseSet → Base → BaseSet
with_base Any b = Any
with_base (Among names null dead) Null = Among names true dead
with_base (Among names null dead) Dead = Among names null true
with_base (Among names null dead) (Object n) = at_most_16 (put names n) null dead

-- the set with these objects, put in one after another
abbrev pub with_objects : BaseSet → List ℕ → BaseSet
with_objects s [] = s
with_objects s (n ∷ ns) = with_objects (with_base s (Object n)) ns

-- the bases of both sets
abbrev pub joined : BaseSet → BaseSet → BaseSet
joined Any t = Any
joined (Among names null dead) Any = Any
joined (Among names null dead) (Among more null' dead') =
    at_most_16 (put_all names more) (null || null') (dead || dead')

-- the set after these objects have ended: a pointer to one of them is dead
abbrev pub killed : BaseSet → List ℕ → BaseSet
killed Any gone = Any
killed (Among names null dead) gone =
    Among (filter (λ n. not (has_name gone n)) names) null (dead || list_any (has_name gone) names)

-- each base of the second set is one of the first, as far as the second is known
abbrev pub Covers : BaseSet → BaseSet → Type 0
Covers s t = (s ≡ Any) ⊎ ((t ≢ Any) × ((b : Base) → IsTrue (has_base t b) → IsTrue (has_base s b)))

-- the same, told by a test
abbrev pub covers_set : BaseSet → BaseSet → Bool
covers_set Any t = true
covers_set (Among names null dead) Any = false
covers_set (Among names null dead) (Among more null' dead') =
    (null || not null') && ((dead || not dead') && list_all (has_name names) more)

-- one where a mark can still be gained
abbrev pub room_of : Bool → ℕ
room_of true = 0
room_of false = 1

-- how often a set can still gain a base: one object more, a mark, or the step to Any
abbrev pub set_weight : BaseSet → ℕ
set_weight Any = 0
set_weight (Among names null dead) = suc ((16 - length names) + (room_of null + room_of dead))

-- what the fields of a set keep: room for 16 names in place, the names rising, and none in All
pub record IsKept (capacity : ℕ) (names : List ℕ) (all : Bool) : Type 0 where
  pub in_place : capacity ≡ 16
  pub few : length names ≤ 16
  pub rising : IsStrictlyIncreasing names
  pub none : all ≡ true → names ≡ []
