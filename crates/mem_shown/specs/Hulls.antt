-- What holds two shown values: the least ends and the least class of their numbers, and all marks, ends and pointers of both.
use Rattle.std.specs.Prelude.{◌≡◌, ◌||◌, ◌++◌, ℕ, ℤ, Bool, true, false, List, [], ◌∷◌, Option, Some, None, nat_eq, if◌then◌else◌}
use Rattle.std.specs.Int.{int_min, int_max}
use Rattle.std.specs.List.{list_any}
use Rattle.c_syntax.specs.declared.alarm.Pointers.{Pointers}
use Rattle.c_syntax.specs.declared.alarm.Shown.{Shown}
use Rattle.c_syntax.specs.declared.alarm.Shown.TheVariants as shows
use Rattle.c_syntax.specs.declared.alarm.Spot.{Spot}
use Rattle.c_syntax.specs.Types.{ObjectTree}
use Rattle.c_syntax.specs.Operand.{Operand}
use Rattle.c_syntax.specs.Admission.{IsInClass, IsInShown, IsProper, IsProperRange, IsProperSet, IsSpotIn}
use Rattle.num_api.specs.declared.message.Residue.{Residue}
use Rattle.num_api.specs.Residues.{class_of}
use Rattle.residues.specs.Classes.{IsJoin, LiesIn}
use Rattle.mem_shown.specs.Decisions.{NamesObjects}
use Rattle.mem_shown.specs.declared.bounds.Bounds.{Bounds}

-- ---- ranges and classes

-- an end is missing where it is on one side
abbrev pub lower_end : Option ℤ → Option ℤ → Option ℤ
lower_end None b = None
lower_end (Some x) None = None
lower_end (Some x) (Some y) = Some (int_min x y)

abbrev pub upper_end : Option ℤ → Option ℤ → Option ℤ
upper_end None b = None
upper_end (Some x) None = None
upper_end (Some x) (Some y) = Some (int_max x y)

abbrev pub bounds : Option ℤ → Option ℤ → ℤ → ℤ → Bounds
bounds lo hi modulus rem = record { lo = lo; hi = hi; modulus = modulus; rem = rem }

abbrev pub IsProperBounds : Bounds → Type 0
IsProperBounds b = IsProperRange b.lo b.hi b.modulus b.rem

-- the least ends; and a class that holds both and, where a least one has a modulus of at most 2^100, is no greater than that
pub record IsHullOf (a b w : Bounds) : Type 0 where
  pub lo : w.lo ≡ lower_end a.lo b.lo
  pub hi : w.hi ≡ upper_end a.hi b.hi
  pub first : (n : ℤ) → IsInClass a.modulus a.rem n → IsInClass w.modulus w.rem n
  pub second : (n : ℤ) → IsInClass b.modulus b.rem n → IsInClass w.modulus w.rem n
  pub least : (s : Residue) → IsJoin (class_of a.rem a.modulus) (class_of b.rem b.modulus) s → LiesIn (class_of w.rem w.modulus) s

-- ---- sets

abbrev pub bounds_of : Pointers → Bounds
bounds_of set = bounds set.lo set.hi set.modulus set.rem

-- the set has pointers into objects
abbrev pub has_objects : Pointers → Bool
has_objects set = set.any || has_some set.names where
  has_some : List ℕ → Bool
  has_some [] = false
  has_some (o ∷ names) = true

-- the names, and behind them another one, or others, where they are not among them
abbrev pub with_name : List ℕ → ℕ → List ℕ
with_name names o = if list_any (λ x. nat_eq x o) names then names else names ++ o ∷ []

abbrev pub with_names : List ℕ → List ℕ → List ℕ
with_names names [] = names
with_names names (o ∷ others) = with_names (with_name names o) others

-- the offsets of both; of a set that has none, nothing is taken
abbrev pub HasOffsets : Bool → Bool → Bounds → Bounds → Bounds → Type 0
HasOffsets true true a b w = IsHullOf a b w
HasOffsets true false a b w = w ≡ a
HasOffsets false has a b w = w ≡ b

pub record IsUnion (a b w : Pointers) : Type 0 where
  pub any : w.any ≡ (a.any || b.any)
  pub null : w.null ≡ (a.null || b.null)
  pub dead : w.dead ≡ (a.dead || b.dead)
  pub names : w.names ≡ with_names a.names b.names
  pub offsets : HasOffsets (has_objects a) (has_objects b) (bounds_of a) (bounds_of b) (bounds_of w)

-- ---- what is shown

abbrev pub AreOfOneForm : Shown → Shown → Type 0
AreOfOneForm (shows.Number lo hi modulus rem) (shows.Number low high step rest) = Unit {0}
AreOfOneForm (shows.One a) (shows.One b) = Unit {0}
AreOfOneForm (shows.Pair a b) (shows.Pair c d) = Unit {0}
AreOfOneForm (shows.Marks undef value broken) (shows.Marks u v b) = Unit {0}
AreOfOneForm (shows.Ends value none) (shows.Ends v n) = Unit {0}
AreOfOneForm a b = ⊥

-- marks of two loads, or ends of two calls
abbrev pub AreFlags : Shown → Shown → Type 0
AreFlags (shows.Marks undef value broken) (shows.Marks u v b) = Unit {0}
AreFlags (shows.Ends value none) (shows.Ends v n) = Unit {0}
AreFlags a b = ⊥

abbrev pub IsHull : Shown → Shown → Shown → Type 0
IsHull (shows.Number lo hi modulus rem) (shows.Number low high step rest) (shows.Number l h m r) =
    IsHullOf (bounds lo hi modulus rem) (bounds low high step rest) (bounds l h m r)
IsHull (shows.One a) (shows.One b) (shows.One w) = IsUnion a b w
IsHull (shows.Pair a b) (shows.Pair c d) (shows.Pair v w) = IsUnion a c v × IsUnion b d w
IsHull (shows.Marks undef value broken) (shows.Marks u v b) (shows.Marks x y z) = (x ≡ (undef || u)) × (y ≡ (value || v)) × (z ≡ (broken || b))
IsHull (shows.Ends value none) (shows.Ends v n) (shows.Ends x y) = (x ≡ (value || v)) × (y ≡ (none || n))
IsHull a b w = ⊥

-- each pointer of either set is one of the set
pub record HoldsSets (a b w : Pointers) : Type 0 where
  pub first : (objects : List ObjectTree) (s : Spot) → IsSpotIn objects a s → IsSpotIn objects w s
  pub second : (objects : List ObjectTree) (s : Spot) → IsSpotIn objects b s → IsSpotIn objects w s
  pub proper : IsProperSet w
  pub names : (count : ℕ) → NamesObjects count (shows.One a) → NamesObjects count (shows.One b) → NamesObjects count (shows.One w)

-- each operand of either is shown
pub record HoldsBoth (a b w : Shown) : Type 0 where
  pub first : (objects : List ObjectTree) (x : Operand) → IsInShown objects x a → IsInShown objects x w
  pub second : (objects : List ObjectTree) (x : Operand) → IsInShown objects x b → IsInShown objects x w
  pub proper : IsProper w
  pub names : (count : ℕ) → NamesObjects count a → NamesObjects count b → NamesObjects count w
