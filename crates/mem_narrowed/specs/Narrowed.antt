-- What is in both of two shown values, and nothing that the first does not show (this profile).
use Rattle.std.specs.Prelude.{IsTrue, ◌≡◌, ◌||◌, ℕ, ℤ, pos, ◌≤ℤ◌, nat_eq, if◌then◌else◌, Bool, true, false, List, [], ◌∷◌, length, Option, Some, None}
use Rattle.std.specs.Int.{int_min, int_max}
use Rattle.std.specs.Ordering.{int_eq}
use Rattle.std.specs.List.{list_any}
use Rattle.c_syntax.specs.declared.alarm.Pointers.{Pointers}
use Rattle.c_syntax.specs.declared.alarm.Shown.{Shown}
use Rattle.c_syntax.specs.declared.alarm.Shown.TheVariants as shows
use Rattle.c_syntax.specs.declared.alarm.Spot.{Spot}
use Rattle.c_syntax.specs.Types.{ObjectTree}
use Rattle.c_syntax.specs.Operand.{CallEnd, LoadMark, Operand}
use Rattle.c_syntax.specs.Admission.{HasObject, IsBetween, IsEndIn, IsInClass, IsInShown, IsMarkIn, IsProper, IsProperRange, IsSpotIn}
use Rattle.num_api.specs.declared.message.Residue.{Residue}
use Rattle.num_api.specs.Residues.{class_of, IsMultiple, IsResidue}
use Rattle.residues.specs.Classes.{IsMeet, LiesIn}
use Rattle.mem_shown.specs.Decisions.{NamesBelow, NamesObjects}
use Rattle.mem_shown.specs.Hulls.{AreOfOneForm}
use Rattle.mem_narrowed.specs.declared.bounds.Bounds.{Bounds}

-- ---- ranges and classes

abbrev pub bounds : Option ℤ → Option ℤ → ℤ → ℤ → Bounds
bounds lo hi modulus rem = record { lo = lo; hi = hi; modulus = modulus; rem = rem }

abbrev pub bounds_of : Pointers → Bounds
bounds_of set = bounds set.lo set.hi set.modulus set.rem

abbrev pub shown_numbers : Bounds → Shown
shown_numbers b = shows.Number b.lo b.hi b.modulus b.rem

abbrev pub IsProperBounds : Bounds → Type 0
IsProperBounds b = IsProperRange b.lo b.hi b.modulus b.rem

-- the number lies between the ends and in the class
abbrev pub IsWithin : Bounds → ℤ → Type 0
IsWithin b n = IsBetween b.lo b.hi n × IsInClass b.modulus b.rem n

-- both ends are one number
abbrev pub is_number : Option ℤ → Option ℤ → Bool
is_number (Some x) (Some y) = int_eq x y
is_number lo hi = false

-- the inner ends: a missing end bounds nothing
abbrev pub inner_lower : Option ℤ → Option ℤ → Option ℤ
inner_lower None b = b
inner_lower (Some x) None = Some x
inner_lower (Some x) (Some y) = Some (int_max x y)

abbrev pub inner_upper : Option ℤ → Option ℤ → Option ℤ
inner_upper None b = b
inner_upper (Some x) None = Some x
inner_upper (Some x) (Some y) = Some (int_min x y)

-- the numbers of both classes are a class with a step of 1 to 2^100
pub record HasMeet (a b : Bounds) : Type 0 where
  pub class : Residue
  pub meet : IsMeet (class_of a.rem a.modulus) (class_of b.rem b.modulus) class
  pub step : pos 1 ≤ℤ class.modulus

-- the class has the numbers of both, and no others than the first, nor than the second where these are a class; what divides the modulus and the remainder of the first divides its own
pub record IsNarrowedClass (a b : Bounds) (r : Residue) : Type 0 where
  pub proper : IsResidue r
  pub step : pos 1 ≤ℤ r.modulus
  pub holds : (n : ℤ) → IsInClass a.modulus a.rem n → IsInClass b.modulus b.rem n → IsInClass r.modulus r.rem n
  pub inside : (n : ℤ) → IsInClass r.modulus r.rem n → IsInClass a.modulus a.rem n
  pub second : HasMeet a b → LiesIn r (class_of b.rem b.modulus)
  pub divided : (c : ℤ) → IsMultiple c a.modulus → IsMultiple c a.rem → IsMultiple c r.modulus × IsMultiple c r.rem

-- the ends are the inner ones, and the class is that of both where there is one
pub record IsCut (a b w : Bounds) : Type 0 where
  pub lower : w.lo ≡ inner_lower a.lo b.lo
  pub upper : w.hi ≡ inner_upper a.hi b.hi
  pub class : HasMeet a b → LiesIn (class_of w.rem w.modulus) (class_of b.rem b.modulus)

-- the range and class have the numbers of both, and no others than the first; and one number that is known stays
pub record IsNarrowedBounds (a b w : Bounds) : Type 0 where
  pub holds : (n : ℤ) → IsWithin a n → IsWithin b n → IsWithin w n
  pub inside : (n : ℤ) → IsWithin w n → IsWithin a n
  pub proper : IsProperBounds w
  pub divided : (c : ℤ) → IsMultiple c a.modulus → IsMultiple c a.rem → IsMultiple c w.modulus × IsMultiple c w.rem
  pub known : (k : ℤ) → a.lo ≡ Some k → a.hi ≡ Some k → (w.lo ≡ Some k) × (w.hi ≡ Some k)
  pub cut : is_number a.lo a.hi ≡ false → IsCut a b w

-- ---- sets

-- those of the names that are among the others
abbrev pub common : List ℕ → List ℕ → List ℕ
common [] others = []
common (o ∷ names) others = if list_any (λ x. nat_eq x o) others then o ∷ common names others else common names others

-- the names of both sets; one of any pointer has each name
abbrev pub names_of_both : Bool → Bool → List ℕ → List ℕ → List ℕ
names_of_both true false names others = others
names_of_both false true names others = names
names_of_both any other names others = common names others

-- the set has the pointers of both, and no others than the first; its objects and marks are among those of the second too
pub record IsNarrowedSet (a b w : Pointers) : Type 0 where
  pub holds : (objects : List ObjectTree) (s : Spot) → IsSpotIn objects a s → IsSpotIn objects b s → IsSpotIn objects w s
  pub inside : (objects : List ObjectTree) (s : Spot) → NamesBelow (length objects) b → IsSpotIn objects w s → IsSpotIn objects a s
  pub names : (count : ℕ) → NamesBelow count a → NamesBelow count b → NamesBelow count w
  pub null : IsTrue (w.any || w.null) → IsTrue (b.any || b.null)
  pub dead : IsTrue (w.any || w.dead) → IsTrue (b.any || b.dead)
  pub object : (objects : List ObjectTree) (o : ℕ) → NamesBelow (length objects) a → HasObject objects w o → HasObject objects b o
  pub offsets : IsNarrowedBounds (bounds_of a) (bounds_of b) (bounds_of w)

-- ---- what is shown

-- a divisor of the offsets of one pointer, by their modulus and remainder
abbrev pub IsDivided : ℤ → Shown → Type 0
IsDivided c (shows.One set) = IsMultiple c set.modulus × IsMultiple c set.rem
IsDivided c shown = ⊥

-- one pointer at an offset that is known
abbrev pub IsAtOffset : ℤ → Shown → Type 0
IsAtOffset k (shows.One set) = (set.lo ≡ Some k) × (set.hi ≡ Some k)
IsAtOffset k shown = ⊥

-- nothing is shown that the second could have ruled out: of numbers and sets as above, of marks and ends none that the second has not
abbrev pub IsCutBy : Shown → Shown → Shown → Type 0
IsCutBy (shows.Number lo hi m r) (shows.Number low high s t) (shows.Number l h x y) =
    IsNarrowedBounds (bounds lo hi m r) (bounds low high s t) (bounds l h x y)
IsCutBy (shows.One a) (shows.One b) (shows.One w) = IsNarrowedSet a b w
IsCutBy (shows.Pair a b) (shows.Pair c d) (shows.Pair v w) = IsNarrowedSet a c v × IsNarrowedSet b d w
IsCutBy (shows.Marks u v b) (shows.Marks p q r) (shows.Marks x y z) = (m : LoadMark) → IsMarkIn x y z m → IsMarkIn p q r m
IsCutBy (shows.Ends v n) (shows.Ends p q) (shows.Ends x y) = (e : CallEnd) → IsEndIn x y e → IsEndIn p q e
IsCutBy a b w = ⊥

-- it has what is in both, shows nothing that the first does not, and is of the first's form; a divisor and an offset that the first knows stay
pub record IsNarrowed (a b w : Shown) : Type 0 where
  pub form : AreOfOneForm a w
  pub holds : (objects : List ObjectTree) (x : Operand) → IsInShown objects x a → IsInShown objects x b → IsInShown objects x w
  pub inside : (objects : List ObjectTree) (x : Operand) → NamesObjects (length objects) b → IsInShown objects x w → IsInShown objects x a
  pub names : (count : ℕ) → NamesObjects count a → NamesObjects count b → NamesObjects count w
  pub cut : IsCutBy a b w
  pub proper : IsProper w
  pub divided : (c : ℤ) → IsDivided c a → IsDivided c w
  pub known : (k : ℤ) → IsAtOffset k a → IsAtOffset k w
