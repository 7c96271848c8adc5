-- Which operands are shown, which fail a check, and what is proper to show.
use Rattle.std.specs.Prelude.{◌≡◌, ◌≢◌, ◌⊎◌, ◌^◌, ◌<◌, ◌||◌, ℕ, ℤ, pos, neg_ℤ, ◌+ℤ◌, ◌-ℤ◌, ◌*ℤ◌, ◌≤ℤ◌, ◌<ℤ◌, Bool, IsTrue, List, length}
use Rattle.std.specs.Prelude.{Contains, Option, Some, IfSome, IsSomeAnd, slice_get}
use Rattle.c_syntax.specs.declared.alarm.Spot.{Spot}
use Rattle.c_syntax.specs.declared.alarm.Spot.TheVariants as spots
use Rattle.c_syntax.specs.declared.alarm.Pointers.{Pointers}
use Rattle.c_syntax.specs.declared.alarm.Shown.{Shown}
use Rattle.c_syntax.specs.declared.alarm.Shown.TheVariants as shows
use Rattle.c_syntax.specs.declared.alarm.Check.{Check}
use Rattle.c_syntax.specs.declared.alarm.WrongKind.{WrongKind}
use Rattle.c_syntax.specs.declared.alarm.WrongKind.TheVariants as kinds
use Rattle.c_syntax.specs.Types.{ObjectTree}
use Rattle.c_syntax.specs.Operand.{Operand, Number, Point, Points, Mark, End, LoadMark, Undef, HasValue, Broken, CallEnd}
use Rattle.c_syntax.specs.Operand as operands

-- the number lies between two ends, each of which may be missing
abbrev pub IsBetween : Option ℤ → Option ℤ → ℤ → Type 0
IsBetween lo hi n = IfSome lo (λ l. l ≤ℤ n) × IfSome hi (λ h. n ≤ℤ h)

-- the number is rem and some multiple of the modulus: any number where that is 1, and rem where it is 0
abbrev pub IsInClass : ℤ → ℤ → ℤ → Type 0
IsInClass modulus rem n = (k : ℤ) × (n ≡ rem +ℤ (modulus *ℤ k))

-- the set has this object: one of those named, or where it is any, each of the program's
abbrev pub HasObject : List ObjectTree → Pointers → ℕ → Type 0
HasObject objects set o = Contains set.names o ⊎ (IsTrue set.any × (o < length objects))

-- the spot stands in the set, with its offset in range and class
abbrev pub IsSpotIn : List ObjectTree → Pointers → Spot → Type 0
IsSpotIn objects set spots.Null = IsTrue (set.any || set.null)
IsSpotIn objects set spots.Dead = IsTrue (set.any || set.dead)
IsSpotIn objects set (spots.At o d) = HasObject objects set o × IsBetween set.lo set.hi d × IsInClass set.modulus set.rem d

-- the mark is one of those shown
abbrev pub IsMarkIn : Bool → Bool → Bool → LoadMark → Type 0
IsMarkIn undef value broken Undef = IsTrue undef
IsMarkIn undef value broken HasValue = IsTrue value
IsMarkIn undef value broken Broken = IsTrue broken

-- the end is one of those shown
abbrev pub IsEndIn : Bool → Bool → CallEnd → Type 0
IsEndIn value none operands.Value = IsTrue value
IsEndIn value none operands.None = IsTrue none

-- the operand is in what is shown
abbrev pub IsInShown : List ObjectTree → Operand → Shown → Type 0
IsInShown objects (Number n) (shows.Number lo hi modulus rem) = IsBetween lo hi n × IsInClass modulus rem n
IsInShown objects (Point s) (shows.One set) = IsSpotIn objects set s
IsInShown objects (Points s t) (shows.Pair left right) = IsSpotIn objects left s × IsSpotIn objects right t
IsInShown objects (Mark m) (shows.Marks undef value broken) = IsMarkIn undef value broken m
IsInShown objects (End e) (shows.Ends value none) = IsEndIn value none e
IsInShown objects x shown = ⊥

-- the number is outside of these ends
abbrev pub IsOutside : ℤ → ℤ → Operand → Type 0
IsOutside lo hi (Number n) = (n <ℤ lo) ⊎ (hi <ℤ n)
IsOutside lo hi x = ⊥

abbrev pub IsZero : Operand → Type 0
IsZero (Number n) = n ≡ pos 0
IsZero x = ⊥

-- the spot, or one of the two, is this one
abbrev pub MeetsSpot : Spot → Operand → Type 0
MeetsSpot bad (Point s) = s ≡ bad
MeetsSpot bad (Points s t) = (s ≡ bad) ⊎ (t ≡ bad)
MeetsSpot bad x = ⊥

-- the spot is in an object of the program, of which this holds, with the offset
abbrev pub IsAt : List ObjectTree → (ObjectTree → ℤ → Type 0) → Operand → Type 0
IsAt objects P (Point (spots.At o d)) = IsSomeAnd (slice_get objects o) (λ object. P object d)
IsAt objects P x = ⊥

-- the offset is one past the end of that object
abbrev pub IsEndOf : List ObjectTree → ℕ → ℤ → Type 0
IsEndOf objects o d = IsSomeAnd (slice_get objects o) (λ object. d ≡ pos object.size)

-- the number is no multiple of this one
abbrev pub IsNoMultiple : ℕ → ℤ → Type 0
IsNoMultiple size n = (k : ℤ) → n ≢ pos size *ℤ k

-- two spots that an equality (size 0), an order (size 1) or a difference of elements of that size must not have
abbrev pub IsUnrelated : List ObjectTree → ℕ → Operand → Type 0
IsUnrelated objects size (Points (spots.At o d) (spots.At p e)) =
    ((size ≡ 0) × (o ≢ p) × (IsEndOf objects o d ⊎ IsEndOf objects p e)) ⊎ ((0 < size) × ((o ≢ p) ⊎ IsNoMultiple size (d -ℤ e)))
IsUnrelated objects size x = ⊥

-- the operand fails the check, by the check's kind
abbrev pub FailsKind : List ObjectTree → Check → WrongKind → Operand → Type 0
FailsKind objects check kinds.Overflow x = IsOutside check.lo check.hi x
FailsKind objects check kinds.DivideByZero x = IsZero x
FailsKind objects check kinds.Quotient x = IsOutside check.lo check.hi x
FailsKind objects check kinds.ShiftAmount x = IsOutside check.lo check.hi x
FailsKind objects check kinds.ShiftResult x = IsOutside check.lo check.hi x
FailsKind objects check kinds.Indeterminate x = x ≡ Mark Undef
FailsKind objects check kinds.Fragment x = x ≡ Mark Broken
FailsKind objects check kinds.NullUse x = MeetsSpot spots.Null x
FailsKind objects check kinds.Dangling x = MeetsSpot spots.Dead x
FailsKind objects check kinds.Bounds x = IsAt objects (λ object d. (d <ℤ pos 0) ⊎ (pos object.size <ℤ d)) x
FailsKind objects check kinds.Access x = IsAt objects (λ object d. (d <ℤ pos 0) ⊎ (pos object.size <ℤ (d +ℤ pos check.size))) x
FailsKind objects check kinds.Alignment x = IsAt objects (λ object d. IsNoMultiple check.align d) x
FailsKind objects check kinds.ReadOnly x = IsAt objects (λ object d. IsTrue object.read_only) x
FailsKind objects check kinds.Unrelated x = IsUnrelated objects check.size x
FailsKind objects check kinds.NoValue x = x ≡ End operands.None
FailsKind objects check kinds.AssertFailed x = IsZero x

abbrev pub Fails : List ObjectTree → Check → Operand → Type 0
Fails objects check x = FailsKind objects check check.kind x

abbrev pub IsModerate : Option ℤ → Type 0
IsModerate end = IfSome end (λ n. (neg_ℤ (pos (2 ^ 126)) ≤ℤ n) × (n ≤ℤ pos (2 ^ 126)))

-- a range and a class that may be shown
pub record IsProperRange (lo hi : Option ℤ) (modulus rem : ℤ) : Type 0 where
  pub lo_moderate : IsModerate lo
  pub hi_moderate : IsModerate hi
  pub modulus_low : pos 0 ≤ℤ modulus
  pub modulus_high : modulus ≤ℤ pos (2 ^ 100)
  pub remainder : pos 1 ≤ℤ modulus → (pos 0 ≤ℤ rem) × (rem <ℤ modulus)
  pub point : modulus ≡ pos 0 → (lo ≡ Some rem) × (hi ≡ Some rem)

abbrev pub IsProperSet : Pointers → Type 0
IsProperSet set = IsProperRange set.lo set.hi set.modulus set.rem

-- what is shown is proper
abbrev pub IsProper : Shown → Type 0
IsProper (shows.Number lo hi modulus rem) = IsProperRange lo hi modulus rem
IsProper (shows.One set) = IsProperSet set
IsProper (shows.Pair left right) = IsProperSet left × IsProperSet right
IsProper (shows.Marks undef value broken) = Unit {0}
IsProper (shows.Ends value none) = Unit {0}
