-- What shows one operand alone.
use Rattle.std.specs.Prelude.{◌≡◌, ◌⊎◌, ℕ, pos, Bool, true, false, List, [], ◌∷◌, length, Some, None}
use Rattle.c_syntax.specs.declared.alarm.Pointers.{Pointers}
use Rattle.c_syntax.specs.declared.alarm.Shown.{Shown}
use Rattle.c_syntax.specs.declared.alarm.Shown.TheVariants as shows
use Rattle.c_syntax.specs.declared.alarm.Spot.{Spot}
use Rattle.c_syntax.specs.declared.alarm.Spot.TheVariants as spots
use Rattle.c_syntax.specs.Types.{ObjectTree}
use Rattle.c_syntax.specs.Operand.{Operand, Number, Point, Points, Mark, End, LoadMark, Undef, HasValue, Broken, CallEnd}
use Rattle.c_syntax.specs.Operand as operands
use Rattle.c_syntax.specs.Admission.{IsInShown, IsModerate}

abbrev pub nowhere : Bool → Bool → Pointers
nowhere null dead = record { any = false; null = null; dead = dead; names = []; lo = None; hi = None; modulus = pos 1; rem = pos 0 }

-- the set of one spot
abbrev pub set_alone : Spot → Pointers
set_alone spots.Null = nowhere true false
set_alone spots.Dead = nowhere false true
set_alone (spots.At o d) = record { any = false; null = false; dead = false; names = o ∷ []; lo = Some d; hi = Some d; modulus = pos 0; rem = d }

abbrev pub mark_alone : LoadMark → Shown
mark_alone Undef = shows.Marks true false false
mark_alone HasValue = shows.Marks false true false
mark_alone Broken = shows.Marks false false true

abbrev pub end_alone : CallEnd → Shown
end_alone operands.Value = shows.Ends true false
end_alone operands.None = shows.Ends false true

abbrev pub alone_of : Operand → Shown
alone_of (Number n) = shows.Number (Some n) (Some n) (pos 0) n
alone_of (Point s) = shows.One (set_alone s)
alone_of (Points s t) = shows.Pair (set_alone s) (set_alone t)
alone_of (Mark m) = mark_alone m
alone_of (End e) = end_alone e

-- its numbers may be shown
abbrev pub IsShowableSpot : Spot → Type 0
IsShowableSpot (spots.At o d) = IsModerate (Some d)
IsShowableSpot s = Unit {0}

abbrev pub IsShowable : Operand → Type 0
IsShowable (Number n) = IsModerate (Some n)
IsShowable (Point s) = IsShowableSpot s
IsShowable (Points s t) = IsShowableSpot s × IsShowableSpot t
IsShowable x = Unit {0}

-- the operand alone, where it is shown in a program of so many objects, and else what was shown
abbrev pub IsAloneOr : ℕ → Shown → Operand → Shown → Type 0
IsAloneOr count w x r = ((r ≡ alone_of x) × IsShowable x × ((objects : List ObjectTree) → length objects ≡ count → IsInShown objects x w))
    ⊎ ((r ≡ w) × ((objects : List ObjectTree) → length objects ≡ count → IsInShown objects x w → ⊥))
