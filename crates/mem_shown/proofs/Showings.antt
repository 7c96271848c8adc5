-- Whether some operand is shown.
use Rattle.std.proofs.Common.{◌≡◌, ℤ, List, IsTrue, refl, subst, sym}
use Rattle.std.specs.Prelude.{Option, Some, None, MatchOption, MatchBool, Bool, true, false, is_some, ◌||◌, ◌&&◌}
use Rattle.c_syntax.specs.declared.alarm.Pointers.{Pointers}
use Rattle.c_syntax.specs.declared.alarm.Shown.{Shown}
use Rattle.c_syntax.specs.declared.alarm.Spot.{Spot}
use Rattle.c_syntax.specs.declared.alarm.Shown.TheVariants as shows
use Rattle.c_syntax.specs.Types.{ObjectTree}
use Rattle.c_syntax.specs.Operand.{Operand, Number, Point, Points, Mark, End, LoadMark, Undef, HasValue, Broken, CallEnd}
use Rattle.c_syntax.specs.Operand as operands
use Rattle.c_syntax.specs.Admission.{IsInShown, IsBetween, IsInClass, IsSpotIn, IsMarkIn, IsEndIn}
use Rattle.mem_shown.specs.declared.span.Span.{Span}
use Rattle.mem_shown.specs.Spans.{InSpan}
use Rattle.mem_shown.specs.Decisions.{ShowsSome}

abbrev pub IsTold : List ObjectTree → Shown → Bool → Type 0
IsTold objects shown b = MatchBool b (ShowsSome objects shown) (ShowsSome objects shown → ⊥)

pub number_told : (objects : List ObjectTree) (lo hi : Option ℤ) (modulus rem : ℤ) (span : Span) (W : ℤ → Type 0) (r : Option ℤ)
    → ((n : ℤ) → IsBetween lo hi n → IsInClass modulus rem n → InSpan span n) → ((n : ℤ) → InSpan span n → IsBetween lo hi n × IsInClass modulus rem n)
    → MatchOption r ((m : ℤ) → InSpan span m → ⊥) (λ m. InSpan span m × W m)
    → IsTold objects (shows.Number lo hi modulus rem) (is_some r)
number_told objects lo hi modulus rem span W None inside back none = no_number
  where
    no_number : ShowsSome objects (shows.Number lo hi modulus rem) → ⊥
    no_number (Number n, h) = none n (inside n h.0 h.1)
    no_number (Point s, h) = absurd h
    no_number (Points s t, h) = absurd h
    no_number (Mark m, h) = absurd h
    no_number (End e, h) = absurd h
number_told objects lo hi modulus rem span W (Some n) inside back h = (Number n, back n h.0)

abbrev IsSomeSpot : List ObjectTree → Pointers → Option Spot → Type 0
IsSomeSpot objects set r = MatchOption r ((s : Spot) → IsSpotIn objects set s → ⊥) (λ s. IsSpotIn objects set s)

pub spot_told : (objects : List ObjectTree) (set : Pointers) (r : Option Spot) → IsSomeSpot objects set r → IsTold objects (shows.One set) (is_some r)
spot_told objects set None none = no_spot
  where
    no_spot : ShowsSome objects (shows.One set) → ⊥
    no_spot (Number n, h) = absurd h
    no_spot (Point s, h) = none s h
    no_spot (Points s t, h) = absurd h
    no_spot (Mark m, h) = absurd h
    no_spot (End e, h) = absurd h
spot_told objects set (Some s) h = (Point s, h)

no_left : (objects : List ObjectTree) (left right : Pointers) → ((s : Spot) → IsSpotIn objects left s → ⊥) → ShowsSome objects (shows.Pair left right) → ⊥
no_left objects left right none (Number n, h) = absurd h
no_left objects left right none (Point s, h) = absurd h
no_left objects left right none (Points s t, h) = none s h.0
no_left objects left right none (Mark m, h) = absurd h
no_left objects left right none (End e, h) = absurd h

no_right : (objects : List ObjectTree) (left right : Pointers) → ((s : Spot) → IsSpotIn objects right s → ⊥) → ShowsSome objects (shows.Pair left right) → ⊥
no_right objects left right none (Number n, h) = absurd h
no_right objects left right none (Point s, h) = absurd h
no_right objects left right none (Points s t, h) = none t h.1
no_right objects left right none (Mark m, h) = absurd h
no_right objects left right none (End e, h) = absurd h

pub left_missing : (objects : List ObjectTree) (left right : Pointers) (r : Option Spot) → IsSomeSpot objects left r → is_some r ≡ false → ShowsSome objects (shows.Pair left right) → ⊥
left_missing objects left right None none e = no_left objects left right none
left_missing objects left right (Some s) h e = absurd cc

pub pair_told : (objects : List ObjectTree) (left right : Pointers) (r q : Option Spot) → IsSomeSpot objects left r → IsSomeSpot objects right q → is_some r ≡ true
    → IsTold objects (shows.Pair left right) (is_some q)
pair_told objects left right None q h k e = absurd cc
pair_told objects left right (Some s) None h none e = no_right objects left right none
pair_told objects left right (Some s) (Some t) h k e = (Points s t, (h, k))

pub marks_told : (objects : List ObjectTree) (undef value broken : Bool) → IsTold objects (shows.Marks undef value broken) ((undef || value) || broken)
marks_told objects true value broken = (Mark Undef, refl)
marks_told objects false true broken = (Mark HasValue, refl)
marks_told objects false false true = (Mark Broken, refl)
marks_told objects false false false = no_marks
  where
    no_marks : ShowsSome objects (shows.Marks false false false) → ⊥
    no_marks (Number n, h) = absurd h
    no_marks (Point s, h) = absurd h
    no_marks (Points s t, h) = absurd h
    no_marks (Mark Undef, h) = cc
    no_marks (Mark HasValue, h) = cc
    no_marks (Mark Broken, h) = cc
    no_marks (End e, h) = absurd h

pub ends_told : (objects : List ObjectTree) (value none : Bool) → IsTold objects (shows.Ends value none) (value || none)
ends_told objects true none = (End operands.Value, refl)
ends_told objects false true = (End operands.None, refl)
ends_told objects false false = no_ends
  where
    no_ends : ShowsSome objects (shows.Ends false false) → ⊥
    no_ends (Number n, h) = absurd h
    no_ends (Point s, h) = absurd h
    no_ends (Points s t, h) = absurd h
    no_ends (Mark m, h) = absurd h
    no_ends (End operands.Value, h) = cc
    no_ends (End operands.None, h) = cc
