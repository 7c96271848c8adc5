-- What is looked for among the pointers of a set.
use Rattle.std.specs.Prelude.{◌≡◌, ◌≢◌, ◌⊎◌, ℕ, ◌≤◌, ℤ, pos, ◌+ℤ◌, ◌<ℤ◌, IsTrue, List, Option, IfSome, IsSomeAnd, slice_get}
use Rattle.c_syntax.specs.declared.alarm.Pointers.{Pointers}
use Rattle.c_syntax.specs.declared.alarm.Spot.TheVariants as spots
use Rattle.c_syntax.specs.Types.{ObjectTree}
use Rattle.c_syntax.specs.Admission.{IsNoMultiple, IsSpotIn}
use Rattle.mem_shown.specs.declared.wanted.Wanted.{Wanted}
use Rattle.mem_shown.specs.declared.wanted.Wanted.TheVariants as wanteds
use Rattle.mem_shown.specs.declared.wanted.Search.{Search}
use Rattle.mem_shown.specs.Spans.{InSpan}

-- the offset in the object is what is looked for
abbrev pub Wants : Wanted → ObjectTree → ℤ → Type 0
Wants wanteds.Any object d = Unit {0}
Wants wanteds.End object d = d ≡ pos object.size
Wants wanteds.Outside object d = (d <ℤ pos 0) ⊎ (pos object.size <ℤ d)
Wants (wanteds.NoRoom size) object d = (d <ℤ pos 0) ⊎ (pos object.size <ℤ (d +ℤ pos size))
Wants (wanteds.Unaligned align) object d = IsNoMultiple align d
Wants wanteds.ReadOnly object d = IsTrue object.read_only

-- an alignment is 1 or more
abbrev pub IsAsked : Wanted → Type 0
IsAsked (wanteds.Unaligned align) = 1 ≤ align
IsAsked wanted = Unit {0}

-- the offset in the object of this number is what the search looks for
pub record IsHit (s : Search) (o : ℕ) (object : ObjectTree) (d : ℤ) : Type 0 where
  pub other : IfSome s.except (λ e. o ≢ e)
  pub inside : InSpan s.span d
  pub wants : Wants s.wanted object d

-- the search looks for this offset in the object of this number, which is there
abbrev pub IsHitAt : List ObjectTree → Search → ℕ → ℤ → Type 0
IsHitAt objects s o d = IsSomeAnd (slice_get objects o) (λ object. IsHit s o object d)

-- the pointer is one of the set, to an object other than the one that is left out, and its offset is what is looked for
pub record IsWanted (objects : List ObjectTree) (set : Pointers) (wanted : Wanted) (except : Option ℕ) (o : ℕ) (d : ℤ) : Type 0 where
  pub spot : IsSpotIn objects set (spots.At o d)
  pub other : IfSome except (λ e. o ≢ e)
  pub wants : IsSomeAnd (slice_get objects o) (λ object. Wants wanted object d)
