-- Which pointers the sets have.
use Rattle.std.proofs.Common.{◌≡◌, ◌≤ℤ◌, ℕ, ℤ, pos, ◌<◌, ◌⊎◌, inl, inr, arith, refl, sym, subst, true, false, List, [], ◌∷◌, Option, Some, None}
use Rattle.std.specs.Prelude.{length, All, Contains}
use Rattle.std.proofs.lemmas.Int.{ints}
use Rattle.std.proofs.lemmas.List.Elements.{All-nil, All-cons, All-contains}
use Rattle.c_syntax.specs.declared.alarm.Spot.{Spot}
use Rattle.c_syntax.specs.declared.alarm.Spot.TheVariants as spots
use Rattle.c_syntax.specs.declared.alarm.Pointers.{Pointers}
use Rattle.c_syntax.specs.Types.{ObjectTree}
use Rattle.c_syntax.specs.Admission.{IsModerate as IsModerateEnd, IsProperRange, IsSpotIn}
use Rattle.mem_shown.specs.Sets.{IsModerate, IsSpotBelow, HasAll, HasAlone}

pub proper_range : (lo hi : Option ℤ) → IsModerateEnd lo → IsModerateEnd hi → IsProperRange lo hi (pos 1) (pos 0)
proper_range lo hi l h = record {
  lo_moderate = l;
  hi_moderate = h;
  modulus_low = omega (arith, ints);
  modulus_high = omega (arith, ints);
  remainder = λ k. (omega (arith, ints), omega (arith, ints));
  point = λ k. absurd (cc);
}

-- any pointer
abbrev pub any_of : List ℕ → Pointers
any_of names = record { any = true; null = true; dead = true; names = names; lo = None; hi = None; modulus = pos 1; rem = pos 0 }

all_in : (names : List ℕ) (objects : List ObjectTree) (s : Spot) → IsSpotBelow (length objects) s → IsSpotIn objects (any_of names) s
all_in names objects spots.Null i = refl
all_in names objects spots.Dead i = refl
all_in names objects (spots.At o d) i = (inr (refl, i), (tt, tt), (d, omega (arith, ints)))

pub any_pointer : (names : List ℕ) → names ≡ [] → HasAll (any_of names)
any_pointer names empty = record {
  all = λ objects s i. all_in names objects s i;
  proper = proper_range None None tt tt;
  names = λ count. subst (λ (l : List ℕ). All (λ o. o < count) l) (sym empty) (All-nil (λ o. o < count));
}

-- a pointer to an offset of an object
abbrev pub at_of : List ℕ → ℤ → Pointers
at_of names end = record { any = false; null = false; dead = false; names = names; lo = Some end; hi = Some end; modulus = pos 1; rem = pos 0 }

at_there : (objects : List ObjectTree) (o : ℕ) (d : ℤ) → IsSpotIn objects (at_of (o ∷ []) d) (spots.At o d)
at_there objects o d = (inl (0, omega arith, refl), (omega (arith, ints), omega (arith, ints)), (d, omega (arith, ints)))

at_only : (objects : List ObjectTree) (o : ℕ) (d : ℤ) (s : Spot) → IsSpotIn objects (at_of (o ∷ []) d) s → s ≡ spots.At o d
at_only objects o d spots.Null h = absurd (cc)
at_only objects o d spots.Dead h = absurd (cc)
at_only objects o d (spots.At p e) h = same (object h.0) (offset h.1.0 h.1.1) where
  object : (Contains (o ∷ []) p ⊎ ((false ≡ true) × (p < length objects))) → p ≡ o
  object (inl c) = All-contains (λ x. x ≡ o) (o ∷ []) p (All-cons (λ x. x ≡ o) o [] refl (All-nil (λ x. x ≡ o))) c
  object (inr q) = let no = q.0 in absurd (cc)

  offset : d ≤ℤ e → e ≤ℤ d → e ≡ d
  offset a b = omega (arith, ints)

  same : p ≡ o → e ≡ d → spots.At p e ≡ spots.At o d
  same a b = cc

at_alone : (o : ℕ) (d : ℤ) → IsModerate d → HasAlone (spots.At o d) (at_of (o ∷ []) d)
at_alone o d m = record {
  there = λ objects. at_there objects o d;
  only = λ objects s h. at_only objects o d s h;
  proper = proper_range (Some d) (Some d) m m;
  names = λ count i. All-cons (λ x. x < count) o [] i (All-nil (λ x. x < count));
}

pub at : (o : ℕ) (d end : ℤ) (names : List ℕ) → names ≡ o ∷ [] → end ≡ d → IsModerate d → HasAlone (spots.At o d) (at_of names end)
at o d end names e f m = subst (λ (l : List ℕ). HasAlone (spots.At o d) (at_of l end)) (sym e)
    (subst (λ (n : ℤ). HasAlone (spots.At o d) (at_of (o ∷ []) n)) (sym f) (at_alone o d m))
