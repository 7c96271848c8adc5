-- What is shown of ranges.
use Rattle.std.proofs.Common.{◌≡◌, ◌≤ℤ◌, ℤ, pos, arith, sym, subst, ap, List, Option, Some, None}
use Rattle.std.specs.Prelude.{IfSome, IsSomeAnd, length}
use Rattle.std.proofs.lemmas.Int.{ints}
use Rattle.c_syntax.specs.declared.alarm.Pointers.{Pointers}
use Rattle.c_syntax.specs.declared.alarm.Shown.TheVariants as shows
use Rattle.c_syntax.specs.declared.alarm.Spot.{Spot}
use Rattle.c_syntax.specs.declared.alarm.Spot.TheVariants as spots
use Rattle.c_syntax.specs.Types.{ObjectTree}
use Rattle.c_syntax.specs.Operand.{Operand, Number, Point, Points, Mark, End}
use Rattle.c_syntax.specs.Admission.{IsInShown, IsModerate, IsSpotIn}
use Rattle.ext_int.specs.declared.Ext.{Ext}
use Rattle.ext_int.specs.declared.Ext.TheVariants.{Fin}
use Rattle.ext_int.specs.Ext.{Below, Above, AtMost}
use Rattle.num_api.specs.declared.message.Range.{Range}
use Rattle.num_api.specs.Ranges.{InRange, IsPoint}
use Rattle.mem_api.specs.Showing.{IsAlone}
use Rattle.mem_temps.specs.Checks.{IsSmall}
use Rattle.mem_shown.specs.Sets.{IsSpotBelow, HasAll, HasAlone}
use Rattle.mem_shown.proofs.Having.{proper_range}
use Rattle.mem_temps.specs.Shows.{IsNumberIn, IsNumberAlone, IsSpotOf, ShowsNumber, IsSetOf}

between_one : (lo hi : Option ℤ) (n m : ℤ) → lo ≡ Some n → hi ≡ Some n → IfSome lo (λ l. l ≤ℤ m) → IfSome hi (λ h. m ≤ℤ h) → m ≡ n
between_one lo hi n m e f below above =
    let a = subst (λ (o : Option ℤ). IfSome o (λ l. l ≤ℤ m)) e below in let b = subst (λ (o : Option ℤ). IfSome o (λ h. m ≤ℤ h)) f above in same a b
  where
    same : n ≤ℤ m → m ≤ℤ n → m ≡ n
    same a b = omega (arith, ints)

module _ (r : Range) (lo hi : Option ℤ) (low : IsModerate lo) (high : IsModerate hi) (kept_low : (n : ℤ) → r.lo ≡ Fin n → IsSmall n → lo ≡ Some n)
    (kept_high : (n : ℤ) → r.hi ≡ Fin n → IsSmall n → hi ≡ Some n) (below : (n : ℤ) → Below r.lo n → IfSome lo (λ l. l ≤ℤ n))
    (above : (n : ℤ) → Above r.hi n → IfSome hi (λ h. n ≤ℤ h)) (least : (n : ℤ) → IsSmall n → AtMost (Fin n) r.lo → IsSomeAnd lo (λ l. n ≤ℤ l))
    (greatest : (n : ℤ) → IsSmall n → AtMost r.hi (Fin n) → IsSomeAnd hi (λ h. h ≤ℤ n)) where
  held : (objects : List ObjectTree) (x : Operand) → IsNumberIn r x → IsInShown objects x (shows.Number lo hi (pos 1) (pos 0))
  held objects (Number n) i = ((below n i.low, above n i.high), (n, omega (arith, ints)))
  held objects (Point s) i = absurd i
  held objects (Points s t) i = absurd i
  held objects (Mark m) i = absurd i
  held objects (End e) i = absurd i

  only : (objects : List ObjectTree) (n : ℤ) → IsPoint r n → IsSmall n → (y : Operand) → IsInShown objects y (shows.Number lo hi (pos 1) (pos 0)) → y ≡ Number n
  only objects n p small (Number m) h = ap Number (between_one lo hi n m (kept_low n p.low small) (kept_high n p.high small) h.0.0 h.0.1)
  only objects n p small (Point s) h = absurd h
  only objects n p small (Points s t) h = absurd h
  only objects n p small (Mark m) h = absurd h
  only objects n p small (End e) h = absurd h

  alone_in : (objects : List ObjectTree) (x : Operand) → IsNumberAlone r x → IsAlone objects x (shows.Number lo hi (pos 1) (pos 0))
  alone_in objects (Number n) i = record { there = held objects (Number n) (record { low = from_below n i.0; high = from_above n i.0 }); only = only objects n i.0 i.1 } where
    from_below : (n : ℤ) → IsPoint r n → Below r.lo n
    from_below n p = subst (λ (e : Ext). Below e n) (sym p.low) (omega (arith, ints))

    from_above : (n : ℤ) → IsPoint r n → Above r.hi n
    from_above n p = subst (λ (e : Ext). Above e n) (sym p.high) (omega (arith, ints))
  alone_in objects (Point s) i = absurd i
  alone_in objects (Points s t) i = absurd i
  alone_in objects (Mark m) i = absurd i
  alone_in objects (End e) i = absurd i

  pub shows_number : ShowsNumber r (shows.Number lo hi (pos 1) (pos 0))
  shows_number = record {
    holds = held;
    alone = alone_in;
    form = tt;
    proper = proper_range lo hi low high;
    names = λ count. tt;
    least = λ objects n k small under h. low_end lo k n (least k small under) h.0.0;
    greatest = λ objects n k small under h. high_end hi k n (greatest k small under) h.0.1;
  }
    where
      low_end : (o : Option ℤ) (k n : ℤ) → IsSomeAnd o (λ l. k ≤ℤ l) → IfSome o (λ l. l ≤ℤ n) → k ≤ℤ n
      low_end None k n h g = absurd h
      low_end (Some l) k n h g = omega (arith, ints)

      high_end : (o : Option ℤ) (k n : ℤ) → IsSomeAnd o (λ h. h ≤ℤ k) → IfSome o (λ h. n ≤ℤ h) → n ≤ℤ k
      high_end None k n h g = absurd h
      high_end (Some l) k n h g = omega (arith, ints)

-- ---- pointers

pub any_set : (r : Range) (set : Pointers) → (IsPoint r (pos 0) → ⊥) → HasAll set → IsSetOf r set
any_set r set out h = record {
  holds = λ objects s i. h.all objects s (below objects s i);
  alone = λ p. absurd (out p);
  proper = h.proper;
  names = h.names;
}
  where
    below : (objects : List ObjectTree) (s : Spot) → IsSpotOf objects r s → IsSpotBelow (length objects) s
    below objects spots.Null i = tt
    below objects spots.Dead i = tt
    below objects (spots.At o d) i = i.0

pub null_set : (r : Range) (set : Pointers) → IsPoint r (pos 0) → HasAlone spots.Null set → IsSetOf r set
null_set r set p h = record {
  holds = λ objects s i. held objects s i;
  alone = λ q objects s i. h.only objects s i;
  proper = h.proper;
  names = λ count. h.names count tt;
}
  where
    no_one : InRange r (pos 1) → ⊥
    no_one i = let high : Above (Fin (pos 0)) (pos 1) = subst (λ (e : Ext). Above e (pos 1)) p.high i.high in omega (arith, ints, high)

    held : (objects : List ObjectTree) (s : Spot) → IsSpotOf objects r s → IsSpotIn objects set s
    held objects spots.Null i = h.there objects
    held objects spots.Dead i = absurd (no_one i)
    held objects (spots.At o d) i = absurd (no_one i.1)
