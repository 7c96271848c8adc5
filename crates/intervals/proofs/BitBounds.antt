-- The bounds of the operators on bits: at parts of the operands, at hulls, and at sizes with signs.
use Rattle.std.proofs.Common.{◌≡◌, ℕ, ℤ, pos, negsuc, ◌-◌, ◌^◌, ◌-ℤ◌, ◌≤ℤ◌, Bool, true, false, arith, refl, sym, ◌∙◌, ap, subst}
use Rattle.std.proofs.lemmas.Int.{ints}
use mathlib.Core.Bool.{beq}
use Rattle.ext_int.specs.declared.Ext.{Ext}
use Rattle.ext_int.specs.declared.Ext.TheVariants.{Low, Fin, High}
use Rattle.ext_int.specs.Ext.{Below, Above, AtMost, lesser, greater, holds_number}
use Rattle.ext_int.proofs.Ends.{AtMost_refl, AtMost_trans, holds_number_from, number_between, lesser_first, lesser_second, lesser_greatest, greater_first, greater_second, greater_least}
use Rattle.num_api.specs.declared.expr.NOp.{NOp}
use Rattle.num_api.specs.declared.expr.NOp.TheVariants.{And, Or, Xor}
use Rattle.num_api.specs.declared.message.Range.{Range}
use Rattle.num_api.specs.Ranges.{NoWider, hull}
use Rattle.intervals.specs.declared.Interval.{Interval}
use Rattle.std.specs.Prelude.{IsTrue}
use Rattle.intervals.specs.Interval.{Admits, ends_of, least_end, greatest_end}
use Rattle.intervals.specs.Bits.{flipped, of_sign, IsLogical, IsMaskAbove}
use Rattle.intervals.specs.Bounds.{IsNatural, IsMinus, HasBits, AndBounds, OrBounds, XorBounds, BitBounds, flip_range, signed, AndSizes, WithoutSizes, OrSizes, XorSizes, IsFlipped, IsSizes}
use Rattle.intervals.proofs.BitRanges.{by_sign, flipped_below, flipped_above, flipped_below_back, flipped_above_back}
use Rattle.intervals.proofs.Inside.{ends_in_order}

-- ---- parts of an operand

natural_in : (p a : Range) → NoWider p a → IsNatural a → IsNatural p
natural_in p a w h = AtMost_trans (Fin (pos 0)) a.lo p.lo h w.low

minus_in : (p a : Range) → NoWider p a → IsMinus a → IsMinus p
minus_in p a w h = AtMost_trans p.hi a.hi (Fin (negsuc 0)) w.high h

bits_in : (k : ℕ) (p a : Range) → NoWider p a → HasBits k a → HasBits k p
bits_in k p a w h = record { low = AtMost_trans (Fin (negsuc (2 ^ k - 1))) a.lo p.lo h.low w.low; high = AtMost_trans p.hi a.hi (Fin (pos (2 ^ k - 1))) w.high h.high }

and_first : (p a b r : Range) → NoWider p a → AndBounds p b r → AndBounds a b r
and_first p a b r w s = record {
  first = λ h. let t = s.first (natural_in p a w h) in (t.0, AtMost_trans r.hi p.hi a.hi t.1 w.high);
  second = s.second;
  minus = λ h k. let t = s.minus (minus_in p a w h) k in (AtMost_trans r.hi p.hi a.hi t.0 w.high, t.1);
  bits = λ k h i. s.bits k (bits_in k p a w h) i;
}

or_first : (p a b r : Range) → NoWider p a → OrBounds p b r → OrBounds a b r
or_first p a b r w s = record {
  first = λ h. let t = s.first (minus_in p a w h) in (t.0, AtMost_trans a.lo p.lo r.lo w.low t.1);
  second = s.second;
  natural = λ h k. let t = s.natural (natural_in p a w h) k in (AtMost_trans a.lo p.lo r.lo w.low t.0, t.1);
  bits = λ k h i. s.bits k (bits_in k p a w h) i;
}

xor_first : (p a b r : Range) → NoWider p a → XorBounds p b r → XorBounds a b r
xor_first p a b r w s = record {
  natural = λ h k. s.natural (natural_in p a w h) k;
  minus = λ h k. s.minus (minus_in p a w h) k;
  first = λ h k. s.first (minus_in p a w h) k;
  second = λ h k. s.second (natural_in p a w h) k;
  bits = λ k h i. s.bits k (bits_in k p a w h) i;
}

pub and_turned : (a b r : Range) → AndBounds a b r → AndBounds b a r
and_turned a b r s = record { first = s.second; second = s.first; minus = λ h k. let t = s.minus k h in (t.1, t.0); bits = λ k h i. s.bits k i h }

pub or_turned : (a b r : Range) → OrBounds a b r → OrBounds b a r
or_turned a b r s = record { first = s.second; second = s.first; natural = λ h k. let t = s.natural k h in (t.1, t.0); bits = λ k h i. s.bits k i h }

pub xor_turned : (a b r : Range) → XorBounds a b r → XorBounds b a r
xor_turned a b r s = record { natural = λ h k. s.natural k h; minus = λ h k. s.minus k h; first = λ h k. s.second k h; second = λ h k. s.first k h; bits = λ k h i. s.bits k i h }

-- bounds at a part of an operand are bounds at the operand
pub first_part : (op : NOp) → IsLogical op → (p a b r : Range) → NoWider p a → BitBounds op p b r → BitBounds op a b r
first_part And l p a b r w s = and_first p a b r w s
first_part Or l p a b r w s = or_first p a b r w s
first_part Xor l p a b r w s = xor_first p a b r w s
first_part op l p a b r w s = absurd l

turned : (op : NOp) → IsLogical op → (a b r : Range) → BitBounds op a b r → BitBounds op b a r
turned And l a b r s = and_turned a b r s
turned Or l a b r s = or_turned a b r s
turned Xor l a b r s = xor_turned a b r s
turned op l a b r s = absurd l

pub second_part : (op : NOp) → IsLogical op → (p a b r : Range) → NoWider p b → BitBounds op a p r → BitBounds op a b r
second_part op l p a b r w s = turned op l b a r (first_part op l p b a r w (turned op l a p r s))

-- ---- hulls

bits_hull : (i : ℕ) (r s : Range) → HasBits i r → HasBits i s → HasBits i (hull r s)
bits_hull i r s h k = record {
  low = lesser_greatest (Fin (negsuc (2 ^ i - 1))) r.lo s.lo h.low k.low;
  high = greater_least (Fin (pos (2 ^ i - 1))) r.hi s.hi h.high k.high;
}

and_hull : (a b r s : Range) → AndBounds a b r → AndBounds a b s → AndBounds a b (hull r s)
and_hull a b r s h k = record {
  first = λ n. let p = h.first n in let q = k.first n in (lesser_greatest (Fin (pos 0)) r.lo s.lo p.0 q.0, greater_least a.hi r.hi s.hi p.1 q.1);
  second = λ n. let p = h.second n in let q = k.second n in (lesser_greatest (Fin (pos 0)) r.lo s.lo p.0 q.0, greater_least b.hi r.hi s.hi p.1 q.1);
  minus = λ m n. let p = h.minus m n in let q = k.minus m n in (greater_least a.hi r.hi s.hi p.0 q.0, greater_least b.hi r.hi s.hi p.1 q.1);
  bits = λ i m n. bits_hull i r s (h.bits i m n) (k.bits i m n);
}

or_hull : (a b r s : Range) → OrBounds a b r → OrBounds a b s → OrBounds a b (hull r s)
or_hull a b r s h k = record {
  first = λ n. let p = h.first n in let q = k.first n in (greater_least (Fin (negsuc 0)) r.hi s.hi p.0 q.0, lesser_greatest a.lo r.lo s.lo p.1 q.1);
  second = λ n. let p = h.second n in let q = k.second n in (greater_least (Fin (negsuc 0)) r.hi s.hi p.0 q.0, lesser_greatest b.lo r.lo s.lo p.1 q.1);
  natural = λ m n. let p = h.natural m n in let q = k.natural m n in (lesser_greatest a.lo r.lo s.lo p.0 q.0, lesser_greatest b.lo r.lo s.lo p.1 q.1);
  bits = λ i m n. bits_hull i r s (h.bits i m n) (k.bits i m n);
}

xor_hull : (a b r s : Range) → XorBounds a b r → XorBounds a b s → XorBounds a b (hull r s)
xor_hull a b r s h k = record {
  natural = λ m n. lesser_greatest (Fin (pos 0)) r.lo s.lo (h.natural m n) (k.natural m n);
  minus = λ m n. lesser_greatest (Fin (pos 0)) r.lo s.lo (h.minus m n) (k.minus m n);
  first = λ m n. greater_least (Fin (negsuc 0)) r.hi s.hi (h.first m n) (k.first m n);
  second = λ m n. greater_least (Fin (negsuc 0)) r.hi s.hi (h.second m n) (k.second m n);
  bits = λ i m n. bits_hull i r s (h.bits i m n) (k.bits i m n);
}

pub bounds_hull : (op : NOp) → IsLogical op → (a b r s : Range) → BitBounds op a b r → BitBounds op a b s → BitBounds op a b (hull r s)
bounds_hull And l a b r s h k = and_hull a b r s h k
bounds_hull Or l a b r s h k = or_hull a b r s h k
bounds_hull Xor l a b r s h k = xor_hull a b r s h k
bounds_hull op l a b r s h k = absurd l

-- the hull of two intervals, by its ends
pub hull_is : (r s t : Interval) → (least_end t ≡ lesser (least_end r) (least_end s)) × (greatest_end t ≡ greater (greatest_end r) (greatest_end s)) → hull (ends_of r) (ends_of s) ≡ ends_of t
hull_is r s t ends = cc

-- ---- sizes with signs

pub flip_falls : (a b : Ext) → AtMost a b → AtMost (flipped b) (flipped a)
flip_falls Low Low h = tt
flip_falls Low (Fin y) h = tt
flip_falls Low High h = tt
flip_falls (Fin x) Low h = absurd h
flip_falls (Fin x) (Fin y) h = omega (arith, ints)
flip_falls (Fin x) High h = tt
flip_falls High Low h = absurd h
flip_falls High (Fin y) h = absurd h
flip_falls High High h = tt

pub flip_twice : (a : Ext) → flipped (flipped a) ≡ a
flip_twice Low = refl
flip_twice (Fin x) = ap Fin (twice x)
  where
    twice : (x : ℤ) → negsuc 0 -ℤ (negsuc 0 -ℤ x) ≡ x
    twice x = omega (arith, ints)
flip_twice High = refl

-- what is at least 0 is turned below it, and the other way round
natural_flips : (a : Ext) → AtMost (Fin (pos 0)) a → AtMost (flipped a) (Fin (negsuc 0))
natural_flips a h = flip_falls (Fin (pos 0)) a h

minus_flips : (a : Ext) → AtMost a (Fin (negsuc 0)) → AtMost (Fin (pos 0)) (flipped a)
minus_flips a h = flip_falls a (Fin (negsuc 0)) h

natural_back : (a : Ext) → AtMost (Fin (pos 0)) (flipped a) → AtMost a (Fin (negsuc 0))
natural_back a h = subst (λ (e : Ext). AtMost e (Fin (negsuc 0))) (flip_twice a) (natural_flips (flipped a) h)

bits_up : (k : ℕ) (a : Ext) → AtMost a (Fin (pos (2 ^ k - 1))) → AtMost (Fin (negsuc (2 ^ k - 1))) (flipped a)
bits_up k Low h = tt
bits_up k (Fin n) h = omega (arith, ints)
bits_up k High h = absurd h

bits_back : (k : ℕ) (a : Ext) → AtMost (Fin (negsuc (2 ^ k - 1))) (flipped a) → AtMost a (Fin (pos (2 ^ k - 1)))
bits_back k Low h = tt
bits_back k (Fin n) h = omega (arith, ints)
bits_back k High h = absurd h

natural_has : (k : ℕ) (r : Range) → IsNatural r → AtMost r.hi (Fin (pos (2 ^ k - 1))) → HasBits k r
natural_has k r n h = record { low = AtMost_trans (Fin (negsuc (2 ^ k - 1))) (Fin (pos 0)) r.lo (below (2 ^ k - 1)) n; high = h }
  where
    below : (m : ℕ) → negsuc m ≤ℤ pos 0
    below m = omega (arith, ints)

minus_has : (k : ℕ) (r : Range) → IsMinus r → AtMost (Fin (negsuc (2 ^ k - 1))) r.lo → HasBits k r
minus_has k r m h = record { low = h; high = AtMost_trans r.hi (Fin (negsuc 0)) (Fin (pos (2 ^ k - 1))) m (above (2 ^ k - 1)) }
  where
    above : (m : ℕ) → negsuc 0 ≤ℤ pos m
    above m = omega (arith, ints)

-- an interval has numbers, so it is not natural and negative at once
one_sign : (a : Interval) → IsNatural (ends_of a) → IsMinus (ends_of a) → ⊥
one_sign a n m = never (AtMost_trans (Fin (pos 0)) (least_end a) (Fin (negsuc 0)) n (AtMost_trans (least_end a) (greatest_end a) (Fin (negsuc 0)) (ends_in_order a) m))
  where
    never : pos 0 ≤ℤ negsuc 0 → ⊥
    never h = absurd (omega (arith, ints))

-- so sizes with a minus are not natural
signed_not_natural : (a : Interval) → IsNatural (ends_of a) → IsNatural (flip_range (ends_of a)) → ⊥
signed_not_natural a n m = one_sign a n (natural_back (greatest_end a) m)

module _ (a b : Interval) (at_a : IsNatural (ends_of a)) (at_b : IsNatural (ends_of b)) where
  -- both signs plus
  pub and_plus : (r : Interval) → AndSizes a b r → AndBounds (ends_of a) (ends_of b) (ends_of r)
  and_plus r s = record {
    first = λ n. (s.natural, s.first);
    second = λ n. (s.natural, s.second);
    minus = λ m n. (s.first, s.second);
    bits = λ k p q. natural_has k (ends_of r) s.natural (AtMost_trans (greatest_end r) (greatest_end a) (Fin (pos (2 ^ k - 1))) s.first p.high);
  }

  pub or_plus : (r : Interval) → OrSizes a b r → OrBounds (ends_of a) (ends_of b) (ends_of r)
  or_plus r s = record {
    first = λ m. absurd (one_sign a at_a m);
    second = λ m. absurd (one_sign b at_b m);
    natural = λ m n. (s.first, s.second);
    bits = λ k p q. natural_has k (ends_of r) s.natural (s.bits k p.high q.high);
  }

  pub xor_plus : (r : Interval) → XorSizes a b r → XorBounds (ends_of a) (ends_of b) (ends_of r)
  xor_plus r s = record {
    natural = λ m n. s.natural;
    minus = λ m n. s.natural;
    first = λ m n. absurd (one_sign a at_a m);
    second = λ m n. absurd (one_sign b at_b n);
    bits = λ k p q. natural_has k (ends_of r) s.natural (s.bits k p.high q.high);
  }

  -- the second one minus
  pub and_without : (r : Interval) → WithoutSizes a r → AndBounds (ends_of a) (flip_range (ends_of b)) (ends_of r)
  and_without r s = record {
    first = λ n. (s.natural, s.first);
    second = λ n. absurd (signed_not_natural b at_b n);
    minus = λ m n. absurd (one_sign a at_a m);
    bits = λ k p q. natural_has k (ends_of r) s.natural (AtMost_trans (greatest_end r) (greatest_end a) (Fin (pos (2 ^ k - 1))) s.first p.high);
  }

  pub or_without : (i r : Interval) → WithoutSizes b i → IsFlipped i r → OrBounds (ends_of a) (flip_range (ends_of b)) (ends_of r)
  or_without i r s f =
      let negative : IsMinus (ends_of r) = subst (λ (e : Ext). AtMost e (Fin (negsuc 0))) (sym f.high) (natural_flips (least_end i) s.natural) in
      let low : AtMost (flipped (greatest_end b)) (least_end r) = subst (AtMost (flipped (greatest_end b))) (sym f.low) (flip_falls (greatest_end i) (greatest_end b) s.first) in
      record {
        first = λ m. absurd (one_sign a at_a m);
        second = λ m. (negative, low);
        natural = λ m n. absurd (signed_not_natural b at_b n);
        bits = λ k p q. minus_has k (ends_of r) negative (AtMost_trans (Fin (negsuc (2 ^ k - 1))) (flipped (greatest_end b)) (least_end r) q.low low);
      }

  pub xor_apart : (i r : Interval) → XorSizes a b i → IsFlipped i r → XorBounds (ends_of a) (flip_range (ends_of b)) (ends_of r)
  xor_apart i r s f =
      let negative : IsMinus (ends_of r) = subst (λ (e : Ext). AtMost e (Fin (negsuc 0))) (sym f.high) (natural_flips (least_end i) s.natural) in
      record {
        natural = λ m n. absurd (signed_not_natural b at_b n);
        minus = λ m n. absurd (one_sign a at_a m);
        first = λ m n. absurd (one_sign a at_a m);
        second = λ m n. negative;
        bits = λ k p q. minus_has k (ends_of r) negative (subst (AtMost (Fin (negsuc (2 ^ k - 1)))) (sym f.low) (bits_up k (greatest_end i) (s.bits k p.high (bits_back k (greatest_end b) q.low))));
      }

  -- both minus
  pub and_minus : (i r : Interval) → OrSizes a b i → IsFlipped i r → AndBounds (flip_range (ends_of a)) (flip_range (ends_of b)) (ends_of r)
  and_minus i r s f =
      let negative : IsMinus (ends_of r) = subst (λ (e : Ext). AtMost e (Fin (negsuc 0))) (sym f.high) (natural_flips (least_end i) s.natural) in
      record {
        first = λ n. absurd (signed_not_natural a at_a n);
        second = λ n. absurd (signed_not_natural b at_b n);
        minus = λ m n. (
          subst (λ (e : Ext). AtMost e (flipped (least_end a))) (sym f.high) (flip_falls (least_end a) (least_end i) s.first),
          subst (λ (e : Ext). AtMost e (flipped (least_end b))) (sym f.high) (flip_falls (least_end b) (least_end i) s.second),
        );
        bits = λ k p q. minus_has k (ends_of r) negative
            (subst (AtMost (Fin (negsuc (2 ^ k - 1)))) (sym f.low) (bits_up k (greatest_end i) (s.bits k (bits_back k (greatest_end a) p.low) (bits_back k (greatest_end b) q.low))));
      }

  pub or_minus : (i r : Interval) → AndSizes a b i → IsFlipped i r → OrBounds (flip_range (ends_of a)) (flip_range (ends_of b)) (ends_of r)
  or_minus i r s f =
      let negative : IsMinus (ends_of r) = subst (λ (e : Ext). AtMost e (Fin (negsuc 0))) (sym f.high) (natural_flips (least_end i) s.natural) in
      let low : AtMost (flipped (greatest_end a)) (least_end r) = subst (AtMost (flipped (greatest_end a))) (sym f.low) (flip_falls (greatest_end i) (greatest_end a) s.first) in
      record {
        first = λ m. (negative, low);
        second = λ m. (negative, subst (AtMost (flipped (greatest_end b))) (sym f.low) (flip_falls (greatest_end i) (greatest_end b) s.second));
        natural = λ m n. absurd (signed_not_natural a at_a m);
        bits = λ k p q. minus_has k (ends_of r) negative (AtMost_trans (Fin (negsuc (2 ^ k - 1))) (flipped (greatest_end a)) (least_end r) p.low low);
      }

  pub xor_minus : (r : Interval) → XorSizes a b r → XorBounds (flip_range (ends_of a)) (flip_range (ends_of b)) (ends_of r)
  xor_minus r s = record {
    natural = λ m n. s.natural;
    minus = λ m n. s.natural;
    first = λ m n. absurd (signed_not_natural b at_b n);
    second = λ m n. absurd (signed_not_natural a at_a m);
    bits = λ k p q. natural_has k (ends_of r) s.natural (s.bits k (bits_back k (greatest_end a) p.low) (bits_back k (greatest_end b) q.low));
  }

-- ---- the ends that the code makes

-- sizes hold some
not_below_zero : (a : Ext) (x : ℕ) → AtMost (Fin (pos 0)) a → Below a (negsuc x) → ⊥
not_below_zero Low x n h = n
not_below_zero (Fin y) x n h = absurd (omega (arith, ints))
not_below_zero High x n h = h

size_between : (a : Interval) → IsNatural (ends_of a) → (m : ℤ) → Below (least_end a) m → Above (greatest_end a) m → (x : ℕ) × Admits a (pos x)
size_between a n (pos x) low high = (x, (low, high))
size_between a n (negsuc x) low high = absurd (not_below_zero (least_end a) x n low)

pub some_size : (a : Interval) → IsNatural (ends_of a) → (x : ℕ) × Admits a (pos x)
some_size a n = let m = number_between (least_end a) (greatest_end a) a.holds in size_between a n m.0 m.1 m.2

-- so do the numbers -1 - n of an interval
flips_between : (i : Interval) (m : ℤ) → Below (least_end i) m → Above (greatest_end i) m → IsTrue (holds_number (flipped (greatest_end i)) (flipped (least_end i)))
flips_between i (pos m) low high = holds_number_from _ _ (negsuc m) (flipped_below (greatest_end i) m high) (flipped_above (least_end i) m low)
flips_between i (negsuc m) low high = holds_number_from _ _ (pos m) (flipped_below_back (greatest_end i) m high) (flipped_above_back (least_end i) m low)

pub flips_hold : (i : Interval) → IsTrue (holds_number (flipped (greatest_end i)) (flipped (least_end i)))
flips_hold i = let m = number_between (least_end i) (greatest_end i) i.holds in flips_between i m.0 m.1 m.2

from_natural : (r : Interval) → least_end r ≡ Fin (pos 0) → IsNatural (ends_of r)
from_natural r e = subst (AtMost (Fin (pos 0))) (sym e) (AtMost_refl (Fin (pos 0)))

pub sizes_and : (a b r : Interval) (hi : Ext) → hi ≡ lesser (greatest_end a) (greatest_end b) → (least_end r ≡ Fin (pos 0)) × (greatest_end r ≡ hi) → AndSizes a b r
sizes_and a b r hi is ends = record {
  natural = from_natural r ends.0;
  first = subst (λ (e : Ext). AtMost e (greatest_end a)) (sym (ends.1 ∙ is)) (lesser_first (greatest_end a) (greatest_end b));
  second = subst (λ (e : Ext). AtMost e (greatest_end b)) (sym (ends.1 ∙ is)) (lesser_second (greatest_end a) (greatest_end b));
}

pub sizes_without : (a r : Interval) → (least_end r ≡ Fin (pos 0)) × (greatest_end r ≡ greatest_end a) → WithoutSizes a r
sizes_without a r ends = record {
  natural = from_natural r ends.0;
  first = subst (λ (e : Ext). AtMost e (greatest_end a)) (sym ends.1) (AtMost_refl (greatest_end a));
}

under_bits : (a b m mask : Ext) (k : ℕ) → m ≡ greater a b → IsMaskAbove m mask → AtMost a (Fin (pos (2 ^ k - 1))) → AtMost b (Fin (pos (2 ^ k - 1))) → AtMost mask (Fin (pos (2 ^ k - 1)))
under_bits a b m mask k is above p q = above.least k (subst (λ (e : Ext). AtMost e (Fin (pos (2 ^ k - 1)))) (sym is) (greater_least (Fin (pos (2 ^ k - 1))) a b p q))

pub sizes_or : (a b r : Interval) (lo m mask : Ext) → IsNatural (ends_of a) → lo ≡ greater (least_end a) (least_end b) → m ≡ greater (greatest_end a) (greatest_end b) → IsMaskAbove m mask → (least_end r ≡ lo) × (greatest_end r ≡ mask) → OrSizes a b r
sizes_or a b r lo m mask n low high above ends =
    let first : AtMost (least_end a) (least_end r) = subst (AtMost (least_end a)) (sym (ends.0 ∙ low)) (greater_first (least_end a) (least_end b)) in
    record {
      natural = AtMost_trans (Fin (pos 0)) (least_end a) (least_end r) n first;
      first = first;
      second = subst (AtMost (least_end b)) (sym (ends.0 ∙ low)) (greater_second (least_end a) (least_end b));
      bits = λ k p q. subst (λ (e : Ext). AtMost e (Fin (pos (2 ^ k - 1)))) (sym ends.1) (under_bits (greatest_end a) (greatest_end b) m mask k high above p q);
    }

pub sizes_xor : (a b r : Interval) (m mask : Ext) → m ≡ greater (greatest_end a) (greatest_end b) → IsMaskAbove m mask → (least_end r ≡ Fin (pos 0)) × (greatest_end r ≡ mask) → XorSizes a b r
sizes_xor a b r m mask high above ends = record {
  natural = from_natural r ends.0;
  bits = λ k p q. subst (λ (e : Ext). AtMost e (Fin (pos (2 ^ k - 1)))) (sym ends.1) (under_bits (greatest_end a) (greatest_end b) m mask k high above p q);
}

-- ---- numbers of one sign

-- those below 0, and those from 0 up
pub sizes_below : (a part i : Interval) → (least_end part ≡ greater (least_end a) Low) × (greatest_end part ≡ lesser (greatest_end a) (Fin (negsuc 0))) → IsFlipped part i → IsSizes true a i
sizes_below a part i ends f = record {
  natural = subst (AtMost (Fin (pos 0))) (sym f.low)
      (minus_flips (greatest_end part) (subst (λ (e : Ext). AtMost e (Fin (negsuc 0))) (sym ends.1) (lesser_second (greatest_end a) (Fin (negsuc 0)))));
  within = record {
    low = subst (AtMost (least_end a)) (sym (ap flipped f.high ∙ flip_twice (least_end part) ∙ ends.0)) (greater_first (least_end a) Low);
    high = subst (λ (e : Ext). AtMost e (greatest_end a)) (sym (ap flipped f.low ∙ flip_twice (greatest_end part) ∙ ends.1)) (lesser_first (greatest_end a) (Fin (negsuc 0)));
  };
}

pub sizes_above : (a i : Interval) → (least_end i ≡ greater (least_end a) (Fin (pos 0))) × (greatest_end i ≡ lesser (greatest_end a) High) → IsSizes false a i
sizes_above a i ends = record {
  natural = subst (AtMost (Fin (pos 0))) (sym ends.0) (greater_second (least_end a) (Fin (pos 0)));
  within = record {
    low = subst (AtMost (least_end a)) (sym ends.0) (greater_first (least_end a) (Fin (pos 0)));
    high = subst (λ (e : Ext). AtMost e (greatest_end a)) (sym ends.1) (lesser_first (greatest_end a) High);
  };
}

-- an interval has a number of one sign
pub no_sizes : (a : Interval) → ((m : ℕ) → Admits a (of_sign true m) → ⊥) → ((m : ℕ) → Admits a (of_sign false m) → ⊥) → ⊥
no_sizes a below above =
    let n = number_between (least_end a) (greatest_end a) a.holds in
    by_sign n.0
    (λ m e. below m (subst (Admits a) e (n.1, n.2)))
    (λ m e. above m (subst (Admits a) e (n.1, n.2)))

-- signs that differ
pub xor_unlike : (p q : Bool) (a b i r : Interval) → IsNatural (ends_of a) → IsNatural (ends_of b) → beq p q ≡ false → XorSizes a b i → IsFlipped i r → XorBounds (signed p (ends_of a)) (signed q (ends_of b)) (ends_of r)
xor_unlike true true a b i r m n e s f = cc
xor_unlike false true a b i r m n e s f = xor_apart a b m n i r s f
xor_unlike true false a b i r m n e s f =
    let turned : XorSizes b a i = record { natural = s.natural; bits = λ k h j. s.bits k j h } in
    xor_turned (ends_of b) (flip_range (ends_of a)) (ends_of r) (xor_apart b a n m i r turned f)
xor_unlike false false a b i r m n e s f = cc
