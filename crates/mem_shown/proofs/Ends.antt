-- Numbers of a span.
use Rattle.std.proofs.Common.{◌≡◌, ◌^◌, ◌+◌, ℕ, ℤ, pos, negsuc, ◌+ℤ◌, ◌-ℤ◌, ◌*ℤ◌, ◌≤ℤ◌, ◌<ℤ◌, ◌⊎◌, inl, inr, arith, sym, subst}
use Rattle.std.specs.Prelude.{Option, Some, None, MatchOption, IfSome}
use Rattle.std.proofs.lemmas.Int.{ints, by_lt_z}
use Rattle.num_api.specs.Residues.{IsMultiple}
use Rattle.num_api.proofs.Multiples.{multiple_along, multiple_add, multiple_sub, multiple_trans}
use Rattle.c_syntax.specs.Admission.{IsInClass, IsNoMultiple, IsProperRange}
use Rattle.mem_shown.specs.declared.span.Span.{Span}
use Rattle.mem_shown.specs.Spans.{InSpan, IsSpan, IsWithin, IsLeastFrom, IsGreatestTo, IsBeside}
use Rattle.mem_shown.proofs.Matches.{both_ways, end_below, end_above}
use Rattle.mem_shown.proofs.Classes.{from_multiple, to_multiple, off_members, member_above, member_below, member_cases}

le_trans : (x y z : ℤ) → x ≤ℤ y → y ≤ℤ z → x ≤ℤ z
le_trans x y z h k = omega (arith, ints)

le_refl : (x : ℤ) → x ≤ℤ x
le_refl x = omega (arith, ints)

-- ---- the least number from n up

-- what is known of the number from which is looked
pub record IsStart (s : Span) (n start : ℤ) : Type 0 where
  pub end : IfSome s.lo (λ l. l ≤ℤ start)
  pub from : n ≤ℤ start
  pub least : (m : ℤ) → IfSome s.lo (λ l. l ≤ℤ m) → n ≤ℤ m → start ≤ℤ m

-- the first number of the class from there
pub record IsNext (s : Span) (start found : ℤ) : Type 0 where
  pub member : IsInClass s.modulus s.rem found
  pub above : start ≤ℤ found
  pub least : (m : ℤ) → IsInClass s.modulus s.rem m → start ≤ℤ m → found ≤ℤ m
  pub within : IsWithin (2 ^ 126 + 2 ^ 101) found

pub least_some : (s : Span) (n start found : ℤ) → IsStart s n start → IsNext s start found → IfSome s.hi (λ h. found ≤ℤ h) → IsLeastFrom s n found
least_some s n start found a b h = record {
  inside = record { low = end_below s.lo start found a.end b.above; high = h; member = b.member };
  from = le_trans n start found a.from b.above;
  least = λ k i l. b.least k i.member (a.least k i.low l);
  within = b.within;
}

pub least_none : (s : Span) (n start found : ℤ) → IsStart s n start → IsNext s start found → (IfSome s.hi (λ h. found ≤ℤ h) → ⊥) → (m : ℤ) → InSpan s m → n ≤ℤ m → ⊥
least_none s n start found a b h m i l = h (end_above s.hi m found i.high (b.least m i.member (a.least m i.low l)))

-- ---- the greatest number from n down

pub record IsStop (s : Span) (n stop : ℤ) : Type 0 where
  pub end : IfSome s.hi (λ h. stop ≤ℤ h)
  pub to : stop ≤ℤ n
  pub greatest : (m : ℤ) → IfSome s.hi (λ h. m ≤ℤ h) → m ≤ℤ n → m ≤ℤ stop

pub record IsLast (s : Span) (stop found : ℤ) : Type 0 where
  pub member : IsInClass s.modulus s.rem found
  pub below : found ≤ℤ stop
  pub greatest : (m : ℤ) → IsInClass s.modulus s.rem m → m ≤ℤ stop → m ≤ℤ found
  pub within : IsWithin (2 ^ 126 + 2 ^ 101) found

pub greatest_some : (s : Span) (n stop found : ℤ) → IsStop s n stop → IsLast s stop found → IfSome s.lo (λ l. l ≤ℤ found) → IsGreatestTo s n found
greatest_some s n stop found a b h = record {
  inside = record { low = h; high = end_above s.hi stop found a.end b.below; member = b.member };
  to = le_trans found stop n b.below a.to;
  greatest = λ k i l. b.greatest k i.member (a.greatest k i.high l);
  within = b.within;
}

pub greatest_none : (s : Span) (n stop found : ℤ) → IsStop s n stop → IsLast s stop found → (IfSome s.lo (λ l. l ≤ℤ found) → ⊥) → (m : ℤ) → InSpan s m → m ≤ℤ n → ⊥
greatest_none s n stop found a b h m i l = h (end_below s.lo m found i.low (b.greatest m i.member (a.greatest m i.high l)))

-- ---- one number

pub at_same : (s : Span) (n m : ℤ) → IsLeastFrom s n m → m ≡ n → (m ≡ n) × InSpan s m
at_same s n m h e = (e, h.inside)

pub at_other : (s : Span) (n m : ℤ) → IsLeastFrom s n m → (m ≡ n → ⊥) → InSpan s n → ⊥
at_other s n m h e i = e (both m n (h.least n i (le_refl n)) h.from)
  where
    both : (m n : ℤ) → m ≤ℤ n → n ≤ℤ m → m ≡ n
    both m n h k = omega (arith, ints)

pub at_none : (s : Span) (n : ℤ) → ((m : ℤ) → InSpan s m → n ≤ℤ m → ⊥) → InSpan s n → ⊥
at_none s n h i = h n i (le_refl n)

-- ---- the nearest number to 0

pub nearest_above : (s : Span) (m : ℤ) → IsLeastFrom s (pos 0) m → InSpan s m × IsWithin (2 ^ 126 + 2 ^ 101) m
nearest_above s m h = (h.inside, h.within)

pub nearest_below : (s : Span) (r : Option ℤ) → ((m : ℤ) → InSpan s m → pos 0 ≤ℤ m → ⊥) → MatchOption r ((m : ℤ) → InSpan s m → m ≤ℤ negsuc 0 → ⊥) (λ m. IsGreatestTo s (negsuc 0) m)
    → MatchOption r ((m : ℤ) → InSpan s m → ⊥) (λ m. InSpan s m × IsWithin (2 ^ 126 + 2 ^ 101) m)
nearest_below s r none h =
    both_ways r (λ below m i. by_lt_z m (pos 0) (λ l. below m i (low m l)) (λ l. none m i l)) (λ m g. (g.inside, g.within)) h
  where
    low : (m : ℤ) → m <ℤ pos 0 → m ≤ℤ negsuc 0
    low m l = omega (arith, ints)

-- ---- numbers outside of two ends

abbrev pub IsOut : ℤ → ℤ → ℤ → Type 0
IsOut lo hi m = (m <ℤ lo) ⊎ (hi <ℤ m)

pub outside_by : (s : Span) (lo hi : ℤ) (below above r : Option ℤ)
    → MatchOption below ((m : ℤ) → InSpan s m → m ≤ℤ (lo -ℤ pos 1) → ⊥) (λ m. IsGreatestTo s (lo -ℤ pos 1) m)
    → MatchOption above ((m : ℤ) → InSpan s m → (hi +ℤ pos 1) ≤ℤ m → ⊥) (λ m. IsLeastFrom s (hi +ℤ pos 1) m)
    → MatchOption r ((below ≡ None) × (above ≡ None)) (λ m. (below ≡ Some m) ⊎ (above ≡ Some m))
    → MatchOption r ((m : ℤ) → InSpan s m → IsOut lo hi m → ⊥) (λ m. InSpan s m × IsOut lo hi m)
outside_by s lo hi below above r b a h = both_ways r (λ e. none e.0 e.1) (λ m e. some m e) h
  where
    under : (m : ℤ) → m <ℤ lo → m ≤ℤ (lo -ℤ pos 1)
    under m l = omega (arith, ints)

    over : (m : ℤ) → hi <ℤ m → (hi +ℤ pos 1) ≤ℤ m
    over m l = omega (arith, ints)

    under_back : (m : ℤ) → m ≤ℤ (lo -ℤ pos 1) → m <ℤ lo
    under_back m l = omega (arith, ints)

    over_back : (m : ℤ) → (hi +ℤ pos 1) ≤ℤ m → hi <ℤ m
    over_back m l = omega (arith, ints)

    NoneBelow : Option ℤ → Type 0
    NoneBelow o = MatchOption o ((m : ℤ) → InSpan s m → m ≤ℤ (lo -ℤ pos 1) → ⊥) (λ m. IsGreatestTo s (lo -ℤ pos 1) m)

    NoneAbove : Option ℤ → Type 0
    NoneAbove o = MatchOption o ((m : ℤ) → InSpan s m → (hi +ℤ pos 1) ≤ℤ m → ⊥) (λ m. IsLeastFrom s (hi +ℤ pos 1) m)

    none : below ≡ None → above ≡ None → (m : ℤ) → InSpan s m → IsOut lo hi m → ⊥
    none e f m i (inl l) = (subst (λ (o : Option ℤ). MatchOption o ((m : ℤ) → InSpan s m → m ≤ℤ (lo -ℤ pos 1) → ⊥) (λ m. IsGreatestTo s (lo -ℤ pos 1) m)) e b) m i (under m l)
    none e f m i (inr l) = (subst (λ (o : Option ℤ). MatchOption o ((m : ℤ) → InSpan s m → (hi +ℤ pos 1) ≤ℤ m → ⊥) (λ m. IsLeastFrom s (hi +ℤ pos 1) m)) f a) m i (over m l)

    some : (m : ℤ) → (below ≡ Some m) ⊎ (above ≡ Some m) → InSpan s m × IsOut lo hi m
    some m (inl e) = let g : IsGreatestTo s (lo -ℤ pos 1) m = subst (λ (o : Option ℤ). MatchOption o ((m : ℤ) → InSpan s m → m ≤ℤ (lo -ℤ pos 1) → ⊥) (λ m. IsGreatestTo s (lo -ℤ pos 1) m)) e b in (g.inside, inl (under_back m g.to))
    some m (inr e) = let g : IsLeastFrom s (hi +ℤ pos 1) m = subst (λ (o : Option ℤ). MatchOption o ((m : ℤ) → InSpan s m → (hi +ℤ pos 1) ≤ℤ m → ⊥) (λ m. IsLeastFrom s (hi +ℤ pos 1) m)) e a in (g.inside, inr (over_back m g.from))

-- ---- the number beside one

pub beside_above : (s : Span) (n x : ℤ) → IsSpan s → InSpan s n → x ≡ n +ℤ s.modulus → IfSome s.hi (λ h. x ≤ℤ h) → InSpan s x × IsBeside s n x
beside_above s n x p i e h =
    let one : pos 1 ≤ℤ s.modulus = p.modulus_low in
    let up : n ≤ℤ x = omega (arith, ints) in
    (record { low = end_below s.lo n x i.low up; high = h; member = member_above s.modulus s.rem n x e i.member }, inl e)

pub beside_below : (s : Span) (n x : ℤ) → IsSpan s → InSpan s n → x ≡ n -ℤ s.modulus → IfSome s.lo (λ l. l ≤ℤ x) → InSpan s x × IsBeside s n x
beside_below s n x p i e h =
    let one : pos 1 ≤ℤ s.modulus = p.modulus_low in
    let down : x ≤ℤ n = omega (arith, ints) in
    (record { low = h; high = end_above s.hi n x i.high down; member = member_below s.modulus s.rem n x e i.member }, inr e)

pub beside_none : (s : Span) (n x y : ℤ) → IsSpan s → InSpan s n → x ≡ n +ℤ s.modulus → (IfSome s.hi (λ h. x ≤ℤ h) → ⊥) → y ≡ n -ℤ s.modulus → (IfSome s.lo (λ l. l ≤ℤ y) → ⊥)
    → (m : ℤ) → InSpan s m → m ≡ n
beside_none s n x y p i e h f k m j = by (member_cases s.modulus s.rem n m p.modulus_low i.member j.member)
  where
    by : (m ≡ n) ⊎ (((n +ℤ s.modulus) ≤ℤ m) ⊎ (m ≤ℤ (n -ℤ s.modulus))) → m ≡ n
    by (inl g) = g
    by (inr (inl l)) = absurd (h (end_above s.hi m x j.high (subst (λ (t : ℤ). t ≤ℤ m) (sym e) l)))
    by (inr (inr l)) = absurd (k (end_below s.lo m y j.low (subst (λ (t : ℤ). m ≤ℤ t) (sym f) l)))

-- ---- numbers that are no multiple away

-- all numbers of the span are alike where one is, and the modulus is a multiple
pub all_alike : (s : Span) (found n : ℤ) (size : ℕ) → InSpan s found → (k : ℤ) × ((found -ℤ n) ≡ (pos size *ℤ k)) → (k : ℤ) × ((s.modulus -ℤ pos 0) ≡ (pos size *ℤ k))
    → (m : ℤ) → InSpan s m → IsNoMultiple size (m -ℤ n) → ⊥
all_alike s found n size i (k, e) (j, f) m h non = non there.0 there.1
  where
    step : IsMultiple (pos size) s.modulus
    step = multiple_along (pos size) (s.modulus -ℤ pos 0) s.modulus (omega (arith, ints)) (to_multiple (pos size) (s.modulus -ℤ pos 0) j f)

    off : IsMultiple (pos size) (m -ℤ found)
    off = multiple_trans (pos size) s.modulus (m -ℤ found) step (off_members s.modulus s.rem m found h.member i.member)

    joined : (m found n : ℤ) → (m -ℤ found) +ℤ (found -ℤ n) ≡ m -ℤ n
    joined m found n = omega (arith, ints)

    there : (k : ℤ) × ((m -ℤ n) ≡ (pos size *ℤ k))
    there = from_multiple (pos size) (m -ℤ n) (multiple_along (pos size) ((m -ℤ found) +ℤ (found -ℤ n)) (m -ℤ n) (joined m found n) (multiple_add (pos size) (m -ℤ found) (found -ℤ n) off (to_multiple (pos size) (found -ℤ n) k e)))

-- the number beside one that is alike is not, where the modulus is no multiple
beside_unlike : (s : Span) (found n x : ℤ) (size : ℕ) → (k : ℤ) × ((found -ℤ n) ≡ (pos size *ℤ k)) → IsNoMultiple size (s.modulus -ℤ pos 0) → IsBeside s found x → IsNoMultiple size (x -ℤ n)
beside_unlike s found n x size (k, e) non b j f = by b
  where
    near : IsMultiple (pos size) (found -ℤ n)
    near = to_multiple (pos size) (found -ℤ n) k e

    far : IsMultiple (pos size) (x -ℤ n)
    far = to_multiple (pos size) (x -ℤ n) j f

    up : x ≡ found +ℤ s.modulus → (x -ℤ n) -ℤ (found -ℤ n) ≡ s.modulus -ℤ pos 0
    up g = omega (arith, ints)

    down : x ≡ found -ℤ s.modulus → (found -ℤ n) -ℤ (x -ℤ n) ≡ s.modulus -ℤ pos 0
    down g = omega (arith, ints)

    by : IsBeside s found x → ⊥
    by (inl g) = let c = from_multiple (pos size) (s.modulus -ℤ pos 0) (multiple_along (pos size) _ (s.modulus -ℤ pos 0) (up g) (multiple_sub (pos size) (x -ℤ n) (found -ℤ n) far near)) in non c.0 c.1
    by (inr g) = let c = from_multiple (pos size) (s.modulus -ℤ pos 0) (multiple_along (pos size) _ (s.modulus -ℤ pos 0) (down g) (multiple_sub (pos size) (found -ℤ n) (x -ℤ n) near far)) in non c.0 c.1

pub unlike_beside : (s : Span) (found n : ℤ) (size : ℕ) (r : Option ℤ) → InSpan s found → (k : ℤ) × ((found -ℤ n) ≡ (pos size *ℤ k)) → IsNoMultiple size (s.modulus -ℤ pos 0)
    → MatchOption r ((m : ℤ) → InSpan s m → m ≡ found) (λ m. InSpan s m × IsBeside s found m)
    → MatchOption r ((m : ℤ) → InSpan s m → IsNoMultiple size (m -ℤ n) → ⊥) (λ m. InSpan s m × IsNoMultiple size (m -ℤ n))
unlike_beside s found n size r i like non h =
    both_ways r (λ only m j u. subst (λ (t : ℤ). IsNoMultiple size (t -ℤ n)) (only m j) u like.0 like.1) (λ m b. (b.0, beside_unlike s found n m size like non b.1)) h

-- ---- the span of a range and a class

pub shown_span : (lo hi : Option ℤ) (modulus rem : ℤ) → IsProperRange lo hi modulus rem → pos 1 ≤ℤ modulus → IsSpan (record { lo = lo; hi = hi; modulus = modulus; rem = rem })
shown_span lo hi modulus rem p one = record {
  lo = p.lo_moderate;
  hi = p.hi_moderate;
  modulus_low = one;
  modulus_high = p.modulus_high;
  rem_low = (p.remainder one).0;
  rem_high = (p.remainder one).1;
}

pub point_span : (lo hi : Option ℤ) (modulus rem : ℤ) → IsProperRange lo hi modulus rem → IsSpan (record { lo = lo; hi = hi; modulus = pos 1; rem = pos 0 })
point_span lo hi modulus rem p = record {
  lo = p.lo_moderate;
  hi = p.hi_moderate;
  modulus_low = omega (arith, ints);
  modulus_high = omega (arith, ints);
  rem_low = omega (arith, ints);
  rem_high = omega (arith, ints);
}

-- each number is in the class of all
pub any_class : (n : ℤ) → IsInClass (pos 1) (pos 0) n
any_class n = (n, omega (arith, ints))

-- between the ends of a point there is its number alone
pub point_class : (lo hi : Option ℤ) (modulus rem n : ℤ) → IsProperRange lo hi modulus rem → modulus ≡ pos 0 → IfSome lo (λ l. l ≤ℤ n) → IfSome hi (λ h. n ≤ℤ h) → IsInClass modulus rem n
point_class lo hi modulus rem n p z l h =
    let low : rem ≤ℤ n = subst (λ (o : Option ℤ). IfSome o (λ l. l ≤ℤ n)) (p.point z).0 l in
    let high : n ≤ℤ rem = subst (λ (o : Option ℤ). IfSome o (λ h. n ≤ℤ h)) (p.point z).1 h in
    (pos 0, same low high)
  where
    same : rem ≤ℤ n → n ≤ℤ rem → n ≡ rem +ℤ (modulus *ℤ pos 0)
    same l h = omega (arith, ints)
