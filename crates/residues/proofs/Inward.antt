-- Ends that are moved inward.
use Rattle.std.proofs.Common.{◌≡◌, ◌^◌, ◌-◌, ℤ, pos, negsuc, ◌+ℤ◌, ◌-ℤ◌, ◌≤ℤ◌, ◌<ℤ◌, arith, ap, sym, refl, ◌∙◌, subst, ◌⊎◌, inl, inr, FitsSigned}
use Rattle.std.specs.Prelude.{Bool, false, IsTrue, Option, Some, None, IfSome}
use Rattle.std.specs.Int.{int_min, int_max, int_rem_euclid}
use Rattle.std.proofs.lemmas.Int.{ints, by_lt_z}
use mir.Syntax.{w128}
use Rattle.ext_int.specs.declared.Ext.{Ext}
use Rattle.ext_int.specs.declared.Ext.TheVariants.{Low, Fin, High}
use Rattle.ext_int.specs.Ext.{Below, Above, AtMost}
use Rattle.ext_int.proofs.Ends.{AtMost_refl, AtMost_trans, AtMost_antisymm, AtMost-from_below, AtMost-from_above, Below-from_at_most, Above-from_at_most, holds_number_from, number_between, lesser_mono, greater_mono}
use Rattle.num_api.specs.declared.message.Range.{Range}
use Rattle.num_api.specs.declared.message.Residue.{Residue}
use Rattle.num_api.specs.Ranges.{InRange, IsPoint, NoWider, holds_some, hull}
use Rattle.num_api.specs.Residues.{InResidue, IsResidue, IsMultiple}
use Rattle.num_api.specs.Residues.{class_of}
use Rattle.residues.specs.Laws.{next_is_member, last_is_member, next_above, last_below, next_least, last_greatest, low_by, high_by, no_low_by, no_high_by, max_first, max_second, min_first, min_second, low_inward, high_inward, moved_sound, moved_holds, inward_by, by_zero, one_number}
use Rattle.residues.specs.Inward.{next_member, last_member, inward_low, inward_high, moved_range, inward_range, HasNone, IsReduced, HasSome}
use Rattle.num_api.proofs.Multiples.{multiple_along, multiple_add, multiple_sub, self_multiple, zero_multiple, off_from_in, in_from_off, in_itself}
use Rattle.num_api.proofs.Remainders.{rem_same, rem_low, rem_high, rem_unique}

-- ---- ranges of one number

below_along : (a b : Ext) (n : ℤ) → AtMost a b → Below b n → Below a n
below_along a b n h k = Below-from_at_most a n (AtMost_trans a b (Fin n) h (AtMost-from_below b n k))

above_along : (a b : Ext) (n : ℤ) → AtMost b a → Above b n → Above a n
above_along a b n h k = Above-from_at_most a n (AtMost_trans (Fin n) b a (AtMost-from_above b n k) h)

-- a range inside that of one number, and not empty, is the same
pub point_inside : (r s : Range) (x : ℤ) → IsPoint r x → NoWider s r → IsTrue (holds_some s) → IsPoint s x
point_inside r s x p w h =
    let between = number_between s.lo s.hi h in
    let n = between.0 in
    let up_to : AtMost (Fin x) s.lo = subst (λ (e : Ext). AtMost e s.lo) p.low w.low in
    let down_to : AtMost s.hi (Fin x) = subst (λ (e : Ext). AtMost s.hi e) p.high w.high in
    let low : x ≤ℤ n = below_along (Fin x) s.lo n up_to between.1 in
    let high : n ≤ℤ x = above_along (Fin x) s.hi n down_to between.2 in
    let e : n ≡ x = le_both n x high low in
    record {
      low = AtMost_antisymm s.lo (Fin x) (AtMost-from_below s.lo x (subst (λ (t : ℤ). Below s.lo t) e between.1)) up_to;
      high = AtMost_antisymm s.hi (Fin x) down_to (AtMost-from_above s.hi x (subst (λ (t : ℤ). Above s.hi t) e between.2));
    }
  where
    le_both : (n x : ℤ) → n ≤ℤ x → x ≤ℤ n → n ≡ x
    le_both n x h k = omega (arith, ints)

pub inward_point : (c : Residue) (r : Range) (x : ℤ) → pos 0 ≤ℤ c.modulus → IsPoint r x → IsPoint (inward_range c r) x
inward_point c r x h p =
    inward_by (λ s. IsPoint s x) c r
    (λ e. point_inside r (moved_range c r) x p (record { low = low_inward c r.lo h; high = high_inward c r.hi h }) e)
    (λ e. p)

-- a range that moved holds a number
pub inward_holds : (c : Residue) (r : Range) → (inward_range c r ≡ r → ⊥) → IsTrue (holds_some (inward_range c r))
inward_holds c r = inward_by (λ s. (s ≡ r → ⊥) → IsTrue (holds_some s)) c r (λ e k. e) (λ e k. absurd (k refl))

-- ---- each end that is a number is in the class

fin_same : (x y : ℤ) → Fin x ≡ Fin y → x ≡ y
fin_same x y e = cc

low_is_none : (y : ℤ) → Low ≡ Fin y → ⊥
low_is_none y e = cc

high_is_none : (y : ℤ) → High ≡ Fin y → ⊥
high_is_none y e = cc

too_high : (m : ℤ) → FitsSigned w128 m → pos (2 ^ 127 - 1) <ℤ m → ⊥
too_high m f h = omega (arith, ints)

too_low : (m : ℤ) → FitsSigned w128 m → m <ℤ negsuc (2 ^ 127 - 1) → ⊥
too_low m f h = omega (arith, ints)

lt_le : (x y z : ℤ) → x <ℤ y → y ≤ℤ z → x <ℤ z
lt_le x y z h k = omega (arith, ints)

le_lt : (x y z : ℤ) → x ≤ℤ y → y <ℤ z → x <ℤ z
le_lt x y z h k = omega (arith, ints)

never : (x y : ℤ) → x <ℤ y → y ≤ℤ x → ⊥
never x y h k = omega (arith, ints)

max_is_second : (x y : ℤ) → x ≤ℤ y → int_max x y ≡ y
max_is_second x y h = grind (arith, ints)

min_is_second : (x y : ℤ) → y ≤ℤ x → int_min x y ≡ y
min_is_second x y h = grind (arith, ints)

le_trans : (x y z : ℤ) → x ≤ℤ y → y ≤ℤ z → x ≤ℤ z
le_trans x y z h k = omega (arith, ints)

reduced_low : (c : Residue) (r : Range) (n : ℤ) → pos 0 ≤ℤ c.modulus → (a : Ext) → inward_low c a ≡ Fin n → ((m : ℤ) → InRange r m → n ≤ℤ m) → InResidue c n ⊎ HasNone r c
reduced_low c r n h Low q floor =
    no_low_by (λ e. e ≡ Fin n → InResidue c n ⊎ HasNone r c) c h
    (λ i e. inl (subst (λ (t : ℤ). InResidue c t) (fin_same c.rem n e) (in_itself c.rem c.modulus)))
    (λ i e. absurd (low_is_none n e)) q
reduced_low c r n h (Fin a) q floor =
    low_by (λ e. e ≡ Fin n → InResidue c n ⊎ HasNone r c) c a h
    (λ i e. by_lt_z c.rem a
    (λ u. inr (λ m inside fits member.
    let rest : m ≡ c.rem = one_number c m i member in
    let least : int_max a c.rem ≤ℤ m = subst (λ (t : ℤ). t ≤ℤ m) (sym (fin_same (int_max a c.rem) n e)) (floor m inside) in
    never c.rem a u (le_trans a (int_max a c.rem) c.rem (max_first a c.rem) (subst (λ (t : ℤ). int_max a c.rem ≤ℤ t) rest least))))
    (λ u. inl (subst (λ (t : ℤ). InResidue c t) (sym (max_is_second a c.rem u) ∙ fin_same (int_max a c.rem) n e) (in_itself c.rem c.modulus))))
    (λ i j e. inl (subst (λ (t : ℤ). InResidue c t) (fin_same (next_member c a) n e) (next_is_member c i a)))
    (λ i j e. inr (λ m inside fits member.
    too_high m fits (lt_le _ (next_member c a) m j (next_least c i a m (subst (λ (t : ℤ). t ≤ℤ m) (sym (fin_same a n e)) (floor m inside)) member))))
    q
reduced_low c r n h High q floor = absurd (high_is_none n q)

reduced_high : (c : Residue) (r : Range) (n : ℤ) → pos 0 ≤ℤ c.modulus → (a : Ext) → inward_high c a ≡ Fin n → ((m : ℤ) → InRange r m → m ≤ℤ n) → InResidue c n ⊎ HasNone r c
reduced_high c r n h Low q ceiling = absurd (low_is_none n q)
reduced_high c r n h (Fin a) q ceiling =
    high_by (λ e. e ≡ Fin n → InResidue c n ⊎ HasNone r c) c a h
    (λ i e. by_lt_z a c.rem
    (λ u. inr (λ m inside fits member.
    let rest : m ≡ c.rem = one_number c m i member in
    let most : m ≤ℤ int_min a c.rem = subst (λ (t : ℤ). m ≤ℤ t) (sym (fin_same (int_min a c.rem) n e)) (ceiling m inside) in
    never a c.rem u (le_trans c.rem (int_min a c.rem) a (subst (λ (t : ℤ). t ≤ℤ int_min a c.rem) rest most) (min_first a c.rem))))
    (λ u. inl (subst (λ (t : ℤ). InResidue c t) (sym (min_is_second a c.rem u) ∙ fin_same (int_min a c.rem) n e) (in_itself c.rem c.modulus))))
    (λ i j e. inl (subst (λ (t : ℤ). InResidue c t) (fin_same (last_member c a) n e) (last_is_member c i a)))
    (λ i j e. inr (λ m inside fits member.
    too_low m fits (le_lt m (last_member c a) _ (last_greatest c i a m (subst (λ (t : ℤ). m ≤ℤ t) (sym (fin_same a n e)) (ceiling m inside)) member) j)))
    q
reduced_high c r n h High q ceiling =
    no_high_by (λ e. e ≡ Fin n → InResidue c n ⊎ HasNone r c) c h
    (λ i e. inl (subst (λ (t : ℤ). InResidue c t) (fin_same c.rem n e) (in_itself c.rem c.modulus)))
    (λ i e. absurd (high_is_none n e)) q

pub inward_reduced : (c : Residue) (r : Range) → pos 0 ≤ℤ c.modulus → IsReduced (inward_range c r) c
inward_reduced c r h = inward_by (λ s. IsReduced s c) c r
    (λ e. record {
      low = λ n q. reduced_low c (moved_range c r) n h r.lo q (λ m inside. subst (λ (t : Ext). Below t m) q inside.low);
      high = λ n q. reduced_high c (moved_range c r) n h r.hi q (λ m inside. subst (λ (t : Ext). Above t m) q inside.high);
    })
    (λ e. let none : HasNone r c = λ m inside fits member. clash (holds_some (moved_range c r)) (moved_holds c r m h inside member) e in record { low = λ n q. inr none; high = λ n q. inr none })
  where
    clash : (b : Bool) → IsTrue b → b ≡ false → ⊥
    clash b u v = cc

-- ---- a range that moved to hold a number has a number of the class

zero_low : (c : Residue) (a : Ext) (n : ℤ) → pos 0 ≤ℤ c.modulus → c.modulus ≡ pos 0 → Below (inward_low c a) n → c.rem ≤ℤ n
zero_low c Low n h z = no_low_by (λ e. Below e n → c.rem ≤ℤ n) c h (λ i k. k) (λ i k. absurd (never_zero c.modulus i z))
  where
    never_zero : (m : ℤ) → pos 1 ≤ℤ m → m ≡ pos 0 → ⊥
    never_zero m h e = omega (arith, ints)
zero_low c (Fin a) n h z = low_by (λ e. Below e n → c.rem ≤ℤ n) c a h (λ i k. le_trans c.rem (int_max a c.rem) n (max_second a c.rem) k) (λ i j k. absurd (never_zero c.modulus i z)) (λ i j k. absurd (never_zero c.modulus i z))
  where
    never_zero : (m : ℤ) → pos 1 ≤ℤ m → m ≡ pos 0 → ⊥
    never_zero m h e = omega (arith, ints)
zero_low c High n h z = λ k. absurd k

zero_high : (c : Residue) (a : Ext) (n : ℤ) → pos 0 ≤ℤ c.modulus → c.modulus ≡ pos 0 → Above (inward_high c a) n → n ≤ℤ c.rem
zero_high c Low n h z = λ k. absurd k
zero_high c (Fin a) n h z = high_by (λ e. Above e n → n ≤ℤ c.rem) c a h (λ i k. le_trans n (int_min a c.rem) c.rem k (min_second a c.rem)) (λ i j k. absurd (never_zero c.modulus i z)) (λ i j k. absurd (never_zero c.modulus i z))
  where
    never_zero : (m : ℤ) → pos 1 ≤ℤ m → m ≡ pos 0 → ⊥
    never_zero m h e = omega (arith, ints)
zero_high c High n h z = no_high_by (λ e. Above e n → n ≤ℤ c.rem) c h (λ i k. k) (λ i k. absurd (never_zero c.modulus i z))
  where
    never_zero : (m : ℤ) → pos 1 ≤ℤ m → m ≡ pos 0 → ⊥
    never_zero m h e = omega (arith, ints)

-- two neighbours of a class are no further apart than its modulus
neighbours : (c : Residue) (k h : ℤ) → pos 1 ≤ℤ c.modulus → k ≤ℤ h → next_member c k ≤ℤ (last_member c h +ℤ c.modulus)
neighbours c k h one le =
    let next = next_member c k in
    let before = next -ℤ c.modulus in
    let member : InResidue c before = in_from_off c.rem c.modulus before (multiple_along c.modulus ((next -ℤ c.rem) -ℤ c.modulus) _ (turned next c.rem c.modulus) (multiple_sub c.modulus (next -ℤ c.rem) c.modulus (off_from_in c.rem c.modulus next (next_is_member c one k)) (self_multiple c.modulus))) in
    by_lt_z before k
    (λ u. add_back next c.modulus (last_member c h) (last_greatest c one h before (lt_to_le before k h u le) member))
    (λ u. absurd (shorter next c.modulus one (next_least c one k before u member)))
  where
    turned : (n a m : ℤ) → (n -ℤ a) -ℤ m ≡ (n -ℤ m) -ℤ a
    turned n a m = omega (arith, ints)

    add_back : (n m l : ℤ) → (n -ℤ m) ≤ℤ l → n ≤ℤ (l +ℤ m)
    add_back n m l p = omega (arith, ints)

    lt_to_le : (b k h : ℤ) → b <ℤ k → k ≤ℤ h → b ≤ℤ h
    lt_to_le b k h p q = omega (arith, ints)

    shorter : (n m : ℤ) → pos 1 ≤ℤ m → n ≤ℤ (n -ℤ m) → ⊥
    shorter n m p q = omega (arith, ints)

has_by : (c : Residue) (r : Range) (m : ℤ) → pos 0 ≤ℤ c.modulus → InRange r m → InResidue c m → HasSome (moved_range c r) c
has_by c r m h inside member = (m, moved_sound c r m h inside member, member)

some_between : (c : Residue) (lo hi : Ext) (n : ℤ) → IsResidue c → pos 1 ≤ℤ c.modulus → Below (inward_low c lo) n → Above (inward_high c hi) n → HasSome (moved_range c (record { lo = lo; hi = hi })) c
some_between c High hi n p one low high = absurd low
some_between c Low Low n p one low high = absurd high
some_between c (Fin k) Low n p one low high = absurd high
some_between c Low High n p one low high = has_by c (record { lo = Low; hi = High }) c.rem p.not_negative (record { low = tt; high = tt }) (in_itself c.rem c.modulus)
some_between c Low (Fin h) n p one low high = has_by c (record { lo = Low; hi = Fin h }) (last_member c h) p.not_negative (record { low = tt; high = last_below c one h }) (last_is_member c one h)
some_between c (Fin k) High n p one low high = has_by c (record { lo = Fin k; hi = High }) (next_member c k) p.not_negative (record { low = next_above c one k; high = tt }) (next_is_member c one k)
some_between c (Fin k) (Fin h) n p one low high =
    let from_k : k ≤ℤ n = below_along (Fin k) (inward_low c (Fin k)) n (low_inward c (Fin k) p.not_negative) low in
    let to_h : n ≤ℤ h = above_along (Fin h) (inward_high c (Fin h)) n (high_inward c (Fin h) p.not_negative) high in
    let S = HasSome (moved_range c (record { lo = Fin k; hi = Fin h })) c in
    low_by (λ e. Below e n → S) c k p.not_negative
    (λ i b. absurd (never_zero c.modulus one i))
    (λ i j b. has_by c (record { lo = Fin k; hi = Fin h }) (next_member c k) p.not_negative (record { low = next_above c one k; high = le_trans (next_member c k) n h b to_h }) (next_is_member c one k))
    (λ i j b. high_by (λ e. Above e n → S) c h p.not_negative
    (λ u a. absurd (never_zero c.modulus one u))
    (λ u v a. has_by c (record { lo = Fin k; hi = Fin h }) (last_member c h) p.not_negative (record { low = le_trans k n (last_member c h) from_k a; high = last_below c one h }) (last_is_member c one h))
    (λ u v a. absurd (too_wide (next_member c k) (last_member c h) c.modulus (neighbours c k h one (le_trans k n h from_k to_h)) j v p.bounded))
    high)
    low
  where
    never_zero : (m : ℤ) → pos 1 ≤ℤ m → m ≡ pos 0 → ⊥
    never_zero m h e = omega (arith, ints)

    too_wide : (x y m : ℤ) → x ≤ℤ (y +ℤ m) → pos (2 ^ 127 - 1) <ℤ x → y <ℤ negsuc (2 ^ 127 - 1) → m ≤ℤ pos (2 ^ 100) → ⊥
    too_wide x y m h i j k = omega (arith, ints)

pub moved_has_some : (c : Residue) (r : Range) → IsResidue c → IsTrue (holds_some (moved_range c r)) → HasSome (moved_range c r) c
moved_has_some c r p h =
    let between = number_between (inward_low c r.lo) (inward_high c r.hi) h in
    by_zero c.modulus p.not_negative
    (λ one. some_between c r.lo r.hi between.0 p one between.1 between.2)
    (λ z.
    let low = zero_low c r.lo between.0 p.not_negative z between.1 in
    let high = zero_high c r.hi between.0 p.not_negative z between.2 in
    (between.0, record { low = between.1; high = between.2 }, subst (λ (t : ℤ). InResidue c t) (le_both c.rem between.0 low high) (in_itself c.rem c.modulus)))
  where
    le_both : (n x : ℤ) → n ≤ℤ x → x ≤ℤ n → n ≡ x
    le_both n x h k = omega (arith, ints)

pub inward_has_some : (c : Residue) (r : Range) → IsResidue c → IsTrue (holds_some (moved_range c r)) → HasSome (inward_range c r) c
inward_has_some c r p h = inward_by (λ s. HasSome s c) c r (λ e. moved_has_some c r p h) (λ e. absurd (clash (holds_some (moved_range c r)) h e))
  where
    clash : (b : Bool) → IsTrue b → b ≡ false → ⊥
    clash b u v = cc

-- a range with a number holds one
pub holds_from_some : (c : Residue) (r : Range) → HasSome r c → IsTrue (holds_some r)
holds_from_some c r (m, inside, member) = holds_number_from r.lo r.hi m inside.low inside.high

-- ---- as the code finds them

-- numbers that differ by a multiple of the modulus have the same remainder
rem_along : (m a b : ℤ) → pos 1 ≤ℤ m → IsMultiple m (a -ℤ b) → int_rem_euclid a m ≡ int_rem_euclid b m
rem_along m a b one h =
    let r = int_rem_euclid b m in
    rem_unique a m r one (in_from_off r m a (multiple_along m ((a -ℤ b) +ℤ (b -ℤ r)) (a -ℤ r) (joined a b r) (multiple_add m (a -ℤ b) (b -ℤ r) h (off_from_in r m b (rem_same b m one))))) (rem_low b m one) (rem_high b m one)
  where
    joined : (a b r : ℤ) → (a -ℤ b) +ℤ (b -ℤ r) ≡ a -ℤ r
    joined a b r = omega (arith, ints)

pub gap_up : (c : Residue) (n s : ℤ) → pos 1 ≤ℤ c.modulus → InResidue (class_of s c.modulus) n → int_rem_euclid (c.rem -ℤ s) c.modulus ≡ int_rem_euclid (c.rem -ℤ n) c.modulus
gap_up c n s one h = rem_along c.modulus (c.rem -ℤ s) (c.rem -ℤ n) one (multiple_along c.modulus (n -ℤ s) _ (crossed c.rem n s) (off_from_in s c.modulus n h))
  where
    crossed : (a n s : ℤ) → n -ℤ s ≡ (a -ℤ s) -ℤ (a -ℤ n)
    crossed a n s = omega (arith, ints)

pub gap_down : (c : Residue) (n s : ℤ) → pos 1 ≤ℤ c.modulus → InResidue (class_of s c.modulus) n → int_rem_euclid (s -ℤ c.rem) c.modulus ≡ int_rem_euclid (n -ℤ c.rem) c.modulus
gap_down c n s one h = rem_along c.modulus (s -ℤ c.rem) (n -ℤ c.rem) one (multiple_along c.modulus (pos 0 -ℤ (n -ℤ s)) _ (crossed c.rem n s) (multiple_sub c.modulus (pos 0) (n -ℤ s) (zero_multiple c.modulus) (off_from_in s c.modulus n h)))
  where
    crossed : (a n s : ℤ) → pos 0 -ℤ (n -ℤ s) ≡ (s -ℤ a) -ℤ (n -ℤ a)
    crossed a n s = omega (arith, ints)

not_zero : (m : ℤ) → pos 1 ≤ℤ m → m ≡ pos 0 → ⊥
not_zero m h e = omega (arith, ints)

from_one : (m : ℤ) → pos 1 ≤ℤ m → pos 0 ≤ℤ m
from_one m h = omega (arith, ints)

pub low_is_next : (c : Residue) (n member : ℤ) → pos 1 ≤ℤ c.modulus → member ≡ next_member c n → FitsSigned w128 member → Fin member ≡ inward_low c (Fin n)
low_is_next c n member one e f = low_by (λ t. Fin member ≡ t) c n (from_one c.modulus one)
    (λ i. absurd (not_zero c.modulus one i))
    (λ i j. ap Fin e)
    (λ i j. absurd (too_high member f (subst (λ (t : ℤ). pos (2 ^ 127 - 1) <ℤ t) (sym e) j)))

pub low_stays : (c : Residue) (n : ℤ) → pos 1 ≤ℤ c.modulus → FitsSigned w128 n → (FitsSigned w128 (next_member c n) → ⊥) → Fin n ≡ inward_low c (Fin n)
low_stays c n one f h = low_by (λ t. Fin n ≡ t) c n (from_one c.modulus one)
    (λ i. absurd (not_zero c.modulus one i))
    (λ i j. absurd (h (fits n (next_member c n) f (next_above c one n) j)))
    (λ i j. refl)
  where
    fits : (n m : ℤ) → FitsSigned w128 n → n ≤ℤ m → m ≤ℤ pos (2 ^ 127 - 1) → FitsSigned w128 m
    fits n m f h k = omega (arith, ints)

pub high_is_last : (c : Residue) (n member : ℤ) → pos 1 ≤ℤ c.modulus → member ≡ last_member c n → FitsSigned w128 member → Fin member ≡ inward_high c (Fin n)
high_is_last c n member one e f = high_by (λ t. Fin member ≡ t) c n (from_one c.modulus one)
    (λ i. absurd (not_zero c.modulus one i))
    (λ i j. ap Fin e)
    (λ i j. absurd (too_low member f (subst (λ (t : ℤ). t <ℤ negsuc (2 ^ 127 - 1)) (sym e) j)))

pub high_stays : (c : Residue) (n : ℤ) → pos 1 ≤ℤ c.modulus → FitsSigned w128 n → (FitsSigned w128 (last_member c n) → ⊥) → Fin n ≡ inward_high c (Fin n)
high_stays c n one f h = high_by (λ t. Fin n ≡ t) c n (from_one c.modulus one)
    (λ i. absurd (not_zero c.modulus one i))
    (λ i j. absurd (h (fits n (last_member c n) f (last_below c one n) j)))
    (λ i j. refl)
  where
    fits : (n m : ℤ) → FitsSigned w128 n → m ≤ℤ n → negsuc (2 ^ 127 - 1) ≤ℤ m → FitsSigned w128 m
    fits n m f h k = omega (arith, ints)

pub rest_fits : (x y m : ℤ) → pos 0 ≤ℤ x → x <ℤ m → pos 0 ≤ℤ y → y <ℤ m → m ≤ℤ pos (2 ^ 100) → FitsSigned w128 (x -ℤ y)
rest_fits x y m a b c d e = omega (arith, ints)

-- ---- ranges inside ranges

pub no_wider_trans : (r s t : Range) → NoWider r s → NoWider s t → NoWider r t
no_wider_trans r s t h k = record { low = AtMost_trans t.lo s.lo r.lo k.low h.low; high = AtMost_trans r.hi s.hi t.hi h.high k.high }

-- a range that moved holds a number, so it can't hold none
pub moved_not_empty : (c : Residue) (r : Range) → (inward_range c r ≡ r → ⊥) → ((n : ℤ) → InRange (inward_range c r) n → ⊥) → ⊥
moved_not_empty c r h none = let between = number_between (inward_range c r).lo (inward_range c r).hi (inward_holds c r h) in none between.0 (record { low = between.1; high = between.2 })

-- the hull of narrower ranges is no wider
pub hull_no_wider : (a b r s : Range) → NoWider a r → NoWider b s → NoWider (hull a b) (hull r s)
hull_no_wider a b r s h k = record { low = lesser_mono r.lo s.lo a.lo b.lo h.low k.low; high = greater_mono a.hi b.hi r.hi s.hi h.high k.high }

-- what holds where a value is there
pub if_some_map : {A : Type 0} (P Q : A → Type 0) (o : Option A) → ((a : A) → P a → Q a) → IfSome o P → IfSome o Q
if_some_map P Q None f h = tt
if_some_map P Q (Some a) f h = f a h

-- ---- a range that has all numbers of another one and is no wider

low_at_most : (a b hi : Ext) (m : ℤ) → Below a m → Above hi m → ((n : ℤ) → Below a n → Above hi n → Below b n) → AtMost b a
low_at_most (Fin l) b hi m h k all = AtMost-from_below b l (all l (AtMost_refl (Fin l)) (above_less hi l m h k))
  where
    above_less : (e : Ext) (n m : ℤ) → n ≤ℤ m → Above e m → Above e n
    above_less Low n m i j = j
    above_less (Fin x) n m i j = le_trans n m x i j
    above_less High n m i j = tt
low_at_most High b hi m h k all = absurd h
low_at_most Low Low hi m h k all = tt
low_at_most Low (Fin x) hi m h k all = absurd (never_below x m (all (int_min (x -ℤ pos 1) m) tt (above_less hi (int_min (x -ℤ pos 1) m) m (min_second (x -ℤ pos 1) m) k)))
  where
    above_less : (e : Ext) (n m : ℤ) → n ≤ℤ m → Above e m → Above e n
    above_less Low n m i j = j
    above_less (Fin x) n m i j = le_trans n m x i j
    above_less High n m i j = tt

    never_below : (x m : ℤ) → x ≤ℤ int_min (x -ℤ pos 1) m → ⊥
    never_below x m u = let v = min_first (x -ℤ pos 1) m in omega (arith, ints)
low_at_most Low High hi m h k all = all m h k

high_at_most : (a b lo : Ext) (m : ℤ) → Above a m → Below lo m → ((n : ℤ) → Above a n → Below lo n → Above b n) → AtMost a b
high_at_most (Fin l) b lo m h k all = AtMost-from_above b l (all l (AtMost_refl (Fin l)) (below_more lo l m h k))
  where
    below_more : (e : Ext) (n m : ℤ) → m ≤ℤ n → Below e m → Below e n
    below_more Low n m i j = tt
    below_more (Fin x) n m i j = le_trans x m n j i
    below_more High n m i j = j
high_at_most Low b lo m h k all = absurd h
high_at_most High High lo m h k all = tt
high_at_most High (Fin x) lo m h k all = absurd (never_above x m (all (int_max (x +ℤ pos 1) m) tt (below_more lo (int_max (x +ℤ pos 1) m) m (max_second (x +ℤ pos 1) m) k)))
  where
    below_more : (e : Ext) (n m : ℤ) → m ≤ℤ n → Below e m → Below e n
    below_more Low n m i j = tt
    below_more (Fin x) n m i j = le_trans x m n j i
    below_more High n m i j = j

    never_above : (x m : ℤ) → int_max (x +ℤ pos 1) m ≤ℤ x → ⊥
    never_above x m u = let v = max_first (x +ℤ pos 1) m in omega (arith, ints)
high_at_most High Low lo m h k all = all m h k

pub same_range : (r s : Range) → NoWider s r → ((n : ℤ) → InRange r n → InRange s n) → IsTrue (holds_some r) → s ≡ r
same_range r s w all h =
    let between = number_between r.lo r.hi h in
    let low = AtMost_antisymm s.lo r.lo (low_at_most r.lo s.lo r.hi between.0 between.1 between.2 (λ n i j. (all n (record { low = i; high = j })).low)) w.low in
    let high = AtMost_antisymm s.hi r.hi w.high (high_at_most r.hi s.hi r.lo between.0 between.2 between.1 (λ n i j. (all n (record { low = j; high = i })).high)) in
    ap (λ (e : Ext). let t : Range = record { lo = e; hi = s.hi } in t) low ∙ ap (λ (e : Ext). let t : Range = record { lo = r.lo; hi = e } in t) high

pub no_wider_itself : (r s : Range) → r ≡ s → NoWider r s
no_wider_itself r s e = subst (λ (x : Range). NoWider r x) e (record { low = AtMost_refl r.lo; high = AtMost_refl r.hi })

pub point_along : (r s : Range) (x : ℤ) → r ≡ s → IsPoint s x → IsPoint r x
point_along r s x e h = subst (λ (t : Range). IsPoint t x) (sym e) h
