-- The laws of value domains at classes and pairs that are no clause of a call: what is known of a value holds its numbers. Ends that are
-- moved inward to the nearest numbers of a class go inward, and lose none of them.
use Rattle.std.proofs.Common.{◌≡◌, zero, suc, ◌^◌, ◌-◌, ℤ, pos, negsuc, ◌+ℤ◌, ◌-ℤ◌, ◌*ℤ◌, ◌≤ℤ◌, ◌<ℤ◌, arith, sym, refl, ◌∙◌, subst}
use Rattle.std.specs.Prelude.{Bool, true, false, IsTrue, if◌then◌else◌}
use Rattle.std.specs.Int.{int_min, int_max, int_rem_euclid}
use Rattle.std.specs.Int.RustNames.{int_le, int_lt}
use Rattle.std.specs.Ordering.{int_eq}
use Rattle.std.proofs.lemmas.Int.{ints, by_lt_z}
use Rattle.std.proofs.lemmas.Bool.{true≢false}
use Rattle.std.proofs.lemmas.Bool.Decides.{Decides-int_eq}
use Rattle.std.proofs.Math.IntN.{*ℤ-zero}
use Rattle.ext_int.specs.declared.Ext.{Ext}
use Rattle.ext_int.specs.declared.Ext.TheVariants.{Low, Fin, High}
use Rattle.ext_int.specs.Ext.{Below, Above, AtMost}
use Rattle.ext_int.proofs.Ends.{AtMost_refl, holds_number_from, int_le-true, le-from_int_le}
use Rattle.num_api.specs.declared.message.Range.{Range}
use Rattle.num_api.specs.declared.message.Residue.{Residue}
use Rattle.num_api.specs.Ranges.{InRange, NoWider, holds_some}
use Rattle.num_api.specs.Residues.{class_of, InResidue, IsResidue}
use Rattle.num_api.proofs.Multiples.{multiple_along, multiple_add, multiple_sub, zero_multiple, off_from_in, in_from_off}
use Rattle.num_api.proofs.Remainders.{rem_same, rem_low, rem_high, rem_unique}
use Rattle.residues.specs.Class.{range_of_class}
use Rattle.residues.specs.Inward.{next_member, last_member, inward_low, inward_high, moved_range, inward_range}

-- ---- a modulus of 0, and one above it

pub by_zero : {P : Type 0} (m : ℤ) → pos 0 ≤ℤ m → (pos 1 ≤ℤ m → P) → (m ≡ pos 0 → P) → P
by_zero (pos zero) h f g = g refl
by_zero (pos (suc n)) h f g = f (omega (arith, ints))
by_zero (negsuc n) h f g = absurd (omega (arith, ints))

pub test_zero : {A : Type 0} (m : ℤ) (u v : A) → m ≡ pos 0 → (if int_eq m (pos 0) then u else v) ≡ u
test_zero m u v e = rw e refl

pub test_positive : {A : Type 0} (m : ℤ) (u v : A) → pos 1 ≤ℤ m → (if int_eq m (pos 0) then u else v) ≡ v
test_positive {A} m u v h = by (int_eq m (pos 0)) refl
  where
    by : (t : Bool) → int_eq m (pos 0) ≡ t → (if t then u else v) ≡ v
    by true e = let zero : m ≡ pos 0 = (Decides-int_eq m (pos 0)).0 e in absurd (omega (arith, ints))
    by false e = refl

pub one_number : (r : Residue) (x : ℤ) → r.modulus ≡ pos 0 → InResidue r x → x ≡ r.rem
one_number r x i (k, e) = let z : k *ℤ r.modulus ≡ pos 0 = rw i (*ℤ-zero k) in omega (arith, ints)

-- ---- the nearest members

-- a remainder of a number that is not negative is not above it
rem_at_most : (n m : ℤ) → pos 0 ≤ℤ n → pos 1 ≤ℤ m → int_rem_euclid n m ≤ℤ n
rem_at_most (pos n) (pos zero) h k = absurd (omega (arith, ints))
rem_at_most (pos n) (pos (suc m)) h k = omega (arith, ints)
rem_at_most (pos n) (negsuc m) h k = absurd (omega (arith, ints))
rem_at_most (negsuc n) m h k = absurd (omega (arith, ints))

module _ (c : Residue) (one : pos 1 ≤ℤ c.modulus) where
  pub next_is_member : (n : ℤ) → InResidue c (next_member c n)
  next_is_member n =
      let r = int_rem_euclid (c.rem -ℤ n) c.modulus in
      let off = off_from_in r c.modulus (c.rem -ℤ n) (rem_same (c.rem -ℤ n) c.modulus one) in
      in_from_off c.rem c.modulus (n +ℤ r)
      (multiple_along c.modulus (pos 0 -ℤ ((c.rem -ℤ n) -ℤ r)) _ (turned c.rem n r)
      (multiple_sub c.modulus (pos 0) ((c.rem -ℤ n) -ℤ r) (zero_multiple c.modulus) off))
    where
      turned : (a n r : ℤ) → pos 0 -ℤ ((a -ℤ n) -ℤ r) ≡ (n +ℤ r) -ℤ a
      turned a n r = omega (arith, ints)

  pub last_is_member : (n : ℤ) → InResidue c (last_member c n)
  last_is_member n =
      let r = int_rem_euclid (n -ℤ c.rem) c.modulus in
      let off = off_from_in r c.modulus (n -ℤ c.rem) (rem_same (n -ℤ c.rem) c.modulus one) in
      in_from_off c.rem c.modulus (n -ℤ r) (multiple_along c.modulus ((n -ℤ c.rem) -ℤ r) _ (turned n c.rem r) off)
    where
      turned : (n a r : ℤ) → (n -ℤ a) -ℤ r ≡ (n -ℤ r) -ℤ a
      turned n a r = omega (arith, ints)

  pub next_above : (n : ℤ) → n ≤ℤ next_member c n
  next_above n = let h = rem_low (c.rem -ℤ n) c.modulus one in above n (int_rem_euclid (c.rem -ℤ n) c.modulus) h
    where
      above : (n r : ℤ) → pos 0 ≤ℤ r → n ≤ℤ (n +ℤ r)
      above n r h = omega (arith, ints)

  pub last_below : (n : ℤ) → last_member c n ≤ℤ n
  last_below n = let h = rem_low (n -ℤ c.rem) c.modulus one in below n (int_rem_euclid (n -ℤ c.rem) c.modulus) h
    where
      below : (n r : ℤ) → pos 0 ≤ℤ r → (n -ℤ r) ≤ℤ n
      below n r h = omega (arith, ints)

  -- no member from n up is below the next one
  pub next_least : (n m : ℤ) → n ≤ℤ m → InResidue c m → next_member c n ≤ℤ m
  next_least n m h k =
      let r = int_rem_euclid (m -ℤ n) c.modulus in
      let same : InResidue (class_of r c.modulus) (c.rem -ℤ n) =
      in_from_off r c.modulus (c.rem -ℤ n)
      (multiple_along c.modulus (((m -ℤ n) -ℤ r) -ℤ (m -ℤ c.rem)) _ (turned m n r c.rem)
      (multiple_sub c.modulus ((m -ℤ n) -ℤ r) (m -ℤ c.rem) (off_from_in r c.modulus (m -ℤ n) (rem_same (m -ℤ n) c.modulus one))
      (off_from_in c.rem c.modulus m k))) in
      let e : int_rem_euclid (c.rem -ℤ n) c.modulus
      ≡ r = rem_unique (c.rem -ℤ n) c.modulus r one same (rem_low (m -ℤ n) c.modulus one) (rem_high (m -ℤ n) c.modulus one) in
      let f = rem_at_most (m -ℤ n) c.modulus (omega (arith, ints)) one in
      subst (λ (t : ℤ). (n +ℤ t) ≤ℤ m) (sym e) (within n m r f)
    where
      turned : (m n r a : ℤ) → ((m -ℤ n) -ℤ r) -ℤ (m -ℤ a) ≡ (a -ℤ n) -ℤ r
      turned m n r a = omega (arith, ints)

      within : (n m r : ℤ) → r ≤ℤ (m -ℤ n) → (n +ℤ r) ≤ℤ m
      within n m r h = omega (arith, ints)

  pub last_greatest : (n m : ℤ) → m ≤ℤ n → InResidue c m → m ≤ℤ last_member c n
  last_greatest n m h k =
      let r = int_rem_euclid (n -ℤ m) c.modulus in
      let same : InResidue (class_of r c.modulus) (n -ℤ c.rem) =
      in_from_off r c.modulus (n -ℤ c.rem)
      (multiple_along c.modulus (((n -ℤ m) -ℤ r) +ℤ (m -ℤ c.rem)) _ (turned n m r c.rem)
      (multiple_add c.modulus ((n -ℤ m) -ℤ r) (m -ℤ c.rem) (off_from_in r c.modulus (n -ℤ m) (rem_same (n -ℤ m) c.modulus one))
      (off_from_in c.rem c.modulus m k))) in
      let e : int_rem_euclid (n -ℤ c.rem) c.modulus
      ≡ r = rem_unique (n -ℤ c.rem) c.modulus r one same (rem_low (n -ℤ m) c.modulus one) (rem_high (n -ℤ m) c.modulus one) in
      let f = rem_at_most (n -ℤ m) c.modulus (omega (arith, ints)) one in
      subst (λ (t : ℤ). m ≤ℤ (n -ℤ t)) (sym e) (within n m r f)
    where
      turned : (n m r a : ℤ) → ((n -ℤ m) -ℤ r) +ℤ (m -ℤ a) ≡ (n -ℤ a) -ℤ r
      turned n m r a = omega (arith, ints)

      within : (n m r : ℤ) → r ≤ℤ (n -ℤ m) → m ≤ℤ (n -ℤ r)
      within n m r h = omega (arith, ints)

-- ---- moved ends, by the modulus

by_bool : {A : Type 0} (P : A → Type 0) (b : Bool) (u v : A) → (b ≡ true → P u) → (b ≡ false → P v) → P (if b then u else v)
by_bool P true u v f g = f refl
by_bool P false u v f g = g refl

le-from : (x y : ℤ) → int_le x y ≡ true → x ≤ℤ y
le-from x y e = le-from_int_le x y e

gt-from : (x y : ℤ) → int_le x y ≡ false → y <ℤ x
gt-from x y e = by_lt_z y x (λ less. less) (λ more. absurd (true≢false (sym (int_le-true x y more) ∙ e)))

-- a fact of the moved end: for one number, and for a modulus above 0
pub low_by : (P : Ext → Type 0) (c : Residue) (n : ℤ) → pos 0 ≤ℤ c.modulus → (c.modulus ≡ pos 0 → P (Fin (int_max n c.rem)))
    → (pos 1 ≤ℤ c.modulus → next_member c n ≤ℤ pos (2 ^ 127 - 1) → P (Fin (next_member c n)))
    → (pos 1 ≤ℤ c.modulus → pos (2 ^ 127 - 1) <ℤ next_member c n → P (Fin n)) → P (inward_low c (Fin n))
low_by P c n h point member stays =
    by_zero c.modulus h
    (λ i. subst P (sym (test_positive c.modulus _ _ i))
    (by_bool P (int_le (next_member c n) (pos (2 ^ 127 - 1))) _ _ (λ e. member i (le-from (next_member c n) (pos (2 ^ 127 - 1)) e))
    (λ e. stays i (gt-from (next_member c n) (pos (2 ^ 127 - 1)) e))))
    (λ i. subst P (sym (test_zero c.modulus _ _ i)) (point i))

pub high_by : (P : Ext → Type 0) (c : Residue) (n : ℤ) → pos 0 ≤ℤ c.modulus → (c.modulus ≡ pos 0 → P (Fin (int_min n c.rem)))
    → (pos 1 ≤ℤ c.modulus → negsuc (2 ^ 127 - 1) ≤ℤ last_member c n → P (Fin (last_member c n)))
    → (pos 1 ≤ℤ c.modulus → last_member c n <ℤ negsuc (2 ^ 127 - 1) → P (Fin n)) → P (inward_high c (Fin n))
high_by P c n h point member stays =
    by_zero c.modulus h
    (λ i. subst P (sym (test_positive c.modulus _ _ i))
    (by_bool P (int_le (negsuc (2 ^ 127 - 1)) (last_member c n)) _ _ (λ e. member i (le-from (negsuc (2 ^ 127 - 1)) (last_member c n) e))
    (λ e. stays i (gt-from (negsuc (2 ^ 127 - 1)) (last_member c n) e))))
    (λ i. subst P (sym (test_zero c.modulus _ _ i)) (point i))

pub no_low_by : (P : Ext → Type 0) (c : Residue) → pos 0 ≤ℤ c.modulus → (c.modulus ≡ pos 0 → P (Fin c.rem)) → (pos 1 ≤ℤ c.modulus → P Low)
    → P (inward_low c Low)
no_low_by P c h point none = by_zero c.modulus h (λ i. subst P (sym (test_positive c.modulus _ _ i)) (none i))
    (λ i. subst P (sym (test_zero c.modulus _ _ i)) (point i))

pub no_high_by : (P : Ext → Type 0) (c : Residue) → pos 0 ≤ℤ c.modulus → (c.modulus ≡ pos 0 → P (Fin c.rem)) → (pos 1 ≤ℤ c.modulus → P High)
    → P (inward_high c High)
no_high_by P c h point none = by_zero c.modulus h (λ i. subst P (sym (test_positive c.modulus _ _ i)) (none i))
    (λ i. subst P (sym (test_zero c.modulus _ _ i)) (point i))

-- a fact of the greater and of the lesser of two numbers
max_by : (P : ℤ → Type 0) (x y : ℤ) → (y <ℤ x → P x) → (x ≤ℤ y → P y) → P (int_max x y)
max_by P x y f g = by_bool P (int_lt y x) x y (λ e. f (omega (arith, ints))) (λ e. g (omega (arith, ints)))

min_by : (P : ℤ → Type 0) (x y : ℤ) → (y <ℤ x → P y) → (x ≤ℤ y → P x) → P (int_min x y)
min_by P x y f g = by_bool P (int_lt y x) y x (λ e. f (omega (arith, ints))) (λ e. g (omega (arith, ints)))

same_is_at_most : (x : ℤ) → x ≤ℤ x
same_is_at_most x = omega (arith, ints)

less_is_at_most : (x y : ℤ) → x <ℤ y → x ≤ℤ y
less_is_at_most x y h = omega (arith, ints)

pub max_first : (x y : ℤ) → x ≤ℤ int_max x y
max_first x y = max_by (λ z. x ≤ℤ z) x y (λ h. same_is_at_most x) (λ h. h)

pub max_second : (x y : ℤ) → y ≤ℤ int_max x y
max_second x y = max_by (λ z. y ≤ℤ z) x y (λ h. less_is_at_most y x h) (λ h. same_is_at_most y)

max_least : (x y n : ℤ) → x ≤ℤ n → y ≤ℤ n → int_max x y ≤ℤ n
max_least x y n h k = max_by (λ z. z ≤ℤ n) x y (λ l. h) (λ l. k)

pub min_first : (x y : ℤ) → int_min x y ≤ℤ x
min_first x y = min_by (λ z. z ≤ℤ x) x y (λ h. less_is_at_most y x h) (λ h. same_is_at_most x)

pub min_second : (x y : ℤ) → int_min x y ≤ℤ y
min_second x y = min_by (λ z. z ≤ℤ y) x y (λ h. same_is_at_most y) (λ h. h)

min_greatest : (x y n : ℤ) → n ≤ℤ x → n ≤ℤ y → n ≤ℤ int_min x y
min_greatest x y n h k = min_by (λ z. n ≤ℤ z) x y (λ l. k) (λ l. h)

same_le : (x y : ℤ) → x ≡ y → x ≤ℤ y
same_le x y e = omega (arith, ints)

-- ---- moving goes inward

pub low_inward : (c : Residue) (a : Ext) → pos 0 ≤ℤ c.modulus → AtMost a (inward_low c a)
low_inward c Low h = tt
low_inward c (Fin n) h = low_by (λ e. AtMost (Fin n) e) c n h (λ i. max_first n c.rem) (λ i j. next_above c i n) (λ i j. AtMost_refl (Fin n))
low_inward c High h = tt

pub high_inward : (c : Residue) (a : Ext) → pos 0 ≤ℤ c.modulus → AtMost (inward_high c a) a
high_inward c Low h = tt
high_inward c (Fin n) h = high_by (λ e. AtMost e (Fin n)) c n h (λ i. min_first n c.rem) (λ i j. last_below c i n) (λ i j. AtMost_refl (Fin n))
high_inward c High h = no_high_by (λ e. AtMost e High) c h (λ i. tt) (λ i. tt)

-- ---- and loses no member

pub low_sound : (c : Residue) (a : Ext) (n : ℤ) → pos 0 ≤ℤ c.modulus → Below a n → InResidue c n → Below (inward_low c a) n
low_sound c Low n h k m = no_low_by (λ e. Below e n) c h (λ i. same_le c.rem n (sym (one_number c n i m))) (λ i. tt)
low_sound c (Fin a) n h k m = low_by (λ e. Below e n) c a h (λ i. max_least a c.rem n k (same_le c.rem n (sym (one_number c n i m))))
    (λ i j. next_least c i a n k m) (λ i j. k)
low_sound c High n h k m = absurd k

pub high_sound : (c : Residue) (a : Ext) (n : ℤ) → pos 0 ≤ℤ c.modulus → Above a n → InResidue c n → Above (inward_high c a) n
high_sound c Low n h k m = absurd k
high_sound c (Fin a) n h k m = high_by (λ e. Above e n) c a h (λ i. min_greatest a c.rem n k (same_le n c.rem (one_number c n i m)))
    (λ i j. last_greatest c i a n k m) (λ i j. k)
high_sound c High n h k m = no_high_by (λ e. Above e n) c h (λ i. same_le n c.rem (one_number c n i m)) (λ i. tt)

pub moved_sound : (c : Residue) (r : Range) (n : ℤ) → pos 0 ≤ℤ c.modulus → InRange r n → InResidue c n → InRange (moved_range c r) n
moved_sound c r n h k m = record { low = low_sound c r.lo n h k.low m; high = high_sound c r.hi n h k.high m }

pub moved_holds : (c : Residue) (r : Range) (n : ℤ) → pos 0 ≤ℤ c.modulus → InRange r n → InResidue c n → IsTrue (holds_some (moved_range c r))
moved_holds c r n h k m = let s = moved_sound c r n h k m in holds_number_from _ _ n s.low s.high

-- a fact of the range that is moved where it leaves a number
pub inward_by : (P : Range → Type 0) (c : Residue) (r : Range) → (holds_some (moved_range c r) ≡ true → P (moved_range c r))
    → (holds_some (moved_range c r) ≡ false → P r) → P (inward_range c r)
inward_by P c r f g = by_bool P (holds_some (moved_range c r)) (moved_range c r) r f g

pub inward_sound : (c : Residue) (r : Range) (n : ℤ) → pos 0 ≤ℤ c.modulus → InRange r n → InResidue c n → InRange (inward_range c r) n
inward_sound c r n h k m = inward_by (λ s. InRange s n) c r (λ e. moved_sound c r n h k m) (λ e. k)

pub inward_no_wider : (c : Residue) (r : Range) → pos 0 ≤ℤ c.modulus → NoWider (inward_range c r) r
inward_no_wider c r h =
    inward_by (λ s. NoWider s r) c r
    (λ e. record { low = low_inward c r.lo h; high = high_inward c r.hi h })
    (λ e. record { low = AtMost_refl r.lo; high = AtMost_refl r.hi })

-- ---- what is known of a value

-- the range of a class holds its numbers
pub in_range_of_class : (r : Residue) (n : ℤ) → IsResidue r → InResidue r n → InRange (range_of_class r) n
in_range_of_class r n p h =
    by_zero r.modulus p.not_negative
    (λ i. subst (λ s. InRange s n) (sym (test_positive r.modulus _ _ i)) (record { low = tt; high = tt }))
    (λ i. let e = one_number r n i h in subst (λ s. InRange s n) (sym (test_zero r.modulus _ _ i))
    (record { low = same_le r.rem n (sym e); high = same_le n r.rem e }))

-- the numbers of a range that are in a class stay where its ends are moved inward
pub in_inward_range : (c : Residue) (r : Range) (n : ℤ) → IsResidue c → InRange r n → InResidue c n → InRange (inward_range c r) n
in_inward_range c r n p h k = inward_sound c r n p.not_negative h k

-- a range that holds a number still does where its ends are moved inward
pub inward_some : (c : Residue) (r : Range) → IsTrue (holds_some r) → IsTrue (holds_some (inward_range c r))
inward_some c r h = inward_by (λ s. IsTrue (holds_some s)) c r (λ e. e) (λ e. h)
