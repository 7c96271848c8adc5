-- Numbers of a class, and numbers that differ by a multiple.
use Rattle.std.proofs.Common.{◌≡◌, ℕ, ◌≤◌, zero, suc, ℤ, pos, negsuc, ◌+ℤ◌, ◌-ℤ◌, ◌*ℤ◌, neg_ℤ, ◌≤ℤ◌, ◌⊎◌, inl, inr, arith, ap, sym, ◌∙◌}
use Rattle.std.proofs.Common.{FitsSigned, to_z, of_z, IsTrue, nat_eq, false}
use Rattle.std.proofs.lemmas.Int.{ints, to_z-of_z}
use Rattle.std.proofs.lemmas.Bool.Decides.{nat_tests}
use mir.Syntax.{w128}
use Rattle.std.proofs.Math.IntN.{*ℤ_comm}
use Rattle.std.specs.Int.{int_rem_euclid}
use Rattle.num_api.specs.Residues.{class_of, InResidue, IsMultiple}
use Rattle.num_api.proofs.Rings.{neg_mul}
use Rattle.num_api.proofs.Multiples.{multiple_along, multiple_add, multiple_sub, multiple_neg, self_multiple, off_from_in, in_from_off}
use Rattle.num_api.proofs.Remainders.{rem_same, rem_low, rem_high, rem_unique, times_above}
use Rattle.residues.specs.Inward.{next_member, last_member}
use Rattle.residues.specs.Laws.{next_is_member, last_is_member, next_above, last_below, next_least, last_greatest}
use Rattle.c_syntax.specs.Admission.{IsInClass, IsNoMultiple}

-- ---- the two forms of a class and of a multiple

pub to_residue : (m r n : ℤ) → IsInClass m r n → InResidue (class_of r m) n
to_residue m r n (k, e) = (k, e ∙ ap (λ (t : ℤ). r +ℤ t) (*ℤ_comm m k))

pub from_residue : (m r n : ℤ) → InResidue (class_of r m) n → IsInClass m r n
from_residue m r n (k, e) = (k, e ∙ ap (λ (t : ℤ). r +ℤ t) (*ℤ_comm k m))

pub from_multiple : (m n : ℤ) → IsMultiple m n → (k : ℤ) × (n ≡ m *ℤ k)
from_multiple m n (k, e) = (k, e ∙ *ℤ_comm k m)

pub to_multiple : (m n k : ℤ) → n ≡ m *ℤ k → IsMultiple m n
to_multiple m n k e = (k, e ∙ *ℤ_comm m k)

-- ---- numbers that are alike

pub alike_from_rems : (a b m : ℤ) → pos 1 ≤ℤ m → int_rem_euclid a m ≡ int_rem_euclid b m → IsMultiple m (a -ℤ b)
alike_from_rems a b m h e =
    let off = multiple_sub m (a -ℤ int_rem_euclid a m) (b -ℤ int_rem_euclid b m) (off_from_in (int_rem_euclid a m) m a (rem_same a m h)) (off_from_in (int_rem_euclid b m) m b (rem_same b m h)) in
    multiple_along m ((a -ℤ int_rem_euclid a m) -ℤ (b -ℤ int_rem_euclid b m)) (a -ℤ b) (same a b (int_rem_euclid a m) (int_rem_euclid b m) e) off
  where
    same : (a b r s : ℤ) → r ≡ s → (a -ℤ r) -ℤ (b -ℤ s) ≡ a -ℤ b
    same a b r s e = omega (arith, ints)

pub rems_from_alike : (a b m : ℤ) → pos 1 ≤ℤ m → IsMultiple m (a -ℤ b) → int_rem_euclid a m ≡ int_rem_euclid b m
rems_from_alike a b m h k =
    let off = multiple_add m (a -ℤ b) (b -ℤ int_rem_euclid b m) k (off_from_in (int_rem_euclid b m) m b (rem_same b m h)) in
    let there = in_from_off (int_rem_euclid b m) m a (multiple_along m ((a -ℤ b) +ℤ (b -ℤ int_rem_euclid b m)) (a -ℤ int_rem_euclid b m) (same a b (int_rem_euclid b m)) off) in
    rem_unique a m (int_rem_euclid b m) h there (rem_low b m h) (rem_high b m h)
  where
    same : (a b r : ℤ) → (a -ℤ b) +ℤ (b -ℤ r) ≡ a -ℤ r
    same a b r = omega (arith, ints)

pub alike : (a b : ℤ) (size : ℕ) → pos 1 ≤ℤ pos size → int_rem_euclid a (pos size) ≡ int_rem_euclid b (pos size) → (k : ℤ) × ((a -ℤ b) ≡ (pos size *ℤ k))
alike a b size h e = from_multiple (pos size) (a -ℤ b) (alike_from_rems a b (pos size) h e)

pub unlike : (a b : ℤ) (size : ℕ) → pos 1 ≤ℤ pos size → (int_rem_euclid a (pos size) ≡ int_rem_euclid b (pos size) → ⊥) → IsNoMultiple size (a -ℤ b)
unlike a b size h n k e = n (rems_from_alike a b (pos size) h (to_multiple (pos size) (a -ℤ b) k e))

-- ---- the nearest members

pub next_in : (m r n : ℤ) → pos 1 ≤ℤ m → IsInClass m r (next_member (class_of r m) n)
next_in m r n h = from_residue m r _ (next_is_member (class_of r m) h n)

pub next_from : (m r n : ℤ) → pos 1 ≤ℤ m → n ≤ℤ next_member (class_of r m) n
next_from m r n h = next_above (class_of r m) h n

pub next_first : (m r n k : ℤ) → pos 1 ≤ℤ m → IsInClass m r k → n ≤ℤ k → next_member (class_of r m) n ≤ℤ k
next_first m r n k h i l = next_least (class_of r m) h n k l (to_residue m r k i)

pub last_in : (m r n : ℤ) → pos 1 ≤ℤ m → IsInClass m r (last_member (class_of r m) n)
last_in m r n h = from_residue m r _ (last_is_member (class_of r m) h n)

pub last_to : (m r n : ℤ) → pos 1 ≤ℤ m → last_member (class_of r m) n ≤ℤ n
last_to m r n h = last_below (class_of r m) h n

pub last_last : (m r n k : ℤ) → pos 1 ≤ℤ m → IsInClass m r k → k ≤ℤ n → k ≤ℤ last_member (class_of r m) n
last_last m r n k h i l = last_greatest (class_of r m) h n k l (to_residue m r k i)

-- ---- members beside each other

-- the difference of two members
pub off_members : (m r a b : ℤ) → IsInClass m r a → IsInClass m r b → IsMultiple m (a -ℤ b)
off_members m r a b i j =
    multiple_along m ((a -ℤ r) -ℤ (b -ℤ r)) (a -ℤ b) (same a b r) (multiple_sub m (a -ℤ r) (b -ℤ r) (off_from_in r m a (to_residue m r a i)) (off_from_in r m b (to_residue m r b j)))
  where
    same : (a b r : ℤ) → (a -ℤ r) -ℤ (b -ℤ r) ≡ a -ℤ b
    same a b r = omega (arith, ints)

-- a member moved by a multiple
pub moved_member : (m r a b : ℤ) → IsInClass m r b → IsMultiple m (a -ℤ b) → IsInClass m r a
moved_member m r a b i off =
    from_residue m r a (in_from_off r m a (multiple_along m ((a -ℤ b) +ℤ (b -ℤ r)) (a -ℤ r) (same a b r) (multiple_add m (a -ℤ b) (b -ℤ r) off (off_from_in r m b (to_residue m r b i)))))
  where
    same : (a b r : ℤ) → (a -ℤ b) +ℤ (b -ℤ r) ≡ a -ℤ r
    same a b r = omega (arith, ints)

pub member_above : (m r n x : ℤ) → x ≡ n +ℤ m → IsInClass m r n → IsInClass m r x
member_above m r n x e i = moved_member m r x n i (multiple_along m m (x -ℤ n) (omega (arith, ints)) (self_multiple m))

pub member_below : (m r n x : ℤ) → x ≡ n -ℤ m → IsInClass m r n → IsInClass m r x
member_below m r n x e i = moved_member m r x n i (multiple_along m (neg_ℤ m) (x -ℤ n) (omega (arith, ints)) (multiple_neg m m (self_multiple m)))

-- a multiple is 0, at least the number, or at most its negation
multiple_cases : (m d : ℤ) → pos 1 ≤ℤ m → IsMultiple m d → (d ≡ pos 0) ⊎ ((m ≤ℤ d) ⊎ (d ≤ℤ neg_ℤ m))
multiple_cases m d h (pos zero, e) = inl (let z : pos zero *ℤ m ≡ pos 0 = omega (arith, ints) in e ∙ z)
multiple_cases m d h (pos (suc j), e) = let t = times_above (pos (suc j)) m (omega (arith, ints)) (omega (arith, ints)) in inr (inl (omega (arith, ints)))
multiple_cases m d h (negsuc j, e) =
    let t = times_above (pos (suc j)) m (omega (arith, ints)) (omega (arith, ints)) in
    let f : negsuc j *ℤ m ≡ neg_ℤ (pos (suc j) *ℤ m) = neg_mul (pos (suc j)) m in
    inr (inr (omega (arith, ints)))

-- two members are the same, or one lies at least the modulus above the other
pub member_cases : (m r n x : ℤ) → pos 1 ≤ℤ m → IsInClass m r n → IsInClass m r x → (x ≡ n) ⊎ (((n +ℤ m) ≤ℤ x) ⊎ (x ≤ℤ (n -ℤ m)))
member_cases m r n x h i j = by (multiple_cases m (x -ℤ n) h (off_members m r x n j i))
  where
    by : (x -ℤ n ≡ pos 0) ⊎ ((m ≤ℤ (x -ℤ n)) ⊎ ((x -ℤ n) ≤ℤ neg_ℤ m)) → (x ≡ n) ⊎ (((n +ℤ m) ≤ℤ x) ⊎ (x ≤ℤ (n -ℤ m)))
    by (inl e) = inl (omega (arith, ints))
    by (inr (inl l)) = inr (inl (omega (arith, ints)))
    by (inr (inr l)) = inr (inr (omega (arith, ints)))

-- ---- what a test of two remainders tells

same_numbers : (x y : ℕ) → IsTrue (nat_eq x y) → x ≡ y
same_numbers x y h = grind (arith, nat_tests)

other_numbers : (x y : ℕ) → nat_eq x y ≡ false → x ≡ y → ⊥
other_numbers x y h e = grind (arith, nat_tests)

pub alike_told : (a b r q : ℤ) (size : ℕ) → 1 ≤ size → FitsSigned w128 r → FitsSigned w128 q → r ≡ int_rem_euclid a (pos size) → q ≡ int_rem_euclid b (pos size)
    → IsTrue (nat_eq (of_z w128 r) (of_z w128 q)) → (k : ℤ) × ((a -ℤ b) ≡ (pos size *ℤ k))
alike_told a b r q size h f g d e t =
    alike a b size (omega (arith, ints)) (sym d ∙ sym (to_z-of_z w128 r f) ∙ ap (to_z w128) (same_numbers (of_z w128 r) (of_z w128 q) t) ∙ to_z-of_z w128 q g ∙ e)

pub unlike_told : (a b r q : ℤ) (size : ℕ) → 1 ≤ size → r ≡ int_rem_euclid a (pos size) → q ≡ int_rem_euclid b (pos size)
    → nat_eq (of_z w128 r) (of_z w128 q) ≡ false → IsNoMultiple size (a -ℤ b)
unlike_told a b r q size h d e t =
    unlike a b size (omega (arith, ints)) (λ i. other_numbers (of_z w128 r) (of_z w128 q) t (ap (of_z w128) (d ∙ i ∙ sym e)))
