-- Multiples of a number, and numbers that are the same up to one.
use Rattle.std.proofs.Common.{◌≡◌, ℤ, pos, ◌+ℤ◌, ◌-ℤ◌, ◌*ℤ◌, neg_ℤ, arith, ap, sym, ◌∙◌, subst}
use Rattle.std.proofs.lemmas.Int.{ints}
use Rattle.std.proofs.Math.IntN.{*ℤ_comm, zero-*ℤ}
use Rattle.num_api.specs.Residues.{class_of, InResidue, IsMultiple}
use Rattle.num_api.proofs.Rings.{add_mul, mul_add, neg_mul, mul_neg, mul_assoc}

-- ---- multiples

pub multiple_along : (g a b : ℤ) → a ≡ b → IsMultiple g a → IsMultiple g b
multiple_along g a b e (k, p) = (k, sym e ∙ p)

pub zero_multiple : (g : ℤ) → IsMultiple g (pos 0)
zero_multiple g = (pos 0, sym (zero-*ℤ g))

pub self_multiple : (g : ℤ) → IsMultiple g g
self_multiple g = (pos 1, omega (arith, ints))

pub multiple_add : (g a b : ℤ) → IsMultiple g a → IsMultiple g b → IsMultiple g (a +ℤ b)
multiple_add g a b (k, p) (l, q) = (k +ℤ l, ap (λ (t : ℤ). t +ℤ b) p ∙ ap (λ (t : ℤ). (k *ℤ g) +ℤ t) q ∙ sym (add_mul k l g))

pub multiple_neg : (g a : ℤ) → IsMultiple g a → IsMultiple g (neg_ℤ a)
multiple_neg g a (k, p) = (neg_ℤ k, ap neg_ℤ p ∙ sym (neg_mul k g))

pub multiple_sub : (g a b : ℤ) → IsMultiple g a → IsMultiple g b → IsMultiple g (a -ℤ b)
multiple_sub g a b h k = multiple_add g a (neg_ℤ b) h (multiple_neg g b k)

pub multiple_times : (g k a : ℤ) → IsMultiple g a → IsMultiple g (k *ℤ a)
multiple_times g k a (l, p) = (k *ℤ l, ap (λ (t : ℤ). k *ℤ t) p ∙ sym (mul_assoc k l g))

pub times_multiple : (g a k : ℤ) → IsMultiple g a → IsMultiple g (a *ℤ k)
times_multiple g a k h = multiple_along g _ _ (*ℤ_comm k a) (multiple_times g k a h)

pub multiple_trans : (g h a : ℤ) → IsMultiple g h → IsMultiple h a → IsMultiple g a
multiple_trans g h a u (k, p) = multiple_along g _ a (sym p) (multiple_times g k h u)

-- products of multiples
pub multiple_mul : (g h a b : ℤ) → IsMultiple g a → IsMultiple h b → IsMultiple (g *ℤ h) (a *ℤ b)
multiple_mul g h a b (k, p) (l, q) =
    (k *ℤ l, ap (λ (t : ℤ). t *ℤ b) p ∙ ap (λ (t : ℤ). (k *ℤ g) *ℤ t) q ∙ four k g l h)
  where
    four : (k g l h : ℤ) → (k *ℤ g) *ℤ (l *ℤ h) ≡ (k *ℤ l) *ℤ (g *ℤ h)
    four k g l h =
        mul_assoc k g (l *ℤ h) ∙ ap (λ (t : ℤ). k *ℤ t) (sym (mul_assoc g l h) ∙ ap (λ (t : ℤ). t *ℤ h) (*ℤ_comm g l) ∙ mul_assoc l g h) ∙ sym (mul_assoc k l (g *ℤ h))

-- ---- numbers in a class

pub off_from_in : (r m x : ℤ) → InResidue (class_of r m) x → IsMultiple m (x -ℤ r)
off_from_in r m x (k, p) = let e : x ≡ r +ℤ (k *ℤ m) = p in (k, omega (arith, ints))

pub in_from_off : (r m x : ℤ) → IsMultiple m (x -ℤ r) → InResidue (class_of r m) x
in_from_off r m x (k, p) = let e : x ≡ r +ℤ (k *ℤ m) = omega (arith, ints) in (k, e)

pub in_itself : (r m : ℤ) → InResidue (class_of r m) r
in_itself r m = in_from_off r m r (multiple_along m (pos 0) (r -ℤ r) (omega (arith, ints)) (zero_multiple m))

pub in_along : (r s m x : ℤ) → s ≡ r → InResidue (class_of s m) x → InResidue (class_of r m) x
in_along r s m x e h = subst (λ (t : ℤ). InResidue (class_of t m) x) e h

-- a class of the same modulus by another of its numbers
pub in_shifted : (r s m x : ℤ) → InResidue (class_of s m) r → InResidue (class_of r m) x → InResidue (class_of s m) x
in_shifted r s m x h k =
    in_from_off s m x (multiple_along m ((x -ℤ r) +ℤ (r -ℤ s)) (x -ℤ s) (omega (arith, ints)) (multiple_add m (x -ℤ r) (r -ℤ s) (off_from_in r m x k) (off_from_in s m r h)))

-- a class with a modulus that divides
pub in_wider : (r m g x : ℤ) → IsMultiple g m → InResidue (class_of r m) x → InResidue (class_of r g) x
in_wider r m g x d h = in_from_off r g x (multiple_trans g m (x -ℤ r) d (off_from_in r m x h))

-- ---- operations

pub in_sum : (r s g x y : ℤ) → InResidue (class_of r g) x → InResidue (class_of s g) y → InResidue (class_of (r +ℤ s) g) (x +ℤ y)
in_sum r s g x y h k =
    in_from_off (r +ℤ s) g (x +ℤ y) (multiple_along g ((x -ℤ r) +ℤ (y -ℤ s)) _ (omega (arith, ints)) (multiple_add g (x -ℤ r) (y -ℤ s) (off_from_in r g x h) (off_from_in s g y k)))

pub in_difference : (r s g x y : ℤ) → InResidue (class_of r g) x → InResidue (class_of s g) y → InResidue (class_of (r -ℤ s) g) (x -ℤ y)
in_difference r s g x y h k =
    in_from_off (r -ℤ s) g (x -ℤ y) (multiple_along g ((x -ℤ r) -ℤ (y -ℤ s)) _ (omega (arith, ints)) (multiple_sub g (x -ℤ r) (y -ℤ s) (off_from_in r g x h) (off_from_in s g y k)))

pub in_negation : (r g x : ℤ) → InResidue (class_of r g) x → InResidue (class_of (neg_ℤ r) g) (neg_ℤ x)
in_negation r g x h =
    in_from_off (neg_ℤ r) g (neg_ℤ x) (multiple_along g (neg_ℤ (x -ℤ r)) _ (omega (arith, ints)) (multiple_neg g (x -ℤ r) (off_from_in r g x h)))

-- x * y - r * s is (x - r) * y + r * (y - s)
split_product : (x y r s : ℤ) → ((x -ℤ r) *ℤ y) +ℤ (r *ℤ (y -ℤ s)) ≡ (x *ℤ y) -ℤ (r *ℤ s)
split_product x y r s =
    let e = add_mul x (neg_ℤ r) y in
    let f = mul_add r y (neg_ℤ s) in
    let g = neg_mul r y in
    let h = mul_neg r s in
    omega (arith, ints)

-- the modulus f divides all numbers of the first class, g those of the second
pub in_product : (r m s n f g d x y : ℤ) → IsMultiple d (m *ℤ g) → IsMultiple d (f *ℤ n) → IsMultiple f r → IsMultiple g y → InResidue (class_of r m) x → InResidue (class_of s n) y → InResidue (class_of (r *ℤ s) d) (x *ℤ y)
in_product r m s n f g d x y u v p q h k =
    in_from_off (r *ℤ s) d (x *ℤ y) (multiple_along d _ _ (split_product x y r s) (multiple_add d ((x -ℤ r) *ℤ y) (r *ℤ (y -ℤ s)) (multiple_trans d (m *ℤ g) _ u (multiple_mul m g (x -ℤ r) y (off_from_in r m x h) q)) (multiple_trans d (f *ℤ n) _ v (multiple_mul f n r (y -ℤ s) p (off_from_in s n y k)))))
