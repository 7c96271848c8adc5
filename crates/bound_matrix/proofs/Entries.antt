-- Bounds, and the lesser of a bound and a sum.
use Rattle.std.specs.Prelude.{ℤ, pos, ◌≡◌, ◌^◌, ◌+ℤ◌, ◌≤ℤ◌, ◌<ℤ◌, Bool, true, false}
use Rattle.std.specs.Int.RustNames.{int_le}
use Rattle.std.proofs.Common.{arith, sym, subst, refl, ap, ◌∙◌}
use Rattle.std.proofs.lemmas.Int.{ints, by_lt_z}
use Rattle.ext_int.specs.Ext.{Above, lesser, greater}
use Rattle.ext_int.specs.declared.Ext.{Ext}
use Rattle.ext_int.specs.declared.Ext.TheVariants.{Low, Fin, High}
use Rattle.bound_matrix.specs.Bound.{InRange, cut}
use Rattle.bound_matrix.specs.Points.{IsUpTo}
use Rattle.bound_matrix.specs.Entry.{Near, Relaxed, kept, better}

pub at-most-up : (e : Ext) (x y : ℤ) → IsUpTo e x → x ≤ℤ y → IsUpTo e y
at-most-up Low x y h l = absurd h
at-most-up (Fin w) x y h l = omega (arith, ints)
at-most-up High x y h l = absurd h

pub at-most-or : {P : Type 0} (e : Ext) (x : ℤ) → (IsUpTo e x → P) → ((IsUpTo e x → ⊥) → P) → P
at-most-or Low x f g = g (λ h. h)
at-most-or {P} (Fin w) x f g = by_lt_z x w (λ (l : x <ℤ w). g (λ h. omega (arith, ints))) (λ (l : w ≤ℤ x). f l)
at-most-or High x f g = g (λ h. h)

pub relaxed-by : (x y s : ℤ) (a b e f : Ext) → s ≡ x +ℤ y → a ≡ Fin x → b ≡ Fin y → (IsUpTo e s → f ≡ e) → ((IsUpTo e s → ⊥) → f ≡ Fin s) → Relaxed a b e f
relaxed-by x y s a b e f t p q g h = at-most-or e s
    (λ l. kept (g l) (λ (v w : ℤ) i j. at-most-up e s (v +ℤ w) l (sums v w (subst (λ (r : Ext). IsUpTo r v) p i) (subst (λ (r : Ext). IsUpTo r w) q j))))
    (λ l. better x y p q (subst (λ (r : ℤ). f ≡ Fin r) t (h l)) (λ m. l (subst (λ (r : ℤ). IsUpTo e r) (sym t) m)))
  where
    sums : (v w : ℤ) → x ≤ℤ v → y ≤ℤ w → s ≤ℤ (v +ℤ w)
    sums v w i j = omega (arith, ints)

-- ---- the lesser of two bounds

pub lesser-range : (a b : Ext) → InRange a → InRange b → InRange (lesser a b)
lesser-range Low b h g = absurd h
lesser-range (Fin x) Low h g = absurd g
lesser-range (Fin x) (Fin y) h g = (grind (arith, ints), grind (arith, ints))
lesser-range (Fin x) High h g = h
lesser-range High b h g = g

pub lesser-lowers : (a b : Ext) (x : ℤ) → InRange b → IsUpTo a x → IsUpTo (lesser a b) x
lesser-lowers Low b x r h = absurd h
lesser-lowers (Fin w) Low x r h = absurd r
lesser-lowers (Fin w) (Fin y) x r h = grind (arith, ints)
lesser-lowers (Fin w) High x r h = h
lesser-lowers High b x r h = absurd h

pub lesser-takes : (a b : Ext) (x : ℤ) → InRange a → IsUpTo b x → IsUpTo (lesser a b) x
lesser-takes Low b x r h = absurd r
lesser-takes (Fin w) Low x r h = absurd h
lesser-takes (Fin w) (Fin y) x r h = grind (arith, ints)
lesser-takes (Fin w) High x r h = absurd h
lesser-takes High b x r h = h

-- what the lesser allows one of the two allows
pub lesser-of : {P : Type 0} (a b : Ext) (x : ℤ) → IsUpTo (lesser a b) x → (IsUpTo a x → P) → (IsUpTo b x → P) → P
lesser-of Low b x h f g = absurd h
lesser-of (Fin w) Low x h f g = absurd h
lesser-of {P} (Fin w) (Fin y) x h f g = by_lt_z x w (λ (l : x <ℤ w). g (grind (arith, ints))) (λ (l : w ≤ℤ x). f l)
lesser-of (Fin w) High x h f g = f h
lesser-of High b x h f g = g h

pub lesser-above : (a b : Ext) (x : ℤ) → Above a x → Above b x → Above (lesser a b) x
lesser-above Low b x h g = h
lesser-above (Fin w) Low x h g = g
lesser-above (Fin w) (Fin y) x h g = grind (arith, ints)
lesser-above (Fin w) High x h g = h
lesser-above High b x h g = g

pub lesser-first : (e : Ext) (x : ℤ) → IsUpTo e x → lesser e (Fin x) ≡ e
lesser-first Low x h = absurd h
lesser-first (Fin w) x h = ap Fin (grind (arith, ints))
lesser-first High x h = absurd h

pub lesser-second : (e : Ext) (x : ℤ) → InRange e → (IsUpTo e x → ⊥) → lesser e (Fin x) ≡ Fin x
lesser-second Low x r h = absurd r
lesser-second (Fin w) x r h = by_lt_z x w (λ (l : x <ℤ w). ap Fin (grind (arith, ints))) (λ (l : w ≤ℤ x). absurd (h l))
lesser-second High x r h = refl

-- ---- bounds that are cut

pub cut-range : (e : Ext) → InRange (cut e)
cut-range Low = (omega (arith, ints), omega (arith, ints))
cut-range (Fin x) = by (int_le x (pos (2 ^ 100))) refl
  where
    by : (b : Bool) → int_le x (pos (2 ^ 100)) ≡ b → InRange (cut (Fin x))
    by true e = rw e (grind (arith, ints), grind (arith, ints))
    by false e = rw e tt
cut-range High = tt

pub cut-same : (e : Ext) → InRange e → cut e ≡ e
cut-same Low h = absurd h
cut-same (Fin x) h = grind (arith, ints)
cut-same High h = refl

pub cut-above : (e : Ext) (x : ℤ) → Above e x → Above (cut e) x
cut-above Low x h = absurd h
cut-above (Fin w) x h = by (int_le w (pos (2 ^ 100))) refl
  where
    by : (b : Bool) → int_le w (pos (2 ^ 100)) ≡ b → Above (cut (Fin w)) x
    by true e = rw e (grind (arith, ints))
    by false e = rw e tt
cut-above High x h = tt

-- ---- the lesser of a bound and a sum of two

pub relax-exact : (x y s : ℤ) (a b e c f : Ext) → InRange e → c ≡ cut (Fin s) → s ≡ x +ℤ y → a ≡ Fin x → b ≡ Fin y → f ≡ lesser e c → Near a → Near b → Relaxed a b e f
relax-exact x y s a b e c f r k t p q g near1 near2 = relaxed-by x y s a b e f t p q
    (λ l. whole ∙ lesser-first e s l)
    (λ l. whole ∙ lesser-second e s r l)
  where
    inside : InRange (Fin s)
    inside = let m : Near (Fin x) = subst Near p near1 in let o : Near (Fin y) = subst Near q near2 in (omega (arith, ints), omega (arith, ints))

    whole : f ≡ lesser e (Fin s)
    whole = g ∙ ap (λ (z : Ext). lesser e z) (k ∙ cut-same (Fin s) inside)

pub relax-sound : (x y s : ℤ) (a b e c f : Ext) → c ≡ cut (Fin s) → s ≡ x +ℤ y → a ≡ Fin x → b ≡ Fin y → f ≡ lesser e c → (w u v : ℤ) → Above a u → Above b v → Above e w → w ≤ℤ (u +ℤ v) → Above f w
relax-sound x y s a b e c f k t p q g w u v h1 h2 h3 l = subst (λ (z : Ext). Above z w) (sym g) (lesser-above e c w h3 (subst (λ (z : Ext). Above z w) (sym k) (cut-above (Fin s) w most)))
  where
    most : w ≤ℤ s
    most = let m : u ≤ℤ x = subst (λ (z : Ext). Above z u) p h1 in let o : v ≤ℤ y = subst (λ (z : Ext). Above z v) q h2 in omega (arith, ints)

pub relax-lower : (e c f : Ext) → f ≡ lesser e c → InRange c → (x : ℤ) → IsUpTo e x → IsUpTo f x
relax-lower e c f g r x h = subst (λ (z : Ext). IsUpTo z x) (sym g) (lesser-lowers e c x r h)

pub relax-range : (e c f : Ext) → f ≡ lesser e c → InRange e → InRange c → InRange f
relax-range e c f g r s = subst InRange (sym g) (lesser-range e c r s)

-- the lesser of a bound and 0
pub zero-range : (e : Ext) → InRange e → InRange (lesser e (Fin (pos 0)))
zero-range e r = lesser-range e (Fin (pos 0)) r (omega (arith, ints), omega (arith, ints))

pub greater-range : (a b : Ext) → InRange a → InRange b → InRange (greater a b)
greater-range Low b h g = absurd h
greater-range (Fin x) Low h g = absurd g
greater-range (Fin x) (Fin y) h g = (grind (arith, ints), grind (arith, ints))
greater-range (Fin x) High h g = tt
greater-range High b h g = tt
