-- Closing bounds that compose through all indices but a few.
use Rattle.std.specs.Prelude.{ℕ, zero, suc, ℤ, pos, neg_ℤ, ◌≡◌, ◌<◌, ◌≤◌, ◌+◌, ◌^◌, ◌+ℤ◌, ◌≤ℤ◌, List, [], ◌∷◌, length, slice_index}
use Rattle.std.proofs.Common.{arith, sym, subst, refl, ap, ◌∙◌}
use Rattle.std.proofs.lemmas.Int.{ints}
use Rattle.ext_int.specs.declared.Ext.{Ext}
use Rattle.ext_int.specs.declared.Ext.TheVariants.{Low, Fin, High}
use Rattle.bound_matrix.specs.Bound.{bar, InRange, AllInRange}
use Rattle.bound_matrix.specs.Points.{IsUpTo, Meets, IsSmall}
use Rattle.bound_matrix.specs.Rel.{Through, NotBelowZero}
use Rattle.bound_matrix.proofs.Ways.{Added}
use Rattle.bound_matrix.specs.Entry.{Near, Staged, Bounds, kept, better}
use Rattle.bound_matrix.specs.Cells.{NearAt, Lowered, PivotUp, IsClosed, IsLeast, ComposesBut, WasTightly}
use Rattle.bound_matrix.proofs.Places.{nat-either}
use Rattle.bound_matrix.proofs.Paths.{Bounds-up, staged-into, staged-from}
use Rattle.bound_matrix.proofs.Storing.{lowering-lower}
use Rattle.bound_matrix.proofs.Closing.{Added-through, Added-through_new, Added-within}

-- 2^90, doubled so many times
abbrev pub size_after : ℕ → ℕ
size_after zero = 2 ^ 90
size_after (suc k) = size_after k + size_after k

-- four doublings leave sums exact
size-most : (k : ℕ) → k ≤ 4 → size_after k ≤ 2 ^ 94
size-most zero h = omega arith
size-most (suc zero) h = omega arith
size-most (suc (suc zero)) h = omega arith
size-most (suc (suc (suc zero))) h = omega arith
size-most (suc (suc (suc (suc zero)))) h = omega arith
size-most (suc (suc (suc (suc (suc k))))) h = absurd (omega arith)

-- after so many of the pivots
pub record Pivoting (n at : ℕ) (ps : List ℕ) (m w : ℕ → ℕ → Ext) : Type 0 where
  pub range : AllInRange w
  pub lower : Lowered m w
  pub sound : (v : ℕ → ℤ) → Meets v m → Meets v w
  pub up : NotBelowZero (Bounds w)
  pub sized : IsSmall m → (i j : ℕ) (x : ℤ) → w i j ≡ Fin x → (x ≤ℤ pos (size_after at)) × (neg_ℤ (pos (size_after at)) ≤ℤ x)
  pub through : IsSmall m → ComposesBut n ps m → (p : ℕ) → p < n → ((k : ℕ) → at ≤ k → k < length ps → p ≡ slice_index ps k → ⊥) → Through (Bounds w) p
  pub least : IsSmall m → IsLeast n m w

pub pivoting-start : (n : ℕ) (ps : List ℕ) (m : ℕ → ℕ → Ext) → AllInRange m → NotBelowZero (Bounds m) → Pivoting n 0 ps m m
pivoting-start n ps m r up = record {
  range = r;
  lower = record { lower = λ i j x h. h };
  sound = λ v h. h;
  up = up;
  sized = λ h i j x e. h.small i j x e;
  through = λ _ c p l f. c.composes p l (λ k g e. f k (omega arith) g e);
  least = λ _. record { least = λ c f g. g };
}

near-of : (e : Ext) → InRange e → ((x : ℤ) → e ≡ Fin x → (x ≤ℤ pos (2 ^ 99)) × (neg_ℤ (pos (2 ^ 99)) ≤ℤ x)) → Near e
near-of Low r h = absurd r
near-of (Fin x) r h = h x refl
near-of High r h = tt

pub pivoting-near : (n at : ℕ) (ps : List ℕ) (m w : ℕ → ℕ → Ext) → at ≤ 4 → Pivoting n at ps m w → IsSmall m → (i j : ℕ) → Near (w i j)
pivoting-near n at ps m w few p h i j = near-of (w i j) (p.range.range i j) (λ x e. let b = p.sized h i j x e in let t = size-most at few in (omega (arith, ints), omega (arith, ints)))

module _ (n at : ℕ) (ps : List ℕ) (k : ℕ) (here : k ≡ slice_index ps at) (few : length ps ≤ 4) (more : at < length ps) (inside : k < n) (m w u : ℕ → ℕ → Ext) (p : Pivoting n at ps m w) (range : AllInRange u) (lower : Lowered w u) (sound : (v : ℕ → ℤ) → Meets v w → Meets v u) (staged : NearAt w k → PivotUp w k → (p q : ℕ) → Staged w u k p q) (up : NotBelowZero (Bounds u)) where
  all-near : IsSmall m → (i j : ℕ) → Near (w i j)
  all-near h = pivoting-near n at ps m w (omega arith) p h

  all-staged : IsSmall m → (i j : ℕ) → Staged w u k i j
  all-staged h = staged (record { near_in = λ i. all-near h i k; near_out = λ j. all-near h k j }) (record { pivot_up = λ x l. p.up.zero_up k x l })

  through-step : IsSmall m → (a : ℕ) → Through (Added (Bounds w) k k (pos 0)) a → Through (Bounds u) a
  through-step h a t = record { joined = λ i j x y f g. staged-from w u k i j _ lower (all-staged h i j) (t.joined i j x y (staged-into w u k i a x (all-staged h i a) f) (staged-into w u k a j y (all-staged h a j) g)) }

  pivot-ok : (x : ℤ) → IsUpTo (w k k) x → pos 0 ≤ℤ (pos 0 +ℤ x)
  pivot-ok x h = let l : pos 0 ≤ℤ x = p.up.zero_up k x h in omega (arith, ints)

  sized-step : IsSmall m → (i j : ℕ) (x : ℤ) → u i j ≡ Fin x → Staged w u k i j → (x ≤ℤ pos (size_after at + size_after at)) × (neg_ℤ (pos (size_after at + size_after at)) ≤ℤ x)
  sized-step h i j x e (kept f g) = let b = p.sized h i j x (sym f ∙ e) in (omega (arith, ints), omega (arith, ints))
  sized-step h i j x e (better y z f g d never) = let b = p.sized h i k y f in let c = p.sized h k j z g in let s : x ≡ y +ℤ z = cc in (omega (arith, ints), omega (arith, ints))

  pub pivoting-step : Pivoting n (at + 1) ps m u
  pivoting-step = record {
    range = range;
    lower = record { lower = λ i j x h. lower.lower i j x (p.lower.lower i j x h) };
    sound = λ v h. sound v (p.sound v h);
    up = up;
    sized = λ h i j x e. let next : suc at ≡ at + 1 = omega arith in subst (λ (s : ℕ). (x ≤ℤ pos (size_after s)) × (neg_ℤ (pos (size_after s)) ≤ℤ x)) next (sized-step h i j x e (all-staged h i j));
    through = λ h c a l f. nat-either a k
        (λ e. subst (λ (a : ℕ). Through (Bounds u) a) (sym e) (through-step h k (Added-through_new (Bounds-up w) p.up)))
        (λ d. through-step h a (Added-through (Bounds-up w) pivot-ok (p.through h c a l (λ b g o e. nat-either b at
        (λ s. d (e ∙ (ap (λ (q : ℕ). slice_index ps q) s ∙ sym here)))
        (λ s. f b (omega arith) o e)))));
    least = λ h. record { least = λ c f g. record { into = λ i j x l. (Added-within ((p.least h).least c f g) (Bounds-up c) (f.through k inside) (f.through k inside) (f.zero k inside)).into i j x (staged-into w u k i j x (all-staged h i j) l) } };
  }

pub pivoting-closed : (n at : ℕ) (ps : List ℕ) (m w : ℕ → ℕ → Ext) → length ps ≤ at → Pivoting n at ps m w → IsSmall m → ComposesBut n ps m → IsClosed n w
pivoting-closed n at ps m w l p h c = record { zero = λ i g. p.lower.lower i i (pos 0) (c.zero i g); through = λ a g. p.through h c a g (λ k o q _. absurd (omega arith)) }

-- bounds of which one was lowered compose but through the ends of the two arcs that it changed
module _ (n i j ib jb : ℕ) (first : ib ≡ bar i) (second : jb ≡ bar j) (m : ℕ → ℕ → Ext) (t : WasTightly n i j m) where
  lowered : Lowered t.before m
  lowered = lowering-lower i j t.new t.before m t.lowered (t.tight.coherent i j)

  into-same : (p a : ℕ) → (p ≡ j → ⊥) → (p ≡ ib → ⊥) → m a p ≡ t.before a p
  into-same p a f g = t.lowered.others a p (λ _ e. f e) (λ _ e. g (e ∙ sym first))

  out-same : (p b : ℕ) → (p ≡ i → ⊥) → (p ≡ jb → ⊥) → m p b ≡ t.before p b
  out-same p b f g = t.lowered.others p b (λ e _. f e) (λ e _. g (e ∙ sym second))

  at-zero : (e : Ext) → e ≡ Fin (pos 0) → IsUpTo e (pos 0)
  at-zero e d = subst (λ (f : Ext). IsUpTo f (pos 0)) (sym d) (omega (arith, ints))

  pub composes-but : ComposesBut n (i ∷ j ∷ ib ∷ jb ∷ []) m
  composes-but = record {
    zero = λ p l. lowered.lower p p (pos 0) (at-zero (t.before p p) (t.tight.zero p l));
    composes = λ p l f. record {
      joined = λ a b x y h g. lowered.lower a b (x +ℤ y) (t.tight.triangle a b p x y
          (subst (λ (e : Ext). IsUpTo e x) (into-same p a (f 1 (omega arith)) (f 2 (omega arith))) h)
          (subst (λ (e : Ext). IsUpTo e y) (out-same p b (f 0 (omega arith)) (f 3 (omega arith))) g));
    };
  }
