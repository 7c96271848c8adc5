-- A valuation that is drawn from a point meets the drawn bounds.
use Rattle.std.proofs.Common.{inl, inr, ℕ, ℤ, pos, neg_ℤ, Option, None, Some, ◌≡◌, ◌<◌, ◌≤◌, ◌+◌, ◌-◌, ◌*◌, ◌/◌, ◌%◌, ◌+ℤ◌, ◌≤ℤ◌, refl, ap, sym, subst, ◌∙◌, arith, true, false, Bool, List}
use Rattle.std.specs.Prelude.{nat_eq}
use Rattle.std.specs.Int.{int_div_euclid}
use Rattle.std.proofs.lemmas.Int.{ints}
use Rattle.std.proofs.lemmas.Bool.Decides.{nat_tests}
use Rattle.ext_int.specs.Ext.{Below, Above, AtMost, half, negation, rounded_high, sum_high, high_end}
use Rattle.ext_int.specs.Valuation.{value_at}
use Rattle.ext_int.specs.declared.Ext.{Ext}
use Rattle.ext_int.specs.declared.Ext.TheVariants.{Low, Fin, High}
use Rattle.ext_int.proofs.Ends.{AtMost_trans, AtMost-from_above, Above-from_at_most, rounded_high_above}
use Rattle.bound_matrix.specs.Bound.{MatrixView, bound_at, bar}
use Rattle.bound_matrix.specs.Points.{signed, IsPoint}
use Rattle.bound_matrix.proofs.Places.{nat-either}
use Rattle.bound_matrix.proofs.Promises.{signed-opposite}
use Rattle.octagons_sources.specs.declared.source.Source.{Source}
use Rattle.octagons_sources.specs.Sources.{source_at, signed_by, origin_of, IsDrawn, AllDrawn, place_index, index_from, most_of, most_added}
use Rattle.octagons_sources.specs.Drawn.{between, drawn}
use Rattle.octagons_sources.proofs.Reading.{other_index, index_from-bar, bar-half, bar-rest}

pub signed-even : (v : List ℤ) (p k : ℕ) → p ≡ k + k → signed v p ≡ value_at v k
unfolding signed
signed-even v p k e = let h : p / 2 ≡ k = omega arith in let g : p % 2 ≡ 0 = omega arith in rw (h, g) refl

pub signed-odd : (v : List ℤ) (p k : ℕ) → p ≡ k + k + 1 → signed v p ≡ neg_ℤ (value_at v k)
unfolding signed
signed-odd v p k e = let h : p / 2 ≡ k = omega arith in let g : p % 2 ≡ 1 = omega arith in rw (h, g) refl

-- the number of an index; 0 where there is none
base : List ℤ → Option ℕ → ℤ
base v None = pos 0
base v (Some i) = signed v i

half-sum : (z x : ℤ) → (x +ℤ x) ≤ℤ z → x ≤ℤ int_div_euclid z (pos 2)
half-sum z x l = grind (arith, ints)

half-above : (e : Ext) (x : ℤ) → Above e (x +ℤ x) → Above (half e) x
half-above Low x h = h
half-above (Fin z) x h = half-sum z x h
half-above High x h = tt

-- the bound between two indices is met
between-above : (v : List ℤ) (m : MatrixView) (a b : Option ℕ) → IsPoint v m → Above (between (bound_at m) a b) (base v b +ℤ neg_ℤ (base v a))
unfolding base
between-above v m None None h = omega (arith, ints)
between-above v m None (Some j) h =
    half-above (bound_at m (bar j) j) (signed v j +ℤ neg_ℤ (pos 0)) (subst (Above (bound_at m (bar j) j)) terms (h.meets (bar j) j))
  where
    terms : (signed v j +ℤ neg_ℤ (signed v (bar j))) ≡ ((signed v j +ℤ neg_ℤ (pos 0)) +ℤ (signed v j +ℤ neg_ℤ (pos 0)))
    terms = let o = (signed-opposite v).signed j in omega (arith, ints)
between-above v m (Some i) None h =
    half-above (bound_at m i (bar i)) (pos 0 +ℤ neg_ℤ (signed v i)) (subst (Above (bound_at m i (bar i))) terms (h.meets i (bar i)))
  where
    terms : (signed v (bar i) +ℤ neg_ℤ (signed v i)) ≡ ((pos 0 +ℤ neg_ℤ (signed v i)) +ℤ (pos 0 +ℤ neg_ℤ (signed v i)))
    terms = let o = (signed-opposite v).signed i in omega (arith, ints)
between-above v m (Some i) (Some j) h = h.meets i j

base-other : (v : List ℤ) (o : Option ℕ) → base v (other_index o) ≡ neg_ℤ (base v o)
unfolding base
base-other v None = refl
base-other v (Some i) = (signed-opposite v).signed i

base-even : (v : List ℤ) (o : Option ℕ) (s : Bool) (p : ℕ) → p % 2 ≡ 0 → base v (place_index o s p) ≡ origin_of o s v
unfolding base
base-even v None s p e = refl
base-even v (Some k) false p e = signed-even v (k + k + p % 2) k (omega arith)
base-even v (Some k) true p e = signed-odd v (k + k + (1 - p % 2)) k (omega arith)

base-odd : (v : List ℤ) (o : Option ℕ) (s : Bool) (p : ℕ) → p % 2 ≡ 1 → base v (place_index o s p) ≡ neg_ℤ (origin_of o s v)
unfolding base
base-odd v None s p e = refl
base-odd v (Some k) false p e = signed-odd v (k + k + p % 2) k (omega arith)
base-odd v (Some k) true p e = signed-even v (k + k + (1 - p % 2)) k (omega arith) ∙ twice (value_at v k)
  where
    twice : (x : ℤ) → x ≡ neg_ℤ (neg_ℤ x)
    twice x = omega (arith, ints)

negation-above : (e : Ext) (x : ℤ) → Below e x → Above (negation e) (neg_ℤ x)
negation-above Low x h = tt
negation-above (Fin k) x h = omega (arith, ints)
negation-above High x h = h

rounded-above : (e : Ext) (x : ℤ) → Above e x → Above (rounded_high e) x
rounded-above e x h = Above-from_at_most (rounded_high e) x (AtMost_trans (Fin x) e (rounded_high e) (AtMost-from_above e x h) (rounded_high_above e))

-- what is added to the number of an index is at most what the source says
module _ (from : List Source) (vars : ℕ) (v w : List ℤ) (all : AllDrawn from vars v w) where
  added-above : (p : ℕ) → p < 2 * vars → Above (most_added from p) (signed w p +ℤ neg_ℤ (base v (index_from from p)))
  added-above p l = nat-either (p % 2) 0
      (λ z.
      let f : signed w p ≡ value_at w (p / 2) = signed-even w p (p / 2) (omega arith) in
      let g = base-even v s.place s.negated p z in
      let h : most_added from p ≡ s.hi = rw z refl in
      subst (λ (e : Ext). Above e (signed w p +ℤ neg_ℤ (base v (index_from from p)))) (sym h)
      (subst (Above s.hi) (sym (ap (λ (x : ℤ). x +ℤ neg_ℤ (base v (index_from from p))) f ∙ ap (λ (x : ℤ). value_at w (p / 2) +ℤ neg_ℤ x) g)) here.high))
      (λ d.
      let z : p % 2 ≡ 1 = omega arith in
      let f : signed w p ≡ neg_ℤ (value_at w (p / 2)) = signed-odd w p (p / 2) (omega arith) in
      let g : base v (index_from from p) ≡ neg_ℤ (origin_of s.place s.negated v) = base-odd v s.place s.negated p z in
      let h : most_added from p ≡ rounded_high (negation s.lo) = rw z refl in
      let terms : neg_ℤ (value_at w (p / 2) +ℤ neg_ℤ (origin_of s.place s.negated v)) ≡ (signed w p +ℤ neg_ℤ (base v (index_from from p))) = omega (arith, ints, f, g) in
      subst (λ (e : Ext). Above e (signed w p +ℤ neg_ℤ (base v (index_from from p)))) (sym h)
      (rounded-above (negation s.lo) _ (subst (Above (negation s.lo)) terms (negation-above s.lo _ here.low))))
    where
      s : Source
      s = source_at from (p / 2)

      here : IsDrawn (source_at from (p / 2)) v (value_at w (p / 2))
      here = all (p / 2) (omega arith)

sum-above : (a b : Ext) (x y : ℤ) → Above a x → Above b y → Above (sum_high a b) (x +ℤ y)
sum-above Low b x y f g = absurd f
sum-above (Fin u) Low x y f g = absurd g
sum-above (Fin u) (Fin z) x y f g = Above-from_at_most (high_end (u +ℤ z)) (x +ℤ y) (AtMost_trans (Fin (x +ℤ y)) (Fin (u +ℤ z)) (high_end (u +ℤ z)) (omega (arith, ints)) (rounded_high_above (Fin (u +ℤ z))))
sum-above (Fin u) High x y f g = tt
sum-above High Low x y f g = absurd g
sum-above High (Fin z) x y f g = tt
sum-above High High x y f g = tt

bar-below : (n p : ℕ) → p < 2 * n → bar p < 2 * n
bar-below n p l = let h = bar-half p in omega arith

pub drawn-above : (from : List Source) (m : MatrixView) (vars p q : ℕ) (v w : List ℤ) → IsPoint v m → AllDrawn from vars v w → p < 2 * vars → q < 2 * vars → Above (drawn from (bound_at m) p q) (signed w q +ℤ neg_ℤ (signed w p))
drawn-above from m vars p q v w h all k l = nat-either p q
    (λ e. let t : nat_eq p q ≡ true = grind (arith, nat_tests) in
    rw t (subst (λ (o : ℕ). (signed w q +ℤ neg_ℤ (signed w o)) ≤ℤ pos 0) (sym e) (none (signed w q))))
    (λ d. let t : nat_eq p q ≡ false = grind (arith, nat_tests) in
    rw t (subst (Above (sum_high (sum_high (between (bound_at m) (index_from from p) (index_from from q)) (most_added from q)) (most_added from (bar p)))) terms
    (sum-above _ _ _ _ (sum-above _ _ _ _ (between-above v m (index_from from p) (index_from from q) h) (added-above from vars v w all q l)) (added-above from vars v w all (bar p) (bar-below vars p k)))))
  where
    none : (x : ℤ) → (x +ℤ neg_ℤ x) ≤ℤ pos 0
    none x = omega (arith, ints)

    terms : (((base v (index_from from q) +ℤ neg_ℤ (base v (index_from from p))) +ℤ (signed w q +ℤ neg_ℤ (base v (index_from from q)))) +ℤ (signed w (bar p) +ℤ neg_ℤ (base v (index_from from (bar p))))) ≡ (signed w q +ℤ neg_ℤ (signed w p))
    terms =
        let o : signed w (bar p) ≡ neg_ℤ (signed w p) = (signed-opposite w).signed p in
        let b : base v (index_from from (bar p)) ≡ neg_ℤ (base v (index_from from p)) = ap (base v) (index_from-bar from p) ∙ base-other v (index_from from p) in
        omega (arith, ints, o, b)
