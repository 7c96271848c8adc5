-- Sums of the variables of a pack, each with its sign, and bounds of indices.
use Rattle.std.proofs.Common.{ℕ, ℤ, pos, neg_ℤ, List, Option, Some, length, ◌≡◌, ◌<◌, ◌+◌, ◌/◌, ◌%◌, ◌+ℤ◌, ◌≤ℤ◌, refl, ap, sym, subst, ◌∙◌, arith, true, false, Bool}
use Rattle.std.specs.Prelude.{not}
use Rattle.std.proofs.lemmas.Int.{ints}
use Rattle.ext_int.specs.Ext.{Above, Below, AtMost}
use Rattle.ext_int.specs.Valuation.{value_at}
use Rattle.ext_int.specs.declared.Ext.{Ext}
use Rattle.bound_matrix.specs.Bound.{bound_at, cut}
use Rattle.bound_matrix.specs.Points.{signed}
use Rattle.num_api.specs.declared.message.Range.{Range}
use Rattle.num_api.specs.Ranges.{InRange}
use Rattle.octagons_sources.specs.Sources.{IsDrawn, signed_by}
use Rattle.octagons_linear.specs.declared.forms.Signed.{Signed}
use Rattle.octagons_linear.specs.Forms.{with_sign, signed_value}
use Rattle.octagons_pack.specs.Packs.{picked, at}
use Rattle.octagons_pack.proofs.Picking.{picked-at}
use Rattle.num_api.specs.Spans.{point, range_of}
use Rattle.octagons_pack.specs.Packs.{place_in}
use Rattle.octagons_changes.specs.States.{OctagonView}
use Rattle.octagons_changes.specs.declared.lowering.Lowering.{Lowering}
use Rattle.octagons_changes.specs.Lowerings.{index, sum_lowering, sum_bound, bound_of_places, IsLowered}

pub signed-index : (a : List ℤ) (k : ℕ) (b : Bool) → signed a (index k b) ≡ with_sign b (value_at a k)
unfolding signed
signed-index a k false = let h : (k + k) / 2 ≡ k = omega arith in let g : (k + k) % 2 ≡ 0 = omega arith in rw (h, g) refl
signed-index a k true = let h : (k + k + 1) / 2 ≡ k = omega arith in let g : (k + k + 1) % 2 ≡ 1 = omega arith in rw (h, g) refl

-- the number of a signed variable at its place
pub signed-at : (v : List ℤ) (pack : List ℕ) (x k : ℕ) (b : Bool) → k < length pack → at pack k ≡ x → signed (picked v pack) (index k b) ≡ with_sign b (value_at v x)
signed-at v pack x k b h e = signed-index (picked v pack) k b ∙ ap (with_sign b) (picked-at v pack k h ∙ ap (value_at v) e)

turned-sign : (b : Bool) (n : ℤ) → neg_ℤ (with_sign (not b) n) ≡ with_sign b n
turned-sign false n = omega (arith, ints)
turned-sign true n = refl

-- the difference of the two indices is the sum of the variables
pub sum-at : (v : List ℤ) (pack : List ℕ) (s t : Signed) (k l i j : ℕ) → k < length pack → at pack k ≡ s.var → l < length pack → at pack l ≡ t.var → i ≡ index l (not t.negated) → j ≡ index k s.negated
    → (signed (picked v pack) j +ℤ neg_ℤ (signed (picked v pack) i)) ≡ (signed_value v s +ℤ signed_value v t)
sum-at v pack s t k l i j hk ek hl el ei ej =
    let a : signed (picked v pack) j ≡ signed_value v s = ap (signed (picked v pack)) ej ∙ signed-at v pack s.var k s.negated hk ek in
    let b : signed (picked v pack) i ≡ with_sign (not t.negated) (value_at v t.var) = ap (signed (picked v pack)) ei ∙ signed-at v pack t.var l (not t.negated) hl el in
    ap (λ (n : ℤ). n +ℤ neg_ℤ (signed (picked v pack) i)) a ∙ ap (λ (n : ℤ). signed_value v s +ℤ n) (ap neg_ℤ b ∙ turned-sign t.negated (value_at v t.var))

signs-same : (b : Bool) (n : ℤ) → signed_by b n ≡ with_sign b n
signs-same false n = refl
signs-same true n = refl

-- a number that is that of a variable, with its sign, and a number of a range more, is drawn from its place
pub drawn-by : (v : List ℤ) (pack : List ℕ) (s : Signed) (k : ℕ) (r : Range) (n : ℤ) → k < length pack → at pack k ≡ s.var → InRange r (n +ℤ neg_ℤ (signed_value v s)) → IsDrawn (record { place = Some k; negated = s.negated; lo = r.lo; hi = r.hi }) (picked v pack) n
drawn-by v pack s k r n h e i =
    let same : signed_value v s ≡ signed_by s.negated (value_at (picked v pack) k) = ap (with_sign s.negated) (ap (value_at v) (sym e) ∙ sym (picked-at v pack k h)) ∙ sym (signs-same s.negated (value_at (picked v pack) k)) in
    record { low = subst (λ (m : ℤ). Below r.lo (n +ℤ neg_ℤ m)) same i.low; high = subst (λ (m : ℤ). Above r.hi (n +ℤ neg_ℤ m)) same i.high }

-- ---- numbers

pub less-sum : (m s n : ℤ) → m ≡ s +ℤ n → (m +ℤ neg_ℤ s) ≡ n
less-sum m s n e = omega (arith, ints)

pub less-first : (m s t n : ℤ) → m ≡ ((s +ℤ t) +ℤ n) → (m +ℤ neg_ℤ s) ≡ (t +ℤ n)
less-first m s t n e = omega (arith, ints)

pub less-second : (m s t n : ℤ) → m ≡ ((s +ℤ t) +ℤ n) → (m +ℤ neg_ℤ t) ≡ (s +ℤ n)
less-second m s t n e = omega (arith, ints)

pub swapped : (m s t n : ℤ) → m ≡ ((s +ℤ t) +ℤ n) → m ≡ ((t +ℤ s) +ℤ n)
swapped m s t n e = omega (arith, ints)

pub difference-turned : (x y a b : ℤ) → a ≡ neg_ℤ x → b ≡ y → (a +ℤ b) ≡ neg_ℤ (x +ℤ neg_ℤ y)
difference-turned x y a b e f = omega (arith, ints)

pub zero-difference : (d x n p : ℤ) → d ≡ ((p +ℤ pos 0) +ℤ neg_ℤ n) → p ≡ x → x ≡ n → d ≡ pos 0
zero-difference d x n p e f g = omega (arith, ints)

pub at-zero : (d : ℤ) → d ≡ pos 0 → d ≤ℤ pos 0
at-zero d e = omega (arith, ints)

pub turned-zero : (c d : ℤ) → c ≡ neg_ℤ d → d ≡ pos 0 → c ≤ℤ pos 0
turned-zero c d e f = omega (arith, ints)

pub in-point : (r : Range) (n x : ℤ) → r ≡ range_of (point n) → x ≡ n → InRange r x
in-point r n x e f = subst (λ (q : Range). InRange q x) (sym e) (record { low = omega (arith, ints); high = omega (arith, ints) })

-- ---- what was told

pub told-entry : (o : OctagonView) (s t : Signed) (k l : ℕ) (most : Ext) (low : Lowering) → low ≡ sum_lowering s.negated (place_in s.var o.pack) t.negated (place_in t.var o.pack) most → place_in s.var o.pack ≡ Some k → place_in t.var o.pack ≡ Some l
    → IsLowered (bound_at o.matrix) low → AtMost (sum_bound o s t) (cut most)
told-entry o s t k l most low e f g h =
    let m = bound_at o.matrix in
    let a : low ≡ sum_lowering s.negated (Some k) t.negated (Some l) most = e ∙ (ap (λ (p : Option ℕ). sum_lowering s.negated p t.negated (place_in t.var o.pack) most) f ∙ ap (λ (p : Option ℕ). sum_lowering s.negated (Some k) t.negated p most) g) in
    let b : sum_bound o s t ≡ bound_of_places m s.negated (Some k) t.negated (Some l) = ap (λ (p : Option ℕ). bound_of_places m s.negated p t.negated (place_in t.var o.pack)) f ∙ ap (λ (p : Option ℕ). bound_of_places m s.negated (Some k) t.negated p) g in
    subst (λ (x : Ext). AtMost x (cut most)) (sym b) (subst (IsLowered m) a h)
