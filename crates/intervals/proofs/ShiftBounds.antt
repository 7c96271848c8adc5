-- The bounds of shifts of one interval by another, from those of its ends.
use Rattle.std.proofs.Common.{◌≡◌, ℕ, ℤ, pos, ◌^◌, ◌*ℤ◌, refl, sym, subst, FitsSigned}
use Rattle.std.specs.Prelude.{IsTrue}
use Rattle.std.specs.Int.{int_div_euclid}
use mir.Syntax.{w128}
use Rattle.ext_int.specs.declared.Ext.{Ext}
use Rattle.ext_int.specs.declared.Ext.TheVariants.{Low, Fin, High}
use Rattle.ext_int.specs.Ext.{Below, Above, AtMost, IsNumber, holds_number}
use Rattle.ext_int.proofs.Ends.{AtMost_refl, Above-low_end, Below-high_end, holds_number_from, number_between}
use Rattle.intervals.specs.declared.Interval.{Interval}
use Rattle.intervals.specs.Interval.{Admits, least_end, greatest_end}
use Rattle.intervals.specs.Shifts.{AreProductsBetween, AreQuotientsFrom, AreQuotientsUpTo}
use Rattle.intervals.specs.Bounds.{ShlBounds, ShrBounds}
use Rattle.intervals.proofs.LeftShifts.{some_product}

-- an end that is a number is a number of the interval
pub low_admitted : (a : Interval) (p : ℤ) → least_end a ≡ Fin p → Admits a p
low_admitted a p e = (
  subst (λ (t : Ext). Below t p) (sym e) (AtMost_refl (Fin p)),
  Above-low_end p (greatest_end a) (subst (λ (t : Ext). IsTrue (holds_number t (greatest_end a))) e a.holds),
)

pub high_admitted : (a : Interval) (p : ℤ) → greatest_end a ≡ Fin p → Admits a p
high_admitted a p e = (
  Below-high_end (least_end a) p (subst (λ (t : Ext). IsTrue (holds_number (least_end a) t)) e a.holds),
  subst (λ (t : Ext). Above t p) (sym e) (AtMost_refl (Fin p)),
)

end_number : (e : Ext) → IsNumber e → (p : ℤ) × (e ≡ Fin p)
end_number Low h = absurd h
end_number (Fin p) h = (p, refl)
end_number High h = absurd h

-- the interval between two ends, where they hold a number
abbrev pub IsBetweenEnds : Ext → Ext → Interval → Type 0
IsBetweenEnds lo hi r = IsTrue (holds_number lo hi) → (least_end r ≡ lo) × (greatest_end r ≡ hi)

module _ (a b r : Interval) (lo hi : Ext) (ends : IsBetweenEnds lo hi r) where
  pub shr_bounds : ((x : ℤ) (k : ℕ) → Below (least_end a) x → Admits b (pos k) → Below lo (int_div_euclid x (pos (2 ^ k)))) → ((x : ℤ) (k : ℕ) → Above (greatest_end a) x → Admits b (pos k) → Above hi (int_div_euclid x (pos (2 ^ k))))
      → ((p l : ℤ) (k : ℕ) → least_end a ≡ Fin p → Admits b (pos k) → AreQuotientsFrom l p b → AtMost (Fin l) lo) → ((p h : ℤ) (k : ℕ) → greatest_end a ≡ Fin p → Admits b (pos k) → AreQuotientsUpTo h p b → AtMost hi (Fin h))
      → ShrBounds a b r
  shr_bounds low high least most = record {
    low = λ p l k is at_k below. subst (AtMost (Fin l)) (sym (found k at_k).0)
        (least p l k is at_k (λ j at_j. below p (pos j) (int_div_euclid p (pos (2 ^ j))) (low_admitted a p is) at_j refl));
    high = λ p h k is at_k above. subst (λ (t : Ext). AtMost t (Fin h)) (sym (found k at_k).1)
        (most p h k is at_k (λ j at_j. above p (pos j) (int_div_euclid p (pos (2 ^ j))) (high_admitted a p is) at_j refl));
  }
    where
      found : (k : ℕ) → Admits b (pos k) → (least_end r ≡ lo) × (greatest_end r ≡ hi)
      found k at_k =
          let n = number_between (least_end a) (greatest_end a) a.holds in
          ends (holds_number_from lo hi (int_div_euclid n.0 (pos (2 ^ k))) (low n.0 k n.1 at_k) (high n.0 k n.2 at_k))

  pub shl_bounds : ((x : ℤ) (k : ℕ) → Below (least_end a) x → Admits b (pos k) → Below lo (x *ℤ pos (2 ^ k))) → ((x : ℤ) (k : ℕ) → Above (greatest_end a) x → Admits b (pos k) → Above hi (x *ℤ pos (2 ^ k)))
      → ((p l h : ℤ) → least_end a ≡ Fin p → FitsSigned w128 l → FitsSigned w128 h → AreProductsBetween l h p b → AtMost (Fin l) lo) → ((p l h : ℤ) → greatest_end a ≡ Fin p → FitsSigned w128 l → FitsSigned w128 h → AreProductsBetween l h p b → AtMost hi (Fin h))
      → ShlBounds a b r
  shl_bounds low high least most = record {
    least = λ l h k f g finite at_k below above.
        let n = number_between (least_end a) (greatest_end a) a.holds in
        let found = ends (holds_number_from lo hi (n.0 *ℤ pos (2 ^ k)) (low n.0 k n.1 at_k) (high n.0 k n.2 at_k)) in
        let p = end_number (least_end a) finite.0 in
        let q = end_number (greatest_end a) finite.1 in (
          subst (AtMost (Fin l)) (sym found.0) (least p.0 l h p.1 f g (some_product a b l h p.0 k (low_admitted a p.0 p.1) at_k below above)),
          subst (λ (t : Ext). AtMost t (Fin h)) (sym found.1) (most q.0 l h q.1 f g (some_product a b l h q.0 k (high_admitted a q.0 q.1) at_k below above)),
        );
  }
