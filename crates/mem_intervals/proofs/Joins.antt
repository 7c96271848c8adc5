-- What a join has, and how far widening goes.
use Rattle.std.proofs.Common.{◌≡◌, ℕ, ℤ, ◌<◌, ◌≤◌, sym, subst, ◌∙◌, ⊎_elim, List, length}
use Rattle.std.proofs.lemmas.Bool.{cases_lt}
use Rattle.std.proofs.lemmas.List.{get_or_past}
use Rattle.block_mem.specs.declared.types.Scalar.{Scalar}
use Rattle.ext_int.specs.declared.Ext.TheVariants.{Fin}
use Rattle.ext_int.proofs.Ends.{AtMost_trans, AtMost-from_below, Below-from_at_most, AtMost-from_above, Above-from_at_most, lesser_first, lesser_second, greater_first, greater_second}
use Rattle.num_api.specs.declared.message.Range.{Range}
use Rattle.num_api.specs.Ranges.{InRange, NoWider, hull, all_numbers}
use Rattle.csharp.specs.States.{State}
use Rattle.mem_temps.specs.Values.{number_of}
use Rattle.mem_temps.specs.Ranges.{range_at}
use Rattle.mem_temps.specs.Sets.{Stands}
use Rattle.mem_intervals.proofs.Steps.{in_all}

pub in_wider : (r s : Range) (n : ℤ) → NoWider r s → InRange r n → InRange s n
in_wider r s n w i = record {
  low = Below-from_at_most s.lo n (AtMost_trans s.lo r.lo (Fin n) w.low (AtMost-from_below r.lo n i.low));
  high = Above-from_at_most s.hi n (AtMost_trans (Fin n) r.hi s.hi (AtMost-from_above r.hi n i.high) w.high);
}

pub hull_first : (r s : Range) → NoWider r (hull r s)
hull_first r s = record { low = lesser_first r.lo s.lo; high = greater_first r.hi s.hi }

pub hull_second : (r s : Range) → NoWider s (hull r s)
hull_second r s = record { low = lesser_second r.lo s.lo; high = greater_second r.hi s.hi }

module _ (objects : ℕ) (types : List Scalar) (old other new : List Range) (size : length new ≡ length old)
    (hulls : (d : ℕ) → d < length old → range_at new d ≡ hull (range_at old d) (range_at other d)) where
  at : (d : ℕ) (n : ℤ) → InRange (hull (range_at old d) (range_at other d)) n → InRange (range_at new d) n
  at d n i = ⊎_elim (λ below. subst (λ (r : Range). InRange r n) (sym (hulls d below)) i)
      (λ past. subst (λ (r : Range). InRange r n) (sym (get_or_past new d all_numbers (subst (λ (l : ℕ). l ≤ d) (sym size) past))) (in_all n)) (cases_lt d (length old))

  pub join_left : (s : State) → Stands objects types old s → Stands objects types new s
  join_left s h = record {
    owned = h.owned;
    places = h.places;
    size = h.size;
    kinds = h.kinds;
    temps = λ d v f. at d (number_of v) (in_wider (range_at old d) _ (number_of v) (hull_first (range_at old d) (range_at other d)) (h.temps d v f));
  }

  pub join_right : (s : State) → Stands objects types other s → Stands objects types new s
  join_right s h = record {
    owned = h.owned;
    places = h.places;
    size = h.size;
    kinds = h.kinds;
    temps = λ d v f. at d (number_of v) (in_wider (range_at other d) _ (number_of v) (hull_second (range_at old d) (range_at other d)) (h.temps d v f));
  }

-- two sets for one program have its numbers
pub for_one : (P : ℕ → List Scalar → Type 0) (count objects others : ℕ) (temps types kinds : List Scalar) → count ≡ objects → temps ≡ types → count ≡ others
    → temps ≡ kinds → P others kinds → P objects types
for_one P count objects others temps types kinds n t m k h = subst (λ (x : ℕ). P x types) (sym m ∙ n) (subst (P others) (sym k ∙ t) h)
