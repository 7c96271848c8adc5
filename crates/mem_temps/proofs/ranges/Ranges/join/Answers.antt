use Rattle.std.proofs.Common.{◌≡◌, ◌≢◌, ℕ, ◌<◌, ◌≤◌, ◌+◌, ◌⊎◌, inl, inr, sym, subst, ◌∙◌, arith, List, length}
use Rattle.std.specs.Prelude.{slice_set}
use Rattle.std.proofs.lemmas.Bool.{cases_lt}
use Rattle.num_api.specs.declared.message.Range.{Range}
use Rattle.num_api.specs.Ranges.{hull}
use Rattle.mem_temps.specs.Ranges.{range_at}
use Rattle.mem_temps.proofs.Lists.{set_here, set_elsewhere, set_size}
use Rattle.mem_temps.proofs.ranges.Ranges.join.Goals as goal

step : (now before other : List Range) (k : ℕ) (r : Range) → length now ≡ length before → k < length before → r ≡ hull (range_at before k) (range_at other k)
    → ((d : ℕ) → d < k → range_at now d ≡ hull (range_at before d) (range_at other d))
    → (d : ℕ) → d < k + 1 → range_at (slice_set now k r) d ≡ hull (range_at before d) (range_at other d)
step now before other k r size here is below d h = by (cases_lt d k) where
  by : (d < k) ⊎ (k ≤ d) → range_at (slice_set now k r) d ≡ hull (range_at before d) (range_at other d)
  by (inl less) = let apart : d ≢ k = λ e. absurd (omega (arith, e)) in set_elsewhere now k d r apart ∙ below d less
  by (inr more) =
      let same : k ≡ d = omega arith in
      subst (λ (j : ℕ). range_at (slice_set now k r) j ≡ hull (range_at before j) (range_at other j)) same (set_here now k r (omega arith) ∙ is)

pub loop-temp-preserved : goal.loop-temp-preserved
loop-temp-preserved c =
    let before = c.args.self.now in let now = c.loop-temp.self in let k = c.loop-temp.temp in let r = c.hull-range.result in
    let here = c.loop-temp.invariant.2 k (omega arith) in
    let is : r ≡ hull (range_at before k) (range_at c.args.other.now k) = c.hull-range.ensures ∙ cc in
    subst (λ (xs : List Range). (length xs ≡ length before) × ((d : ℕ) → d < k + 1 → range_at xs d ≡ hull (range_at before d) (range_at c.args.other.now d))
    × ((d : ℕ) → k + 1 ≤ d → range_at xs d ≡ range_at before d)) (sym c.put.ensures) (
      set_size now k r ∙ c.loop-temp.invariant.0,
      step now before c.args.other.now k r c.loop-temp.invariant.0 (omega arith) is c.loop-temp.invariant.1,
      λ d h. set_elsewhere now k d r (λ e. absurd (omega (arith, e))) ∙ c.loop-temp.invariant.2 d (omega arith),
    )
