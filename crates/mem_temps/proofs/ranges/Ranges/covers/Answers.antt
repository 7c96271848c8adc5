use Rattle.std.proofs.Common.{rules, false, ◌≡◌, ℕ, ℤ, ◌<◌, ◌≤◌, ◌+◌, ◌⊎◌, inl, inr, sym, subst, arith, List}
use Rattle.std.proofs.lemmas.Bool.{cases_lt}
use Rattle.num_api.specs.declared.message.Range.{Range}
use Rattle.num_api.specs.Ranges.{InRange}
use Rattle.mem_temps.specs.Ranges.{range_at, is_all}
use Rattle.mem_temps.proofs.Lists.{knows_at}
use Rattle.mem_temps.proofs.ranges.Ranges.covers.Goals as goal

pub returns-then-not-holds_all-clause-no : goal.returns-then-not-holds_all-clause-no
returns-then-not-holds_all-clause-no c = λ e.
    knows_at c.args.self.now c.loop-temp.temp (subst (λ (r : Range). is_all r ≡ false) c.at.ensures (c.holds_all.ensures.no c.if-not-holds_all.true))

step : (xs ys : List Range) (k : ℕ) → ((n : ℤ) → InRange (range_at ys k) n → InRange (range_at xs k) n)
    → ((d : ℕ) (n : ℤ) → d < k → InRange (range_at ys d) n → InRange (range_at xs d) n) → (d : ℕ) (n : ℤ) → d < k + 1 → InRange (range_at ys d) n
    → InRange (range_at xs d) n
step xs ys k here below d n h i = by (cases_lt d k) where
  by : (d < k) ⊎ (k ≤ d) → InRange (range_at xs d) n
  by (inl less) = below d n less i
  by (inr more) =
      let same : k ≡ d = omega arith in
      subst (λ (j : ℕ). InRange (range_at xs j) n) same (here n (subst (λ (j : ℕ). InRange (range_at ys j) n) (sym same) i))

pub loop-temp-preserved : goal.loop-temp-preserved
loop-temp-preserved c = step c.args.self.now c.args.other.now c.loop-temp.temp
    (λ n i. subst (λ (r : Range). InRange r n) c.at.ensures (c.holds_all.ensures.yes (search rules) n (subst (λ (r : Range). InRange r n) (sym c.at-in-loop-temp.ensures) i)))
    c.loop-temp.invariant
