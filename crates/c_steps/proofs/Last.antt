-- The last states of runs.
use Rattle.std.proofs.Common.{◌≡◌, ◌+◌, ◌-◌, ◌<◌, ◌≤◌, ◌⊎◌, inl, inr, ℕ, zero, suc, refl, sym, ◌∙◌, subst, arith}
use Rattle.std.proofs.lemmas.Bool.{cases_lt}
use Rattle.c_syntax.specs.Program.{TProgramTree}
use Rattle.c_steps.specs.States.{State, Next, Goes, Ended, Waiting, Stopped, Wrong, Stands}
use Rattle.c_steps.specs.Steps.{step}
use Rattle.c_steps.specs.Runs.{moved_to, goes_on, steps, start}
use Rattle.c_steps.specs.Laws.{IsLast, LastStatesStay, RunsEndOnce}

-- no step, no new state
same_state : (s : State) (next : Next) → ((t : State) → next ≡ Goes t → ⊥) → moved_to s next ≡ s
same_state s (Goes t) last = absurd (last t refl)
same_state s (Ended n) last = refl
same_state s Waiting last = refl
same_state s Stopped last = refl
same_state s (Wrong at kind x) last = refl
same_state s Stands last = refl

pub last_stays : LastStatesStay
last_stays p s zero last = refl
last_stays p s (suc n) last = rw (same_state s (step p s) last) (last_stays p s n last)

-- steps on top of steps
pub steps_add : (p : TProgramTree) (s : State) (m k : ℕ) → steps p (m + k) s ≡ steps p k (steps p m s)
steps_add p s zero k = let e : zero + k ≡ k = omega arith in subst (λ n. steps p n s ≡ steps p k s) (sym e) refl
steps_add p s (suc m) k =
    let e : suc m + k ≡ suc (m + k) = omega arith in
    subst (λ n. steps p n s ≡ steps p k (steps p m (goes_on p s))) (sym e) (steps_add p (goes_on p s) m k)

-- a last state is that of every longer run
later_same : (p : TProgramTree) (s : State) (m k : ℕ) → IsLast p (steps p m s) → steps p (m + k) s ≡ steps p m s
later_same p s m k last = steps_add p s m k ∙ last_stays p (steps p m s) k last

same_later : (p : TProgramTree) (s : State) (m n : ℕ) → m ≤ n → IsLast p (steps p m s) → steps p n s ≡ steps p m s
same_later p s m n below last = let e : m + (n - m) ≡ n = omega (arith, below) in subst (λ k. steps p k s ≡ steps p m s) e (later_same p s m (n - m) last)

by_order : (p : TProgramTree) (s : State) (m n : ℕ) → IsLast p (steps p m s) → IsLast p (steps p n s) → (m < n) ⊎ (n ≤ m) → steps p m s ≡ steps p n s
by_order p s m n at_m at_n (inl below) = sym (same_later p s m n (omega (arith, below)) at_m)
by_order p s m n at_m at_n (inr above) = same_later p s n m above at_n

pub ends_once : RunsEndOnce
ends_once p main inputs m n at_m at_n = by_order p (start p main inputs) m n at_m at_n (cases_lt m n)
