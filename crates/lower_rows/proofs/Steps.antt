-- How the machine moves, and what it means that it follows an outcome of the lowered code.
use Rattle.std.specs.Prelude.{Bool, true}
use Rattle.std.proofs.Common.{◌≡◌, ℕ, zero, suc, List, ◌∷◌, ◌++◌, Option, Some, None, refl, sym, subst}
use Rattle.c_syntax_written.specs.declared.place.Pos.{Pos}
use Rattle.c_syntax.specs.Program.{TProgramTree}
use Rattle.c_steps.specs.Work.{Item, Begin, Turn, Again}
use Rattle.c_steps.specs.States.{State, Next, Goes, Waiting, Stopped, Wrong, Stands}
use Rattle.c_steps.specs.Steps.{step}
use Rattle.c_steps.specs.Runs.{chain_of}
use Rattle.c_steps_laws.specs.Fits.{Fits}
use Rattle.csharp.specs.States as low
use Rattle.csharp.specs.Outcomes as outs
use Rattle.csharp.specs.Outcomes.{Way, Outcome, Normal, Leaves, Fails, Stuck, Clash, NoFuel, Over, then_do}

abbrev pub Moves : TProgramTree → ℕ → State → State → Type 0
Moves p zero s t = s ≡ t
Moves p (suc n) s t = (u : State) × (step p s ≡ Goes u) × Moves p n u t

abbrev pub Leads : TProgramTree → State → State → Type 0
Leads p s t = (n : ℕ) × Moves p n s t

-- the machine makes so many steps and more
abbrev pub Alive : TProgramTree → ℕ → State → Type 0
Alive p zero s = Unit {0}
Alive p (suc n) s = (u : State) × (step p s ≡ Goes u) × Alive p n u

-- a state is reached whose step is this one
abbrev pub LeadsTo : TProgramTree → State → Next → Type 0
LeadsTo p s next = (u : State) × Leads p s u × (step p u ≡ next)

abbrev pub ToSome : TProgramTree → State → Option Next → Type 0
ToSome p s None = ⊥
ToSome p s (Some next) = LeadsTo p s next

-- the first item is one of a loop, with a count that is too much
abbrev pub IsOver : (ℕ → Bool) → List Item → Type 0
IsOver over (Begin k loop ∷ w) = over k ≡ true
IsOver over (Turn k loop ∷ w) = over k ≡ true
IsOver over (Again k loop ∷ w) = over k ≡ true
IsOver over w = ⊥

-- what the machine does from s, where lowered code has this outcome with fuel n: behind a normal end a state is reached that the goal tells
abbrev pub Follows : (ℕ → Bool) → TProgramTree → ℕ → State → List Pos → (low.State → State → Type 0) → (Way → low.State → Option Next) → Outcome → Type 0
Follows over p n s chain goal way (Normal t) = (u : State) × Leads p s u × goal t u
Follows over p n s chain goal way (Leaves k t) = ToSome p s (way k t)
Follows over p n s chain goal way (Fails c at k o m) = (u : State) × Leads p s u × (step p u ≡ Wrong at k o) × (u.memory ≡ m) × (chain_of u.work ≡ chain ++ c)
Follows over p n s chain goal way outs.Waiting = LeadsTo p s Waiting
Follows over p n s chain goal way outs.Stopped = LeadsTo p s Stopped
Follows over p n s chain goal way Stuck = LeadsTo p s Stands
Follows over p n s chain goal way Clash = Unit {0}
Follows over p n s chain goal way NoFuel = Alive p n s
Follows over p n s chain goal way Over = (u : State) × Leads p s u × IsOver over u.work

pub one : (p : TProgramTree) (s t : State) → step p s ≡ Goes t → Leads p s t
one p s t e = (1, (t, e, refl))

pub none : (p : TProgramTree) (s : State) → Leads p s s
none p s = (0, refl)

moves_then : (p : TProgramTree) (n : ℕ) (s t u : State) → Moves p n s t → Leads p t u → Leads p s u
moves_then p zero s t u m l = subst (λ x. Leads p x u) (sym m) l
moves_then p (suc n) s t u (v, e, m) l = let r = moves_then p n v t u m l in (suc r.0, (v, e, r.1))

pub then_leads : (p : TProgramTree) (s t u : State) → Leads p s t → Leads p t u → Leads p s u
then_leads p s t u (n, m) l = moves_then p n s t u m l

pub alive_less : (p : TProgramTree) (n : ℕ) (s : State) → Alive p (suc n) s → Alive p n s
alive_less p zero s a = tt
alive_less p (suc n) s (u, e, a) = (u, e, alive_less p n u a)

alive_step : (p : TProgramTree) (n : ℕ) (s t : State) → step p s ≡ Goes t → Alive p n t → Alive p n s
alive_step p zero s t e a = tt
alive_step p (suc n) s t e a = (t, e, alive_less p n t a)

moves_alive : (p : TProgramTree) (j n : ℕ) (s t : State) → Moves p j s t → Alive p n t → Alive p n s
moves_alive p zero n s t m a = subst (λ x. Alive p n x) (sym m) a
moves_alive p (suc j) n s t (u, e, m) a = alive_step p n s u e (moves_alive p j n u t m a)

pub leads_alive : (p : TProgramTree) (n : ℕ) (s t : State) → Leads p s t → Alive p n t → Alive p n s
leads_alive p n s t (j, m) a = moves_alive p j n s t m a

pub some_after : (p : TProgramTree) (s t : State) (o : Option Next) → Leads p s t → ToSome p t o → ToSome p s o
some_after p s t None l h = h
some_after p s t (Some next) l (u, m, e) = (u, then_leads p s t u l m, e)

-- a step that is known is made
pub leads_on : (p : TProgramTree) (s t : State) → LeadsTo p s (Goes t) → Leads p s t
leads_on p s t (u, l, e) = then_leads p s u t l (one p u t e)

-- what each step keeps, each state keeps that is reached
pub fits_leads : (p : TProgramTree) → ((s t : State) → Fits p s → step p s ≡ Goes t → Fits p t) → (s t : State) → Leads p s t → Fits p s → Fits p t
fits_leads p keeps s t (zero, m) h = subst (λ x. Fits p x) m h
fits_leads p keeps s t (suc n, (u, e, m)) h = fits_leads p keeps u t (n, m) (keeps s u h e)

module _ (over : ℕ → Bool) (p : TProgramTree) where
  pub follows_after : (n : ℕ) (s t : State) (chain : List Pos) (goal : low.State → State → Type 0) (way : Way → low.State → Option Next) (o : Outcome)
      → Leads p s t → Follows over p n t chain goal way o → Follows over p n s chain goal way o
  follows_after n s t chain goal way (Normal r) l (u, m, h) = (u, then_leads p s t u l m, h)
  follows_after n s t chain goal way (Leaves k r) l h = some_after p s t (way k r) l h
  follows_after n s t chain goal way (Fails c at kd o m) l (u, k, e1, e2, e3) = (u, then_leads p s t u l k, e1, e2, e3)
  follows_after n s t chain goal way outs.Waiting l (u, k, h) = (u, then_leads p s t u l k, h)
  follows_after n s t chain goal way outs.Stopped l (u, k, h) = (u, then_leads p s t u l k, h)
  follows_after n s t chain goal way Stuck l (u, k, h) = (u, then_leads p s t u l k, h)
  follows_after n s t chain goal way Clash l h = tt
  follows_after n s t chain goal way NoFuel l h = leads_alive p n s t l h
  follows_after n s t chain goal way Over l (u, k, h) = (u, then_leads p s t u l k, h)

  -- one step pays for one unit of fuel
  pub follows_step : (n : ℕ) (s t : State) (chain : List Pos) (goal : low.State → State → Type 0) (way : Way → low.State → Option Next) (o : Outcome)
      → step p s ≡ Goes t → Follows over p n t chain goal way o → Follows over p (suc n) s chain goal way o
  follows_step n s t chain goal way (Normal r) e h = follows_after n s t chain goal way (Normal r) (one p s t e) h
  follows_step n s t chain goal way (Leaves k r) e h = follows_after n s t chain goal way (Leaves k r) (one p s t e) h
  follows_step n s t chain goal way (Fails c at kd o m) e h = follows_after n s t chain goal way (Fails c at kd o m) (one p s t e) h
  follows_step n s t chain goal way outs.Waiting e h = follows_after n s t chain goal way outs.Waiting (one p s t e) h
  follows_step n s t chain goal way outs.Stopped e h = follows_after n s t chain goal way outs.Stopped (one p s t e) h
  follows_step n s t chain goal way Stuck e h = follows_after n s t chain goal way Stuck (one p s t e) h
  follows_step n s t chain goal way Clash e h = tt
  follows_step n s t chain goal way NoFuel e h = (t, e, h)
  follows_step n s t chain goal way Over e h = follows_after n s t chain goal way Over (one p s t e) h

  -- an outcome and what comes after it
  pub follows_then : (n : ℕ) (s : State) (chain : List Pos) (goal goal' : low.State → State → Type 0) (way way' : Way → low.State → Option Next) (o : Outcome) (go : low.State → Outcome)
      → Follows over p n s chain goal way o
      → ((t : low.State) (u : State) → o ≡ Normal t → Leads p s u → goal t u → Follows over p n u chain goal' way' (go t))
      → ((k : Way) (t : low.State) → ToSome p s (way k t) → ToSome p s (way' k t))
      → Follows over p n s chain goal' way' (then_do o go)
  follows_then n s chain goal goal' way way' (Normal r) go (u, l, h) f g = follows_after n s u chain goal' way' (go r) l (f r u refl l h)
  follows_then n s chain goal goal' way way' (Leaves k r) go h f g = g k r h
  follows_then n s chain goal goal' way way' (Fails c at kd o m) go h f g = h
  follows_then n s chain goal goal' way way' outs.Waiting go h f g = h
  follows_then n s chain goal goal' way way' outs.Stopped go h f g = h
  follows_then n s chain goal goal' way way' Stuck go h f g = h
  follows_then n s chain goal goal' way way' Clash go h f g = tt
  follows_then n s chain goal goal' way way' NoFuel go h f g = h
  follows_then n s chain goal goal' way way' Over go h f g = h

  -- the same outcome, seen from further on
  pub follows_map : (n : ℕ) (s : State) (chain : List Pos) (goal goal' : low.State → State → Type 0) (way way' : Way → low.State → Option Next) (o : Outcome)
      → Follows over p n s chain goal way o
      → ((t : low.State) (u : State) → Leads p s u → goal t u → (v : State) × Leads p u v × goal' t v)
      → ((k : Way) (t : low.State) → ToSome p s (way k t) → ToSome p s (way' k t))
      → Follows over p n s chain goal' way' o
  follows_map n s chain goal goal' way way' (Normal r) (u, l, h) f g = let (v, m, k) = f r u l h in (v, then_leads p s u v l m, k)
  follows_map n s chain goal goal' way way' (Leaves k r) h f g = g k r h
  follows_map n s chain goal goal' way way' (Fails c at kd o m) h f g = h
  follows_map n s chain goal goal' way way' outs.Waiting h f g = h
  follows_map n s chain goal goal' way way' outs.Stopped h f g = h
  follows_map n s chain goal goal' way way' Stuck h f g = h
  follows_map n s chain goal goal' way way' Clash h f g = h
  follows_map n s chain goal goal' way way' NoFuel h f g = h
  follows_map n s chain goal goal' way way' Over h f g = h
