-- Runs: the state after n steps, and going wrong (this profile).
use Rattle.std.specs.Prelude.{◌≡◌, ℕ, zero, suc, ℤ, List, [], ◌∷◌, ◌++◌, Some, None}
use Rattle.c_syntax_written.specs.declared.place.Pos.{Pos}
use Rattle.c_syntax.specs.declared.alarm.WrongKind.{WrongKind}
use Rattle.c_syntax.specs.Operand.{Operand}
use Rattle.c_syntax.specs.Program.{TProgramTree}
use Rattle.c_objects.specs.Statics as statics
use Rattle.c_steps.specs.Work.{Item, Enter, GivesZero, Reach, Finish}
use Rattle.c_steps.specs.States.{State, state, Next, Goes, Wrong}
use Rattle.c_steps.specs.Steps.{step}

-- the start of a run of main: objects of static duration live and have their initial bytes
abbrev pub start : TProgramTree → ℕ → List ℤ → State
start p main inputs = state (Enter None main GivesZero ∷ Finish ∷ []) [] (statics.start p.objects p.initial) inputs

-- the state after a step, which stays where a step gives no new one
abbrev pub moved_to : State → Next → State
moved_to s (Goes t) = t
moved_to s next = s

abbrev pub goes_on : TProgramTree → State → State
goes_on p s = moved_to s (step p s)

-- the state after so many steps
abbrev pub steps : TProgramTree → ℕ → State → State
steps p zero s = s
steps p (suc n) s = steps p n (goes_on p s)

-- After: the state after n steps from the start
abbrev pub after : TProgramTree → ℕ → List ℤ → ℕ → State
after p main inputs n = steps p n (start p main inputs)

-- a state that a run comes to
abbrev pub IsReached : TProgramTree → ℕ → List ℤ → State → Type 0
IsReached p main inputs s = (n : ℕ) × (after p main inputs n ≡ s)

-- the places of the calls whose end is still to be reached, outermost first; main has no call
abbrev pub calls_in : List Item → List Pos
calls_in [] = []
calls_in (Reach (Some at) end ∷ work) = calls_in work ++ at ∷ []
calls_in (item ∷ work) = calls_in work

-- the call chain of a state. At the end of a function it is the caller's, since what is wrong there is what the caller does with the call's value
abbrev pub chain_of : List Item → List Pos
chain_of (Reach at end ∷ work) = calls_in work
chain_of work = calls_in work

-- Going wrong: a run reaches this state, whose step is wrong at this chain, place and kind, with this operand of the failing check
pub record GoesWrong
    (p : TProgramTree) (main : ℕ) (inputs : List ℤ) (s : State) (chain : List Pos) (at : Pos) (kind : WrongKind) (operand : Operand) : Type 0 where
  pub reached : IsReached p main inputs s
  pub wrong : step p s ≡ Wrong at kind operand
  pub called : chain_of s.work ≡ chain

-- a run goes wrong at this chain, place and kind
abbrev pub IsWrongAt : TProgramTree → ℕ → List ℤ → List Pos → Pos → WrongKind → Type 0
IsWrongAt p main inputs chain at kind = (s : State) × (operand : Operand) × GoesWrong p main inputs s chain at kind operand
