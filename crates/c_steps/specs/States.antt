-- Machine state, and what a step gives.
use Rattle.std.specs.Prelude.{ℤ, List, Option, Some, None}
use Rattle.c_syntax_written.specs.declared.place.Pos.{Pos}
use Rattle.c_syntax.specs.declared.alarm.WrongKind.{WrongKind}
use Rattle.c_syntax.specs.Operand.{Operand}
use Rattle.block_mem.specs.declared.types.Value.{Value}
use Rattle.c_values.specs.declared.values.Given.{Given}
use Rattle.c_values.specs.declared.values.Given.TheVariants as givens
use Rattle.c_values.specs.Looks.{Judged, Passes, FailsAs, NoOperand, Outcome, Gives, GoesWrong, IsStuck}
use Rattle.c_values.specs.Places.{ObjectMemory}
use Rattle.c_steps.specs.Work.{Item}

-- What stands on the stack: what an expression gave, or the place of a struct's bytes. Since the run alone knows which lvalue named a struct, as in
-- `c ? a : b`, the lvalue's place in the text is kept, where the copy is checked (C11 6.5.16.1p3)
pub data Held : Type 0 where
  Plain : Given → Held
  Struct : Pos → Value → Held

-- the work that is left, the stack, the memory with the block of each live object, and the inputs that are left
pub record State : Type 0 where
  pub work : List Item
  pub stack : List Held
  pub memory : ObjectMemory
  pub inputs : List ℤ

-- A step gives a new state; or the run has ended with a number, waits for an input that is not there, was stopped by `__assume`, or is wrong at a place, of
-- a kind, with the operand of the check that fails. Where no row fits, the machine stands: no run of a well typed program comes to that
pub data Next : Type 0 where
  Goes : State → Next
  Ended : ℤ → Next
  Waiting : Next
  Stopped : Next
  Wrong : Pos → WrongKind → Operand → Next
  Stands : Next

abbrev pub state : List Item → List Held → ObjectMemory → List ℤ → State
state work stack m inputs = record { work = work; stack = stack; memory = m; inputs = inputs }

abbrev pub goes : List Item → List Held → ObjectMemory → List ℤ → Next
goes work stack m inputs = Goes (state work stack m inputs)

-- a value on the stack
abbrev pub held : Value → Held
held v = Plain (givens.Value v)

-- what comes where all looks pass
abbrev pub judged : Judged → Pos → Next → Next
judged Passes at next = next
judged (FailsAs kind x) at next = Wrong at kind x
judged NoOperand at next = Stands

-- what comes behind the value of an operator
abbrev pub with_value : Outcome → Pos → (Value → Next) → Next
with_value (Gives v) at next = next v
with_value (GoesWrong kind x) at next = Wrong at kind x
with_value IsStuck at next = Stands

-- what comes behind something that is there
abbrev pub with_some : {A : Type 0} → Option A → (A → Next) → Next
with_some None next = Stands
with_some (Some a) next = next a
