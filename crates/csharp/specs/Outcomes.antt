-- What a statement comes to (this profile).
use Rattle.std.specs.Prelude.{ℕ, zero, suc, List, [], ◌∷◌, Option, Some, None}
use Rattle.c_syntax_written.specs.declared.place.Pos.{Pos}
use Rattle.c_syntax.specs.declared.alarm.WrongKind.{WrongKind}
use Rattle.c_syntax.specs.Operand.{Operand}
use Rattle.block_mem.specs.declared.types.Value.{Value}
use Rattle.c_values.specs.Places.{ObjectMemory}
use Rattle.c_values.specs.Looks.{Judged, Passes, FailsAs, NoOperand}
use Rattle.csharp.specs.Trees.{CsCallTree}
use Rattle.csharp.specs.States.{State}
use Rattle.csharp.specs.Actions.{leave, given_to}

-- how a statement leaves what is around it
pub data Way : Type 0 where
  ByExit : ℕ → Way
  ByGoto : ℕ → Way
  ByReturn : Option Value → Way

-- normal; left; a failed check, with its call chain, place, kind, operand, and the memory; waiting for an input; stopped by an assumption; stuck; a scope whose
-- object lives already; out of fuel; or more turns of a loop than are asked for
pub data Outcome : Type 0 where
  Normal : State → Outcome
  Leaves : Way → State → Outcome
  Fails : List Pos → Pos → WrongKind → Operand → ObjectMemory → Outcome
  Waiting : Outcome
  Stopped : Outcome
  Stuck : Outcome
  Clash : Outcome
  NoFuel : Outcome
  Over : Outcome

-- what comes behind is done after a normal outcome alone
abbrev pub then_do : Outcome → (State → Outcome) → Outcome
then_do (Normal s) next = next s
then_do (Leaves way s) next = Leaves way s
then_do (Fails chain at kind operand m) next = Fails chain at kind operand m
then_do Waiting next = Waiting
then_do Stopped next = Stopped
then_do Stuck next = Stuck
then_do Clash next = Clash
then_do NoFuel next = NoFuel
then_do Over next = Over

-- stuck where there is nothing
abbrev pub or_stuck : {A : Type 0} → Option A → (A → Outcome) → Outcome
or_stuck None next = Stuck
or_stuck (Some a) next = next a

abbrev pub to_normal : Option State → Outcome
to_normal s = or_stuck s Normal

abbrev pub or_waits : Option State → Outcome
or_waits None = Waiting
or_waits (Some s) = Normal s

-- a check that was judged, where nothing is called yet
abbrev pub told : Judged → Pos → State → Outcome
told Passes at s = Normal s
told (FailsAs kind operand) at s = Fails [] at kind operand s.memory
told NoOperand at s = Stuck

-- exit 0 ends at the block, and any other has one block less to leave
abbrev pub at_block : Outcome → Outcome
at_block (Leaves (ByExit zero) s) = Normal s
at_block (Leaves (ByExit (suc level)) s) = Leaves (ByExit level) s
at_block o = o

-- the objects of a scope end where it ends and where it is left
abbrev pub at_scope : List ℕ → Outcome → Outcome
at_scope xs (Normal s) = Normal (leave xs s)
at_scope xs (Leaves way s) = Leaves way (leave xs s)
at_scope xs o = o

-- the end of a call: its value, or none, goes into its temporaries, and what failed has its place in front of the chain. No exit and no goto leads out of a
-- function
abbrev pub at_call : CsCallTree → Outcome → Outcome
at_call c (Normal s) = Normal (given_to c None s)
at_call c (Leaves (ByReturn v) s) = Normal (given_to c v s)
at_call c (Leaves way s) = Stuck
at_call c (Fails chain at kind operand m) = Fails (c.pos ∷ chain) at kind operand m
at_call c o = o
