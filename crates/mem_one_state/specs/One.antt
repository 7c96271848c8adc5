-- The one state of a run without inputs, where it is known.
use Rattle.std.specs.Prelude.{◌≡◌, ℕ, ◌<◌, List, length, All, Option, Some, None, IfSome}
use Rattle.c_syntax.specs.Types.{ObjectTree}
use Rattle.c_values.specs.Places.{ObjectMemory}
use Rattle.csharp.specs.States.{State}
use Rattle.csharp_state.specs.Belongs.{Belongs, HasObjects}
use Rattle.mem_api.specs.Owned.{IsOwned}
use Rattle.csharp_state.specs.declared.state.Step.{Step}
use Rattle.csharp_state.specs.declared.state.Step.TheVariants as steps

-- the same temporaries and the same memory; inputs may differ
pub record IsSame (t s : State) : Type 0 where
  pub temps : t.temps ≡ s.temps
  pub memory : t.memory ≡ s.memory

-- where the one state is known, the state is that one, but for its inputs
abbrev pub IsOf : Option State → State → Type 0
IsOf one s = IfSome one (λ t. IsSame t s)

-- where it is known, its memory is that of these objects
abbrev pub IsFor : List ObjectTree → Option State → Type 0
IsFor objects one = IfSome one (λ s. Belongs objects s.memory)

-- memory of some program's objects: each block is that of one of them, and what lives has a block that does
abbrev pub IsProgramMemory : ObjectMemory → Type 0
IsProgramMemory m = HasObjects m × IsOwned (length m.places) m

-- where it is known, its memory is such a one
abbrev pub IsHeld : Option State → Type 0
IsHeld one = IfSome one (λ s. IsProgramMemory s.memory)

-- these names are numbers of the objects for which it is
abbrev pub AreNamesOf : List ℕ → Option State → Type 0
AreNamesOf names one = (objects : List ObjectTree) × IsFor objects one × All (λ name. name < length objects) names

-- what an action leaves: the state behind it, or nothing that is known
abbrev pub left_by : Step → State → Option State
left_by steps.Done s = Some s
left_by steps.Barred s = None
