-- States in which each temporary has a value of its type, and code that leaves them so (this profile).
use Rattle.std.specs.Prelude.{◌≡◌, ℕ, List, length, Option, Some, None, IsSomeAnd, slice_get}
use Rattle.block_mem.specs.declared.types.Scalar.{Scalar}
use Rattle.block_mem.specs.declared.types.Value.{Value}
use Rattle.block_mem.specs.Bytes.{IsOf}
use Rattle.block_mem.specs.Proper.{IsMade}
use Rattle.c_objects.specs.Kept.{KeepsObjects}
use Rattle.csharp.specs.Trees.{CsStmtTree, CsProgramTree}
use Rattle.csharp.specs.States.{State}
use Rattle.csharp.specs.Outcomes.{Way, ByExit, ByGoto, ByReturn, Outcome, Normal, Leaves, Fails}
use Rattle.csharp.specs.Formed.{Around, Each, AreNumbersThere, GivesType, HoldsType, IsTyped}

-- a value of a type in a memory of so many blocks: a number of the type, the null pointer, or a pointer to a block that was made
pub record IsTypedValue (made : ℕ) (ty : Scalar) (v : Value) : Type 0 where
  pub typed : IsOf ty v
  pub of_made : IsMade made v

-- each temporary that has a type has a value of it
abbrev pub AreTempsTyped : List Scalar → ℕ → List Value → Type 0
AreTempsTyped types made temps = (d : ℕ) (ty : Scalar) → slice_get types d ≡ Some ty → IsSomeAnd (slice_get temps d) (IsTypedValue made ty)

-- the temporaries are those of the program, with values of their types, and memory keeps what every memory of the program's objects keeps
pub record IsTypedState (q : CsProgramTree) (s : State) : Type 0 where
  pub count : length s.temps ≡ length q.temps
  pub temps : AreTempsTyped q.temps (length s.memory.blocks) s.temps
  pub memory : KeepsObjects q.objects s.memory

-- what code returns goes into this temporary, if into any
abbrev pub ReturnsInto : CsProgramTree → Option ℕ → Around → CsStmtTree → Type 0
ReturnsInto q None around a = Unit {0}
ReturnsInto q (Some d) around a = Each (λ here b. GivesType q (Some d) b) around a

-- each statement in it is typed, and names what is there
pub record IsTypedCode (q : CsProgramTree) (into : Option ℕ) (around : Around) (a : CsStmtTree) : Type 0 where
  pub labels : List ℕ
  pub types : Each (λ here b. IsTyped q b) around a
  pub numbers : Each (AreNumbersThere q labels) around a
  pub returns : ReturnsInto q into around a

-- a value of some type: that of the temporary, where it goes into one
abbrev pub FitsInto : CsProgramTree → Option ℕ → ℕ → Value → Type 0
FitsInto q None made v = (ty : Scalar) × IsTypedValue made ty v
FitsInto q (Some d) made v = (ty : Scalar) × HoldsType q ty d × IsTypedValue made ty v

-- what is returned fits
abbrev pub IsTypedWay : CsProgramTree → Option ℕ → ℕ → Way → Type 0
IsTypedWay q into made (ByExit level) = Unit {0}
IsTypedWay q into made (ByGoto label) = Unit {0}
IsTypedWay q into made (ByReturn None) = Unit {0}
IsTypedWay q into made (ByReturn (Some v)) = FitsInto q into made v

-- the state behind code is typed, a value that it returns fits, and at a check that fails memory keeps what it keeps
abbrev pub IsTypedOutcome : CsProgramTree → Option ℕ → Outcome → Type 0
IsTypedOutcome q into (Normal t) = IsTypedState q t
IsTypedOutcome q into (Leaves way t) = IsTypedState q t × IsTypedWay q into (length t.memory.blocks) way
IsTypedOutcome q into (Fails chain at kind operand m) = KeepsObjects q.objects m
IsTypedOutcome q into o = Unit {0}
