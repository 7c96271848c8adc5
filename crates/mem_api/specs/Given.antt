-- What a call may be given: parts of the program that the state is for, as they stand in a formed program.
use Rattle.std.specs.Prelude.{[]}
use Rattle.csharp.specs.Trees.{CsStmtTree, CsProgramTree}
use Rattle.csharp.specs.Formed.{nothing_around, AreNumbersThere, IsTyped, IsCheckFormed}

-- the statement that a call stands for names what is there, is typed, and its check has its operands
pub record IsOf (q : CsProgramTree) (a : CsStmtTree) : Type 0 where
  pub numbers : AreNumbersThere q [] nothing_around a
  pub typed : IsTyped q a
  pub check : IsCheckFormed q a

-- and the state is for that program
abbrev pub IsGiven : (CsProgramTree → Type 0) → CsStmtTree → Type 0
IsGiven for a = (q : CsProgramTree) × for q × IsOf q a

-- two states are for one program
abbrev pub AreForOne : (CsProgramTree → Type 0) → (CsProgramTree → Type 0) → Type 0
AreForOne for other = (q : CsProgramTree) × for q × other q
