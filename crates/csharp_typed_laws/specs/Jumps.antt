-- Exits and gotos of formed code lead to what stands around it, and so never out of a function (this profile).
use Rattle.std.specs.Prelude.{◌≡◌, ◌<◌, ℕ, Bool, List, Contains, Option, Some, slice_get}
use Rattle.block_mem.specs.declared.types.Value.{Value}
use Rattle.csharp.specs.Trees.{CsStmtTree, CsFunctionTree, CsProgramTree}
use Rattle.csharp.specs.States.{State}
use Rattle.csharp.specs.Outcomes.{Way, ByExit, ByGoto, ByReturn, Outcome, Leaves}
use Rattle.csharp.specs.Formed.{Around, AreNumbersThere, Each, IsFormed, StaysOutside}
use Rattle.csharp.specs.Meaning.{bounded_exec}

-- a way leads to a block or a label around code, or out of its function by a return
abbrev pub LeadsAround : Around → Way → Type 0
LeadsAround around (ByExit level) = level < around.exits
LeadsAround around (ByGoto label) = Contains around.labels label
LeadsAround around (ByReturn v) = Unit {0}

abbrev pub LeavesAround : Around → Outcome → Type 0
LeavesAround around (Leaves way t) = LeadsAround around way
LeavesAround around o = Unit {0}

-- so leaves code of which each exit names a block around it, and each goto a label
abbrev pub JumpsLeadAround : Type 0
JumpsLeadAround = (over : ℕ → Bool) (q : CsProgramTree) (fuel : ℕ) (labels : List ℕ) (around : Around) (a : CsStmtTree) (s : State)
    → Each (AreNumbersThere q labels) around a → Each StaysOutside around a → LeavesAround around (bounded_exec over q fuel a s)

-- the body of a function of a formed program is left by a return alone, so no call is stuck because of an exit or a goto
abbrev pub BodiesReturn : Type 0
BodiesReturn = (over : ℕ → Bool) (q : CsProgramTree) (fuel f : ℕ) (function : CsFunctionTree) (s t : State) (way : Way)
    → IsFormed q → slice_get q.functions f ≡ Some function → bounded_exec over q fuel function.body s ≡ Leaves way t
    → (v : Option Value) × (way ≡ ByReturn v)
