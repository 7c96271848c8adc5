-- What a lowering keeps of each run, and of the program.
use Rattle.std.specs.Prelude.{◌≡◌, ℕ, ℤ, Bool, List, [], ◌∷◌, ◌++◌, Contains, Some, slice_get}
use Rattle.c_syntax_written.specs.declared.int_type.IntType.TheVariants as ints
use Rattle.c_syntax_written.specs.declared.place.Pos.{Pos}
use Rattle.c_syntax.specs.declared.alarm.WrongKind.{WrongKind}
use Rattle.c_syntax.specs.declared.program.Plan.{Plan}
use Rattle.c_syntax.specs.Operand.{Operand}
use Rattle.c_syntax.specs.TypedStmt as c
use Rattle.c_syntax.specs.TypedStmt.{TStmtTree, TStmtTrees}
use Rattle.c_syntax.specs.Program.{TProgramTree}
use Rattle.c_layout.specs.Calls.{function_calls}
use Rattle.c_layout.specs.Checks.{MakesCheck}
use Rattle.block_mem.specs.declared.types.Value.TheVariants as values
use Rattle.c_values.specs.Places.{ObjectMemory}
use Rattle.c_steps.specs.Bounds.{IsForwardOnly, IsInputFree, TurnsWithin}
use Rattle.c_steps.specs.Laws.{IsLast}
use Rattle.c_steps.specs.Runs.{after, GoesWrong}
use Rattle.c_steps.specs.States as machine
use Rattle.c_steps.specs.Steps.{step}
use Rattle.c_steps_laws.specs.Fits.{Runs}
use Rattle.csharp.specs.Trees.{CsStmtTree, Checked, Call, Loop, Label, Input, CsProgramTree}
use Rattle.csharp.specs.States as csharp
use Rattle.csharp.specs.Outcomes.{Outcome, Leaves, ByReturn, Waiting, Stopped, Over}
use Rattle.csharp.specs.Meaning.{CheckFails, beyond, bounded_run, run}
use Rattle.csharp.specs.Formed.{IsFormed, Throughout}
use Rattle.csharp_laws.specs.Enough as forward
use Rattle.lower_trees.specs.LowerProgram.{lower}

-- ---- runs

-- Each run of the machine that goes wrong fails that check, with that operand and memory, and no other run fails one; a run that ends, waits or is stopped
-- comes to the like outcome; and a loop turns no more often than the machine's
pub record Keeps (p : TProgramTree) (main : ℕ) (q : CsProgramTree) (inputs : List ℤ) : Type 0 where
  pub misses_none : (s : machine.State) (chain : List Pos) (at : Pos) (kind : WrongKind) (operand : Operand)
      → GoesWrong p main inputs s chain at kind operand → CheckFails q inputs chain at kind operand s.memory
  pub fails_alone : (chain : List Pos) (at : Pos) (kind : WrongKind) (operand : Operand) (m : ObjectMemory)
      → CheckFails q inputs chain at kind operand m → (s : machine.State) × (s.memory ≡ m) × GoesWrong p main inputs s chain at kind operand
  pub ends : (n : ℕ) (v : ℤ) → step p (after p main inputs n) ≡ machine.Ended v
      → (fuel : ℕ) × (t : csharp.State) × (run q fuel inputs ≡ Leaves (ByReturn (Some (values.Int ints.Int v))) t)
  pub waits : (n : ℕ) → step p (after p main inputs n) ≡ machine.Waiting → (fuel : ℕ) × (run q fuel inputs ≡ Waiting)
  pub stops : (n : ℕ) → step p (after p main inputs n) ≡ machine.Stopped → (fuel : ℕ) × (run q fuel inputs ≡ Stopped)
  pub turns : (bound : ℕ) → TurnsWithin p main inputs bound → (fuel : ℕ) → bounded_run (beyond bound) q fuel inputs ≡ Over → ⊥

-- the machine's run comes to a last state, where gotos lead forwards and loops turn within a bound
abbrev pub Finishes : TProgramTree → ℕ → Type 0
Finishes p main = (bound : ℕ) (inputs : List ℤ) → IsForwardOnly p → TurnsWithin p main inputs bound → (n : ℕ) × IsLast p (after p main inputs n)

-- ---- what stands in the lowered program

-- the places of loops, and those of labels with their numbers, in the order of the text
unfoldable mutual
  pub loops_of : TStmtTree → List Pos
  loops_of (c.Block at kind xs items) = loops_in items
  loops_of (c.If at e a b) = loops_of a ++ loops_of b
  loops_of (c.While at e b) = at ∷ loops_of b
  loops_of (c.DoWhile at b e) = at ∷ loops_of b
  loops_of (c.For at xs head e step b) = loops_in head ++ at ∷ loops_of b
  loops_of (c.Switch at e kind xs items) = loops_in items
  loops_of s = []

  pub loops_in : TStmtTrees → List Pos
  loops_in c.none = []
  loops_in (c.more item rest) = loops_of item ++ loops_in rest

unfoldable mutual
  pub marks_of : TStmtTree → List (Pos × ℕ)
  marks_of (c.Block at kind xs items) = marks_in items
  marks_of (c.If at e a b) = marks_of a ++ marks_of b
  marks_of (c.While at e b) = marks_of b
  marks_of (c.DoWhile at b e) = marks_of b
  marks_of (c.For at xs head e step b) = marks_in head ++ marks_of b
  marks_of (c.Switch at e kind xs items) = marks_in items
  marks_of (c.Label at label) = (at, label) ∷ []
  marks_of s = []

  pub marks_in : TStmtTrees → List (Pos × ℕ)
  marks_in c.none = []
  marks_in (c.more item rest) = marks_of item ++ marks_in rest

abbrev pub IfBody : TProgramTree → ℕ → (TStmtTree → Type 0) → Type 0
IfBody p f P = (function : _) (body : TStmtTree) → slice_get p.functions f ≡ Some function → function.body ≡ Some body → P body

-- a statement of function f is one that a node of the function at that place makes
abbrev pub IsOf : TProgramTree → ℕ → CsStmtTree → Type 0
IsOf p f (Checked c) = MakesCheck p f c.pos c.check
IsOf p f (Call c) = Contains (function_calls p f) (record { pos = c.pos; callee = c.function })
IsOf p f (Loop at a) = IfBody p f (λ body. Contains (loops_of body) at)
IsOf p f (Label at label) = IfBody p f (λ body. Contains (marks_of body) (at, label))
IsOf p f (Input d t) = IsInputFree p → ⊥
IsOf p f a = Unit {0}

pub record Lowers (p : TProgramTree) (plan : Plan) (q : CsProgramTree) : Type 0 where
  pub formed : IsFormed q
  pub structs : q.structs ≡ p.structs
  pub objects : q.objects ≡ p.objects
  pub made : Throughout (λ f around a. IsOf p f a) q
  pub forward : IsForwardOnly p → forward.IsForwardOnly q
  pub keeps : (inputs : List ℤ) → Keeps p plan.main q inputs
  pub finishes : Finishes p plan.main

abbrev pub LoweringIsRight : Type 0
LoweringIsRight = (p : TProgramTree) (plan : Plan) → Runs p plan → Lowers p plan (lower p plan)
