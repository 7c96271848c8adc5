-- How much fuel is enough, where each goto leads forwards and no loop makes more turns than are asked for (this profile).
use Rattle.std.specs.Prelude.{◌≡◌, ℕ, zero, suc, ◌+◌, ◌≤◌, List, [], ◌∷◌, length, Contains, Option, Some, None, slice_get}
use Rattle.c_layout.specs.WellTyped.{EachOf}
use Rattle.csharp.specs.Trees.{CsStmtTree, Sequence, If, Loop, Block, Scope, Switch, Goto, Call, Label, CsStmtTrees, none, more, CsFunctionTree, CsProgramTree}
use Rattle.csharp.specs.States.{State}
use Rattle.csharp.specs.Outcomes.{NoFuel}
use Rattle.csharp.specs.Formed.{Around, Each, AreCallsFounded, gathered_in, labels_among, nothing_around}
use Rattle.csharp.specs.Meaning.{beyond, bounded_exec, later_by}

-- the label that a statement itself jumps to
abbrev pub gotos_of : CsStmtTree → List ℕ
gotos_of (Goto label) = label ∷ []
gotos_of a = []

-- no goto behind a label names it
abbrev pub IsNotNamedBehind : CsStmtTree → CsStmtTrees → Type 0
IsNotNamedBehind (Label at l) rest = Contains (gathered_in gotos_of rest) l → ⊥
IsNotNamedBehind item rest = Unit {0}

abbrev pub AreForward : CsStmtTrees → Type 0
AreForward none = Unit {0}
AreForward (more item rest) = IsNotNamedBehind item rest × AreForward rest

abbrev pub IsForward : Around → CsStmtTree → Type 0
IsForward around (Scope xs items) = AreForward items
IsForward around (Switch e xs items) = AreForward items
IsForward around a = Unit {0}

-- each goto leads forwards
abbrev pub IsForwardOnly : CsProgramTree → Type 0
IsForwardOnly q = EachOf q.functions (λ f function. Each IsForward nothing_around function.body)

-- the fuel that is enough for a statement, where loops make at most so many turns an entry, from what each call needs. A turn, a goto and a call take one unit
abbrev mutual
  pub need : ℕ → (ℕ → ℕ) → CsStmtTree → ℕ
  need bound call (Sequence a b) = need bound call a + need bound call b
  need bound call (If e a b) = need bound call a + need bound call b
  need bound call (Loop at a) = need bound call a + suc bound
  need bound call (Block a) = need bound call a
  need bound call (Scope xs items) = need_in bound call items + length (labels_among items)
  need bound call (Switch e xs items) = need_in bound call items + length (labels_among items)
  need bound call (Call c) = suc (call c.function)
  need bound call a = 0

  pub need_in : ℕ → (ℕ → ℕ) → CsStmtTrees → ℕ
  need_in bound call none = 0
  need_in bound call (more item rest) = need bound call item + need_in bound call rest

abbrev pub need_of : ℕ → (ℕ → ℕ) → Option CsFunctionTree → ℕ
need_of bound call None = 0
need_of bound call (Some function) = need bound call function.body

-- what a call of a function needs, where calls nest at most so deep
abbrev pub call_need : ℕ → CsProgramTree → ℕ → ℕ → ℕ
call_need bound q zero f = 0
call_need bound q (suc depth) f = need_of bound (call_need bound q depth) (slice_get q.functions f)

-- a body of rank below a depth comes to an outcome other than out of fuel: with enough fuel, loops within the bound, and calls that lead down
abbrev pub FuelIsEnough : Type 0
FuelIsEnough = (bound : ℕ) (q : CsProgramTree) (founded : AreCallsFounded q) → IsForwardOnly q
    → (f : ℕ) (function : CsFunctionTree) → slice_get q.functions f ≡ Some function
    → (fuel : ℕ) (s : State) → need bound (call_need bound q (founded.rank f)) function.body ≤ fuel
    → bounded_exec (beyond bound) q fuel function.body s ≡ NoFuel → ⊥
