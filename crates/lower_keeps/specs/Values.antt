-- What the code of an expression tells of the machine, from the state in which the expression is next.
use Rattle.std.specs.Prelude.{◌≡◌, ℕ, Bool, ◌*◌, ◌<◌, ◌≤◌, List, ◌∷◌, ◌++◌, length, All, Contains, Option, Some, slice_get}
use Rattle.c_syntax_written.specs.declared.place.Pos.{Pos}
use Rattle.c_syntax.specs.declared.program.Plan.{Plan}
use Rattle.c_syntax.specs.GivenType.{given_type}
use Rattle.c_syntax.specs.TypedExpr.{TExprTree}
use Rattle.c_syntax.specs.TypedStmt.{TStmtTree}
use Rattle.c_syntax.specs.Program.{TFunctionTree, TProgramTree}
use Rattle.c_layout.specs.Calls.{calls_of, function_calls}
use Rattle.c_layout.specs.TypedNodes.{IsTypedExpr}
use Rattle.block_mem.specs.declared.types.Value.{Value}
use Rattle.c_steps.specs.Runs.{steps, calls_in, chain_of}
use Rattle.c_steps.specs.States as machine
use Rattle.c_steps.specs.States.{Held, Struct, state, held}
use Rattle.c_steps.specs.Steps.{step}
use Rattle.c_steps.specs.Work.{Item, Eval}
use Rattle.c_steps_laws.specs.Fits.{Fits, Runs}
use Rattle.c_steps_laws.specs.Wants.{Want, Of, OfStruct, Anything, want_of}
use Rattle.csharp.specs.Meaning.{exec}
use Rattle.csharp.specs.Outcomes as outs
use Rattle.csharp.specs.Outcomes.{Outcome}
use Rattle.csharp.specs.States as low
use Rattle.csharp.specs.States.{value_of}
use Rattle.csharp.specs.Trees.{CsExprTree, CsProgramTree}
use Rattle.lower_trees.specs.LowerExpr.{lower_expr}
use Rattle.lower_trees.specs.LowerProgram.{param_temps, body_code, lower}

-- the machine comes to a state
abbrev pub ComesTo : TProgramTree → machine.State → machine.State → Type 0
ComesTo p s t = (n : ℕ) × (steps p n s ≡ t)

-- it comes to one whose step is this
abbrev pub StepsAs : TProgramTree → machine.State → machine.Next → Type 0
StepsAs p s next = (t : machine.State) × ComesTo p s t × (step p t ≡ next)

-- what stands on the stack is what the code's value is: a value; a struct, whose address it is; or anything, where no value is wanted
abbrev pub IsGiven : Want → Option Value → Held → Type 0
IsGiven (Of ty) o h = (v : Value) × (o ≡ Some v) × (h ≡ held v)
IsGiven OfStruct o h = (from : Pos) × (v : Value) × (o ≡ Some v) × (h ≡ Struct from v)
IsGiven Anything o h = Unit {0}

-- Behind the code what the expression gives is on the stack, with the memory and the inputs that are left; a check that fails is what goes wrong first; and
-- out of fuel, the machine makes as many steps. The code comes to nothing else
abbrev pub TellsValue : TProgramTree → Want → CsExprTree → List Item → List Held → machine.State → ℕ → Outcome → Type 0
TellsValue p want value w s from fuel (outs.Normal t) =
    (h : Held) × IsGiven want (value_of value t) h × ComesTo p from (state w (h ∷ s) t.memory t.inputs)
TellsValue p want value w s from fuel (outs.Fails chain at kind operand m) =
    (t : machine.State) × ComesTo p from t × (step p t ≡ machine.Wrong at kind operand) × (t.memory ≡ m) × (chain_of t.work ≡ calls_in w ++ chain)
TellsValue p want value w s from fuel outs.Waiting = StepsAs p from machine.Waiting
TellsValue p want value w s from fuel outs.Stopped = StepsAs p from machine.Stopped
TellsValue p want value w s from fuel outs.NoFuel = (n : ℕ) → n < fuel → (t : machine.State) × (step p (steps p n from) ≡ machine.Goes t)
TellsValue p want value w s from fuel o = ⊥

-- each typed expression whose calls are the function's, at a depth behind these rows, where there are as many temporaries as it uses, from a state that fits
abbrev pub TellValues : TProgramTree → CsProgramTree → ℕ → ℕ → Type 0
TellValues p q f first = (e : TExprTree) (live : List ℕ) (wanted : Bool) (d : ℕ)
    → IsTypedExpr (record { program = p; live = live }) wanted e → All (Contains (function_calls p f)) (calls_of e) → first ≤ d
    → (w : List Item) (s : List Held) (l : low.State) (fuel : ℕ)
    → 12 * (lower_expr p d e).value.top ≤ length l.temps → Fits p (state (Eval e ∷ w) s l.memory l.inputs)
    → TellsValue p (want_of (given_type e)) (lower_expr p d e).value.value w s (state (Eval e ∷ w) s l.memory l.inputs) fuel
    (exec q fuel (lower_expr p d e).value.before l)

-- a function has its first row, at which its body is lowered, and from there on the code of expressions tells what the machine does
abbrev pub LoweredValuesTell : Type 0
LoweredValuesTell = (p : TProgramTree) (plan : Plan) → Runs p plan
    → (f : ℕ) (function : TFunctionTree) (body : TStmtTree) → slice_get p.functions f ≡ Some function → function.body ≡ Some body
    → (first : ℕ) × (slice_get (lower p plan).functions f ≡ Some (record { params = param_temps p first function.params; body = body_code p f first function.params body }))
    × TellValues p (lower p plan) f first
