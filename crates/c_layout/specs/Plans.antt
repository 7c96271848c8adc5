-- What a plan for a program is.
use Rattle.std.specs.Prelude.{◌≡◌, ◌<◌, ◌≤◌, ◌==◌, ℕ, if◌then◌else◌, Some, IfSome, IsSome, IsSomeAnd, is_some, List, [], take, length, All, Contains, count_by, slice_get}
use Rattle.c_syntax_written.specs.declared.int_type.IntType.TheVariants as ints
use Rattle.c_syntax.specs.declared.program.Plan.{Plan}
use Rattle.c_syntax.specs.Types as types
use Rattle.c_syntax.specs.Program.{TFunctionTree, TProgramTree}
use Rattle.c_layout.specs.Jumps.{GotosStay}
use Rattle.c_layout.specs.Calls.{PlacedCall, function_calls, IsChain}
use Rattle.c_layout.specs.MainFunction.{main_of}
use Rattle.c_layout.specs.WellTyped.{EachOf}

-- a function that a run may begin with: it has a body, no parameters and the result int (C11 5.1.2.2.1p1)
pub record IsStart (function : TFunctionTree) : Type 0 where
  pub body : IsSome function.body
  pub params : function.params ≡ []
  pub result : function.result ≡ types.Int ints.Int

-- the function of this number has a body
abbrev pub HasBody : TProgramTree → ℕ → Type 0
HasBody program f = IsSomeAnd (slice_get program.functions f) (λ function. IsSome function.body)

-- a function with a body stands in the order once, and another not at all
abbrev pub IsOrdered : Plan → ℕ → TFunctionTree → Type 0
IsOrdered plan f function = count_by (λ x. x == f) plan.order ≡ (if is_some function.body then 1 else 0)

-- the function main, and the functions with a body, each after those that it calls; chains of calls are short, and no goto leads into a block
pub record IsPlanFor (program : TProgramTree) (plan : Plan) : Type 0 where
  pub main : main_of program ≡ Some plan.main
  pub start : IsSomeAnd (slice_get program.functions plan.main) IsStart
  pub order_there : All (λ f. f < length program.functions) plan.order
  pub order_once : EachOf program.functions (IsOrdered plan)
  pub callees_first : EachOf plan.order (λ k f. All (λ call. Contains (take k plan.order) call.callee) (function_calls program f))
  pub called_bodies : (f : ℕ) → All (λ call. HasBody program call.callee) (function_calls program f)
  pub short_chains : (chain : List PlacedCall) → IsChain program plan.main chain → length chain ≤ 64
  pub gotos_stay : All (λ function. IfSome function.body (GotosStay [])) program.functions
