-- Calls: arguments become the values of parameters, and what a function gives whose end is reached (C11 6.5.2.2, 6.9.1).
use Rattle.std.specs.Prelude.{ℕ, zero, suc, ℤ, pos, Bool, if◌then◌else◌, List, [], ◌∷◌, length, Option, Some, None, option_and_then, slice_get}
use Rattle.c_syntax_written.specs.declared.place.Pos.{Pos}
use Rattle.c_syntax_written.specs.declared.int_type.IntType.TheVariants as ints
use Rattle.c_syntax.specs.declared.alarm.WrongKind.TheVariants as kinds
use Rattle.c_syntax.specs.Types.{CTypeTree, ObjectTree}
use Rattle.c_syntax.specs.Operand.{End}
use Rattle.c_syntax.specs.Operand as operands
use Rattle.c_syntax.specs.TypedExpr.{TExprTrees}
use Rattle.c_syntax.specs.TypedExpr as exprs
use Rattle.c_syntax.specs.TypedStmt.{TStmtTree, none}
use Rattle.c_syntax.specs.Program.{TFunctionTree, TProgramTree}
use Rattle.c_layout.specs.MainFunction.{is_main}
use Rattle.c_layout.specs.RowTypes.{is_void}
use Rattle.block_mem.specs.declared.types.Scalar.{Scalar}
use Rattle.block_mem.specs.declared.types.Value.{Value}
use Rattle.block_mem.specs.declared.types.Value.TheVariants as values
use Rattle.c_values.specs.declared.values.Given.TheVariants as givens
use Rattle.c_values.specs.Values.{scalar_of}
use Rattle.c_values.specs.Places.{ObjectMemory}
use Rattle.c_objects.specs.Opening.{open_all}
use Rattle.c_steps.specs.Work.{Item, AtEnd, GivesNothing, GivesZero, IsWrong, Eval, Do, Close, Reach}
use Rattle.c_steps.specs.States.{Held, Plain, Next, Wrong, Stands, goes, held, with_some}
use Rattle.c_steps.specs.Changes.{filled}

-- arguments, from left to right
abbrev pub evals : TExprTrees → List Item → List Item
evals exprs.none work = work
evals (exprs.more e rest) work = Eval e ∷ evals rest work

-- what a call gives whose function reaches its end
abbrev pub at_end : TProgramTree → ℕ → CTypeTree → Bool → AtEnd
at_end program f ty used = if is_void ty then GivesNothing else (if is_main program f then GivesZero else (if used then IsWrong else GivesNothing))

-- so many values off the stack, of which the last one stood on top
abbrev pub taken : ℕ → List Held → List Value → Option (List Value × List Held)
taken zero s vs = Some (vs, s)
taken (suc n) (Plain (givens.Value v) ∷ s) vs = taken n s (v ∷ vs)
taken (suc n) s vs = None

-- the scalar type of an object
abbrev pub object_scalar : List ObjectTree → ℕ → Option Scalar
object_scalar objects x = option_and_then (λ object. scalar_of object.ty) (slice_get objects x)

-- memory after each object was given its value
abbrev pub all_filled : List ObjectTree → List ℕ → List Value → ObjectMemory → Option ObjectMemory
all_filled objects [] [] m = Some m
all_filled objects (x ∷ xs) (v ∷ vs) m = option_and_then (all_filled objects xs vs) (filled m (object_scalar objects x) x 0 v)
all_filled objects xs vs m = None

-- parameters live, in their order, and have the arguments; then the body is done, the parameters end, and the function's end is reached
abbrev pub enter_body :
    TProgramTree → Option Pos → AtEnd → List ℕ → TStmtTree → List Value → List Item → List Held → ObjectMemory → List ℤ → Next
enter_body program at end params body vs work s m i =
    with_some (all_filled program.objects params vs (open_all program.objects m params)) (λ n.
    goes (Do body ∷ Close params none ∷ Reach at end ∷ work) s n i)

abbrev pub enter_function : TProgramTree → Option Pos → AtEnd → TFunctionTree → List Item → List Held → ObjectMemory → List ℤ → Next
enter_function program at end function work s m i =
    with_some function.body (λ body.
    with_some (taken (length function.params) s []) (λ args. enter_body program at end function.params body args.0 work args.1 m i))

abbrev pub enter_step : TProgramTree → Option Pos → ℕ → AtEnd → List Item → List Held → ObjectMemory → List ℤ → Next
enter_step program at f end work s m i = with_some (slice_get program.functions f) (λ function. enter_function program at end function work s m i)

-- the end of a function
abbrev pub reach_step : Option Pos → AtEnd → List Item → List Held → ObjectMemory → List ℤ → Next
reach_step at GivesNothing work s m i = goes work (Plain givens.Nothing ∷ s) m i
reach_step at GivesZero work s m i = goes work (held (values.Int ints.Int (pos 0)) ∷ s) m i
reach_step (Some at) IsWrong work s m i = Wrong at kinds.NoValue (End operands.None)
reach_step None IsWrong work s m i = Stands
