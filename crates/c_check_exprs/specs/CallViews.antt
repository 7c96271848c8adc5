-- What results of passing arguments say.
use Rattle.std.specs.Prelude.{◌≡◌, IfSome, Result, Ok, Err}
use Rattle.c_syntax.specs.declared.typed.TExpr.{TExpr}
use Rattle.c_syntax.specs.declared.typed.TExprs.{TExprs}
use Rattle.c_syntax.specs.TypedExpr.{texpr_tree, texprs_tree}
use Rattle.c_typing.specs.Nodes.{Passed, Passes, Fails, with_passed}
use Rattle.c_check_names.specs.declared.type_error.TypeError.{TypeError}
use Rattle.c_check_names.specs.Views.{refusal_of}

-- memory aside, the arguments pass as these, or fail with this refusal
abbrev pub IsPassed : Passed → Result TExprs TypeError → Type 0
IsPassed passed (Ok args) = passed ≡ Passes (texprs_tree args)
IsPassed passed (Err e) = IfSome (refusal_of e) (λ r. passed ≡ Fails r)

-- memory aside, one argument passes as this in front of the others, or all fail with this refusal
abbrev pub IsPassedFirst : (Passed → Passed) → Result TExpr TypeError → Type 0
IsPassedFirst before (Ok arg) = (rest : Passed) → before rest ≡ with_passed (texpr_tree arg) rest
IsPassedFirst before (Err e) = IfSome (refusal_of e) (λ r. (rest : Passed) → before rest ≡ Fails r)
