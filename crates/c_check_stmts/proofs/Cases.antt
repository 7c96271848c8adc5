-- The value of a switch leaves the cases around it as they were.
use Rattle.std.proofs.Common.{◌≡◌, subst}
use Rattle.c_syntax_written.specs.declared.place.Pos.{Pos}
use Rattle.c_syntax_written.specs.Written.{ExprTree}
use Rattle.c_syntax.specs.Types.{CTypeTree, Void, Int, Pointer, Array, Struct, Function}
use Rattle.c_syntax.specs.TypedExpr.{TExprTree}
use Rattle.c_syntax.specs.TypedParts.{texpr_type}
use Rattle.c_typing.specs.Stmts.{Switched, SwitchValue, switched_by}
use Rattle.c_typing.specs.World.{World, Typed, goes_on}
use Rattle.c_check_stmts.specs.CaseLaws.{HasCasesOf}
use Rattle.c_check_stmts.proofs.Expressions.{expressions_leave_cases}

same_world : (w v : World) (at : Pos) (e : TExprTree) (ty : CTypeTree) (s : Switched) → Typed s v ≡ switched_by w at e ty → w ≡ v
same_world w v at e (Int t) s p = cc
same_world w v at e Void s p = cc
same_world w v at e (Pointer to c) s p = cc
same_world w v at e (Array of c n) s p = cc
same_world w v at e (Struct n) s p = cc
same_world w v at e (Function n) s p = cc

pub switch_leaves_cases : (w v : World) (at : Pos) (e : ExprTree) (s : Switched) → SwitchValue w at e (Typed s v) → HasCasesOf w v
switch_leaves_cases w v at e s (goes_on {a = x} {w = u} p q) =
    subst (λ z. HasCasesOf w z) (same_world u v at x (texpr_type x) s q) (expressions_leave_cases w u e x p)
