-- A call whose arguments are settled is settled.
use Rattle.std.proofs.Common.{◌≡◌, ℕ, ◌+◌, ◌*◌, ◌<◌, Bool, List, refl, ap, ◌∙◌, arith}
use Rattle.std.specs.Prelude.{IfOk, Result, Ok, Err}
use Rattle.std.specs.declared.alloc.AllocError.{AllocError}
use Rattle.c_syntax_written.specs.declared.place.Pos.{Pos}
use Rattle.c_syntax.specs.declared.types.CType.{CType}
use Rattle.c_syntax.specs.declared.typed.TExpr.{TExpr}
use Rattle.c_syntax.specs.declared.typed.TExpr.TheVariants as exprs
use Rattle.c_syntax.specs.declared.typed.TExprs.{TExprs}
use Rattle.c_syntax.specs.Types.{ObjectTree, ctype_tree}
use Rattle.c_syntax.specs.TypedExpr as trees
use Rattle.c_syntax.specs.TypedExpr.{texpr_tree, texprs_tree}
use Rattle.c_syntax.specs.Sizes.{texpr_size, texprs_size}
use Rattle.c_syntax.proofs.TypedExprTrees.{texpr_call}
use Rattle.c_typing.specs.Settled.{settled_expr, settled_exprs}

pub call_settled : (next : TExpr) (r : Result (Unit {0}) AllocError) (objects : List ObjectTree) (e : TExpr) (at : Pos) (function : ℕ) (ty : CType) (used : Bool)
    (old new : TExprs) → next ≡ exprs.Call at function ty used new → e ≡ exprs.Call at function ty used old
    → IfOk r (λ _. texprs_tree new ≡ settled_exprs objects (texprs_tree old))
    → IfOk r (λ _. texpr_tree next ≡ settled_expr objects (texpr_tree e))
unfolding settled_expr
call_settled next (Err x) objects e at function ty used old new made is h = h
call_settled next (Ok x) objects e at function ty used old new made is h =
    ap texpr_tree made ∙ texpr_call at function ty used new ∙ ap (trees.Call at function (ctype_tree ty) used) h
    ∙ rw (is, texpr_call at function ty used old) refl

pub args_fall : (e : TExpr) (at : Pos) (function : ℕ) (ty : CType) (used : Bool) (args : TExprs) → e ≡ exprs.Call at function ty used args
    → 3 * texprs_size (texprs_tree args) < 3 * texpr_size (texpr_tree e) + 1
args_fall e at function ty used args is = rw (is, texpr_call at function ty used args) (omega arith)
