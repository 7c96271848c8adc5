-- The type of a value that is wanted.
use Rattle.std.proofs.Common.{◌≡◌, true, false, Bool, refl}
use Rattle.std.specs.Prelude.{if◌then◌else◌}
use Rattle.c_syntax.specs.Types.{CTypeTree, Void}
use Rattle.c_syntax.specs.TypedExpr.{TExprTree, Comma, Call}
use Rattle.c_syntax.specs.TypedParts.{texpr_type}
use Rattle.c_syntax.specs.GivenType.{given_type}
use Rattle.c_layout.specs.TypedNodes.{Scope, IsTypedExpr}

where_used : (used : Bool) (ty : CTypeTree) → used ≡ true → (if used then ty else Void) ≡ ty
where_used true ty e = refl
where_used false ty e = absurd (cc)

pub wanted : (scope : Scope) (e : TExprTree) → IsTypedExpr scope true e → given_type e ≡ texpr_type e
unfolding IsTypedExpr
wanted scope (Comma at left right) typed = wanted scope right typed.1
wanted scope (Call at function ty used args) typed = where_used used ty typed.0
wanted scope e typed = refl
