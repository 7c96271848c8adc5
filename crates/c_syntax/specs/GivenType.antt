-- The type of what an expression gives where it stands.
use Rattle.std.specs.Prelude.{if◌then◌else◌}
use Rattle.c_syntax.specs.Types.{CTypeTree, Void}
use Rattle.c_syntax.specs.TypedExpr.{TExprTree, Comma, Call}
use Rattle.c_syntax.specs.TypedParts.{texpr_type}

-- a call whose value is not used gives nothing, and a comma what its right side gives (C11 6.5.17p2)
abbrev pub given_type : TExprTree → CTypeTree
given_type (Comma at left right) = given_type right
given_type (Call at function ty used args) = if used then ty else Void
given_type e = texpr_type e
