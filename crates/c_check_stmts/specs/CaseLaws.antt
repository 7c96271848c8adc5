-- Cases before and after a part of the text.
use Rattle.std.specs.Prelude.{◌≡◌}
use Rattle.c_syntax_written.specs.Written.{ExprTree}
use Rattle.c_syntax.specs.TypedExpr.{TExprTree}
use Rattle.c_typing.specs.Typing.{Types, Valued}
use Rattle.c_typing.specs.World.{World, Typed}

-- a world has the cases and the default of another
pub record HasCasesOf (w v : World) : Type 0 where
  pub cases : v.cases ≡ w.cases
  pub default : v.default ≡ w.default

-- an expression leaves them as they were
abbrev pub ExpressionsLeaveCases : Type 0
ExpressionsLeaveCases = (w v : World) (e : ExprTree) (x : TExprTree) → Valued (Types w e) (Typed x v) → HasCasesOf w v
