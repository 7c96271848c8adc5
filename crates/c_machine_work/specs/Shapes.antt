-- Expressions by what they hold.
use Rattle.c_syntax.specs.TypedExpr as exprs
use Rattle.c_syntax.specs.TypedExpr.{TExprTree}

-- a place, which is taken first
abbrev pub UsesPlace : TExprTree → Type 0
UsesPlace (exprs.Load _ _) = Unit {0}
UsesPlace (exprs.AddressOf _ _) = Unit {0}
UsesPlace (exprs.Decay _ _) = Unit {0}
UsesPlace (exprs.Whole _ _) = Unit {0}
UsesPlace (exprs.Assign _ _ _) = Unit {0}
UsesPlace (exprs.AssignStruct _ _ _ _) = Unit {0}
UsesPlace (exprs.Compound _ _ _ _) = Unit {0}
UsesPlace (exprs.Step _ _ _ _ _) = Unit {0}
UsesPlace _ = ⊥
