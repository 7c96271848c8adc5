-- Nodes by what they hold.
use Rattle.c_syntax.specs.TypedExpr as exprs
use Rattle.c_syntax.specs.TypedExpr.{TExprTree}
use Rattle.c_syntax.specs.TypedStmt as stmts
use Rattle.c_syntax.specs.TypedStmt.{TStmtTree}

-- no expression and no place
abbrev pub IsLeaf : TExprTree → Type 0
IsLeaf (exprs.Const _ _ _) = Unit {0}
IsLeaf (exprs.Null _ _) = Unit {0}
IsLeaf (exprs.Any _ _) = Unit {0}
IsLeaf _ = ⊥

-- one place
abbrev pub IsUseOfPlace : TExprTree → Type 0
IsUseOfPlace (exprs.Load _ _) = Unit {0}
IsUseOfPlace (exprs.AddressOf _ _) = Unit {0}
IsUseOfPlace (exprs.Decay _ _) = Unit {0}
IsUseOfPlace (exprs.Whole _ _) = Unit {0}
IsUseOfPlace (exprs.Step _ _ _ _ _) = Unit {0}
IsUseOfPlace _ = ⊥

-- one expression
abbrev pub HasOneOperand : TExprTree → Type 0
HasOneOperand (exprs.Unary _ _ _) = Unit {0}
HasOneOperand (exprs.Convert _ _ _) = Unit {0}
HasOneOperand (exprs.Assume _ _) = Unit {0}
HasOneOperand (exprs.Assert _ _) = Unit {0}
HasOneOperand _ = ⊥

-- several expressions
abbrev pub HasOperands : TExprTree → Type 0
HasOperands (exprs.Binary _ _ _ _) = Unit {0}
HasOperands (exprs.And _ _ _) = Unit {0}
HasOperands (exprs.Or _ _ _) = Unit {0}
HasOperands (exprs.Comma _ _ _) = Unit {0}
HasOperands (exprs.Cond _ _ _ _ _) = Unit {0}
HasOperands _ = ⊥

-- a place and what goes there
abbrev pub IsAssignment : TExprTree → Type 0
IsAssignment (exprs.Assign _ _ _) = Unit {0}
IsAssignment (exprs.AssignStruct _ _ _ _) = Unit {0}
IsAssignment (exprs.Compound _ _ _ _) = Unit {0}
IsAssignment _ = ⊥

-- no expression and no statement
abbrev pub HoldsNothing : TStmtTree → Type 0
HoldsNothing (stmts.Empty _) = Unit {0}
HoldsNothing (stmts.Static _ _) = Unit {0}
HoldsNothing (stmts.Break _) = Unit {0}
HoldsNothing (stmts.Continue _) = Unit {0}
HoldsNothing (stmts.Goto _ _) = Unit {0}
HoldsNothing (stmts.Label _ _) = Unit {0}
HoldsNothing (stmts.Case _ _) = Unit {0}
HoldsNothing (stmts.Default _) = Unit {0}
HoldsNothing _ = ⊥

-- expressions and no statement
abbrev pub HoldsExpressions : TStmtTree → Type 0
HoldsExpressions (stmts.Expr _ _) = Unit {0}
HoldsExpressions (stmts.Declare _ _ _ _) = Unit {0}
HoldsExpressions (stmts.Return _ _) = Unit {0}
HoldsExpressions _ = ⊥

-- a condition, and statements that run by it
abbrev pub IsGuarded : TStmtTree → Type 0
IsGuarded (stmts.If _ _ _ _) = Unit {0}
IsGuarded (stmts.While _ _ _) = Unit {0}
IsGuarded (stmts.DoWhile _ _ _) = Unit {0}
IsGuarded _ = ⊥
