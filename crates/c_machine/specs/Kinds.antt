-- Kinds of statements, by what their row does first.
use Rattle.c_syntax.specs.TypedStmt.{TStmtTree, Expr, If, While, DoWhile, For, Switch, Break, Continue, Goto, Return}

-- an expression is evaluated, and its value decides
abbrev pub EvaluatesFirst : TStmtTree → Type 0
EvaluatesFirst (Expr at value) = Unit {0}
EvaluatesFirst (If at condition first second) = Unit {0}
EvaluatesFirst (Switch at value kind objects items) = Unit {0}
EvaluatesFirst statement = ⊥

abbrev pub IsLoop : TStmtTree → Type 0
IsLoop (While at condition body) = Unit {0}
IsLoop (DoWhile at body condition) = Unit {0}
IsLoop (For at objects head condition step body) = Unit {0}
IsLoop statement = ⊥

abbrev pub IsJump : TStmtTree → Type 0
IsJump (Break at) = Unit {0}
IsJump (Continue at) = Unit {0}
IsJump (Goto at label) = Unit {0}
IsJump (Return at value) = Unit {0}
IsJump statement = ⊥
