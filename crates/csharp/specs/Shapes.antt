-- Statements by what they hold.
use Rattle.csharp.specs.Trees.{CsStmtTree, Nothing, Set, Load, Store, CopyBytes, Undefine, Checked, Input, Assume, Exit, Goto, Call, Return, Label, Case}
use Rattle.csharp.specs.Trees.{Default}

-- no expression and no statement
abbrev pub HoldsNothing : CsStmtTree → Type 0
HoldsNothing Nothing = Unit {0}
HoldsNothing (Undefine _) = Unit {0}
HoldsNothing (Input _ _) = Unit {0}
HoldsNothing (Exit _) = Unit {0}
HoldsNothing (Goto _) = Unit {0}
HoldsNothing (Label _ _) = Unit {0}
HoldsNothing (Case _) = Unit {0}
HoldsNothing Default = Unit {0}
HoldsNothing _ = ⊥

-- expressions and no statement
abbrev pub HoldsExpressions : CsStmtTree → Type 0
HoldsExpressions (Set _ _) = Unit {0}
HoldsExpressions (Load _ _ _) = Unit {0}
HoldsExpressions (Store _ _ _) = Unit {0}
HoldsExpressions (CopyBytes _ _ _) = Unit {0}
HoldsExpressions (Checked _) = Unit {0}
HoldsExpressions (Assume _) = Unit {0}
HoldsExpressions (Call _) = Unit {0}
HoldsExpressions (Return _) = Unit {0}
HoldsExpressions _ = ⊥
