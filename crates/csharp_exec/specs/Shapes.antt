-- Statements by what they hold.
use Rattle.csharp.specs.Trees.{CsStmtTree, Sequence, If, Loop, Block, Scope, Switch, Call}

-- no other statement, and no call: what such a statement does is nothing, one action, one check, or to leave
abbrev pub IsAction : CsStmtTree → Type 0
IsAction (Sequence a b) = ⊥
IsAction (If e a b) = ⊥
IsAction (Loop at a) = ⊥
IsAction (Block a) = ⊥
IsAction (Scope xs items) = ⊥
IsAction (Switch e xs items) = ⊥
IsAction (Call c) = ⊥
IsAction a = Unit {0}
