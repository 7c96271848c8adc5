-- What holds of each statement in a statement.
use Rattle.csharp.specs.Trees.{CsStmtTree, Sequence, If, Loop, Block, Scope, Switch, CsStmtTrees, none, more}

-- a property of each statement in a statement, wherever it stands
abbrev mutual
  pub Every : (CsStmtTree → Type 0) → CsStmtTree → Type 0
  Every P (Sequence a b) = P (Sequence a b) × Every P a × Every P b
  Every P (If e a b) = P (If e a b) × Every P a × Every P b
  Every P (Loop at a) = P (Loop at a) × Every P a
  Every P (Block a) = P (Block a) × Every P a
  Every P (Scope xs items) = P (Scope xs items) × EveryItem P items
  Every P (Switch e xs items) = P (Switch e xs items) × EveryItem P items
  Every P a = P a

  pub EveryItem : (CsStmtTree → Type 0) → CsStmtTrees → Type 0
  EveryItem P none = Unit {0}
  EveryItem P (more item rest) = Every P item × EveryItem P rest
