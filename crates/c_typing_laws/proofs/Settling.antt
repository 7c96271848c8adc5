-- At the end of the file statements have the labels, gotos and lists that they had.
use Rattle.std.proofs.Common.{◌≡◌, ℕ, List, ◌++◌, refl, ap, ◌∙◌}
use Rattle.c_syntax.specs.Types.{ObjectTree}
use Rattle.c_syntax.specs.TypedStmt.{TStmtTree, TStmtTrees, Block, If, While, DoWhile, For, Switch, Goto, Label, none, more}
use Rattle.c_layout.specs.Jumps.{labels_of, labels_in, gotos_of, gotos_in, listed_of, listed_in}
use Rattle.c_typing.specs.Settled.{settled_stmt, settled_stmts}

both_ways : (f : List ℕ → List ℕ → List ℕ) (a b c d : List ℕ) → a ≡ b → c ≡ d → f a c ≡ f b d
both_ways f a b c d e g = ap (λ x. f x c) e ∙ ap (f b) g

joined : (a b c d : List ℕ) → a ≡ b → c ≡ d → a ++ c ≡ b ++ d
joined a b c d e g = both_ways (λ x y. x ++ y) a b c d e g

mutual
  unfolding labels_of labels_in settled_stmt settled_stmts

  pub labels_settled : (objects : List ObjectTree) (s : TStmtTree) → labels_of (settled_stmt objects s) ≡ labels_of s
  labels_settled objects (Block at kind numbers items) = labels_settled_in objects items
  labels_settled objects (If at c a b) = joined _ _ _ _ (labels_settled objects a) (labels_settled objects b)
  labels_settled objects (While at c body) = labels_settled objects body
  labels_settled objects (DoWhile at body c) = labels_settled objects body
  labels_settled objects (For at numbers head c step body) = joined _ _ _ _ (labels_settled_in objects head) (labels_settled objects body)
  labels_settled objects (Switch at e kind numbers items) = labels_settled_in objects items
  labels_settled objects (Label at label) = refl
  labels_settled objects s = refl

  labels_settled_in : (objects : List ObjectTree) (items : TStmtTrees) → labels_in (settled_stmts objects items) ≡ labels_in items
  labels_settled_in objects none = refl
  labels_settled_in objects (more s rest) = joined _ _ _ _ (labels_settled objects s) (labels_settled_in objects rest)

mutual
  unfolding gotos_of gotos_in settled_stmt settled_stmts

  pub gotos_settled : (objects : List ObjectTree) (s : TStmtTree) → gotos_of (settled_stmt objects s) ≡ gotos_of s
  gotos_settled objects (Block at kind numbers items) = gotos_settled_in objects items
  gotos_settled objects (If at c a b) = joined _ _ _ _ (gotos_settled objects a) (gotos_settled objects b)
  gotos_settled objects (While at c body) = gotos_settled objects body
  gotos_settled objects (DoWhile at body c) = gotos_settled objects body
  gotos_settled objects (For at numbers head c step body) = joined _ _ _ _ (gotos_settled_in objects head) (gotos_settled objects body)
  gotos_settled objects (Switch at e kind numbers items) = gotos_settled_in objects items
  gotos_settled objects (Goto at label) = refl
  gotos_settled objects s = refl

  gotos_settled_in : (objects : List ObjectTree) (items : TStmtTrees) → gotos_in (settled_stmts objects items) ≡ gotos_in items
  gotos_settled_in objects none = refl
  gotos_settled_in objects (more s rest) = joined _ _ _ _ (gotos_settled objects s) (gotos_settled_in objects rest)

mutual
  unfolding listed_of listed_in settled_stmt settled_stmts

  pub listed_settled : (objects : List ObjectTree) (s : TStmtTree) → listed_of (settled_stmt objects s) ≡ listed_of s
  listed_settled objects (Block at kind numbers items) = ap (λ l. numbers ++ l) (listed_settled_in objects items)
  listed_settled objects (If at c a b) = joined _ _ _ _ (listed_settled objects a) (listed_settled objects b)
  listed_settled objects (While at c body) = listed_settled objects body
  listed_settled objects (DoWhile at body c) = listed_settled objects body
  listed_settled objects (For at numbers head c step body) =
      joined _ _ _ _ (ap (λ l. numbers ++ l) (listed_settled_in objects head)) (listed_settled objects body)
  listed_settled objects (Switch at e kind numbers items) = ap (λ l. numbers ++ l) (listed_settled_in objects items)
  listed_settled objects s = refl

  listed_settled_in : (objects : List ObjectTree) (items : TStmtTrees) → listed_in (settled_stmts objects items) ≡ listed_in items
  listed_settled_in objects none = refl
  listed_settled_in objects (more s rest) = joined _ _ _ _ (listed_settled objects s) (listed_settled_in objects rest)
