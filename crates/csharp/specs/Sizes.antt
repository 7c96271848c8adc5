-- How large a tree is: a node counts one, an item of a list one, and each what it holds. So what stands in a node or a list is smaller than it.
use Rattle.std.specs.Prelude.{ℕ, ◌+◌}
use Rattle.c_syntax_written.specs.Sizes.{list_size, option_size}
use Rattle.csharp.specs.Trees.{CsExprTree, Unary, Binary, Convert, CsCheckTree, CsCallTree, CsStmtTree, Set, Load, Store}
use Rattle.csharp.specs.Trees.{CopyBytes, Checked, Assume, Sequence, If, Loop, Block, Scope, Switch, Call, Return, CsStmtTrees, none, more}

abbrev pub csexpr_size : CsExprTree → ℕ
csexpr_size (Unary op e) = 1 + csexpr_size e
csexpr_size (Binary op e f) = 1 + (csexpr_size e + csexpr_size f)
csexpr_size (Convert t e) = 1 + csexpr_size e
csexpr_size e = 1

abbrev pub cscheck_size : CsCheckTree → ℕ
cscheck_size c = 1 + list_size csexpr_size c.operands

abbrev pub cscall_size : CsCallTree → ℕ
cscall_size c = 1 + list_size csexpr_size c.args

abbrev mutual
  pub csstmt_size : CsStmtTree → ℕ
  csstmt_size (Set d e) = 1 + csexpr_size e
  csstmt_size (Load d ty e) = 1 + csexpr_size e
  csstmt_size (Store ty e f) = 1 + (csexpr_size e + csexpr_size f)
  csstmt_size (CopyBytes n to from) = 1 + (csexpr_size to + csexpr_size from)
  csstmt_size (Checked c) = 1 + cscheck_size c
  csstmt_size (Assume e) = 1 + csexpr_size e
  csstmt_size (Sequence a b) = 1 + (csstmt_size a + csstmt_size b)
  csstmt_size (If e a b) = 1 + (csexpr_size e + csstmt_size a + csstmt_size b)
  csstmt_size (Loop at a) = 1 + csstmt_size a
  csstmt_size (Block a) = 1 + csstmt_size a
  csstmt_size (Scope xs items) = 1 + csstmts_size items
  csstmt_size (Switch e xs items) = 1 + (csexpr_size e + csstmts_size items)
  csstmt_size (Call c) = 1 + cscall_size c
  csstmt_size (Return e) = 1 + option_size csexpr_size e
  csstmt_size a = 1

  pub csstmts_size : CsStmtTrees → ℕ
  csstmts_size none = 0
  csstmts_size (more item rest) = 1 + (csstmt_size item + csstmts_size rest)
