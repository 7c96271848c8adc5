use Rattle.std.proofs.Common.{◌+◌, ◌*◌}
use Rattle.csharp.specs.Trees.{csstmt_tree, csstmts_tree}
use Rattle.csharp.specs.Sizes.{csstmt_size, csstmts_size}
use Rattle.table_lowered.proofs.stmts.+statements.Given as goal

abbrev pub decreases-braced : goal.decreases-braced
decreases-braced l = 3 * csstmt_size (csstmt_tree l.s.now) + 1

abbrev pub decreases-stmt : goal.decreases-stmt
decreases-stmt l = 3 * csstmt_size (csstmt_tree l.s.now)

abbrev pub decreases-all : goal.decreases-all
decreases-all l = 3 * csstmts_size (csstmts_tree l.items.now)
