use Rattle.c_machine_trees.proofs.Shapes.{no_leaf}
use Rattle.c_machine_trees.proofs.of_exprs.share_leaf.Goals as goal

pub unreachable-requires : goal.unreachable-requires
unreachable-requires c = no_leaf c.args.expr.now c.requires c.in_default.not-Const c.in_default.not-Any c.in_default.not-Null
