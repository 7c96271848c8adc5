use Rattle.c_machine_trees.proofs.Shapes.{no_plain}
use Rattle.c_machine_trees.proofs.of_stmts.share_plain.Goals as goal

pub unreachable-requires : goal.unreachable-requires
unreachable-requires c = no_plain c.args.stmt.now c.requires c.in_default.not-Expr c.in_default.not-Declare c.in_default.not-Return
