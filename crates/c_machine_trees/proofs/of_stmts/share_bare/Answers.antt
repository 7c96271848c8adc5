use Rattle.c_machine_trees.proofs.Shapes.{no_bare}
use Rattle.c_machine_trees.proofs.of_stmts.share_bare.Goals as goal

pub unreachable-requires : goal.unreachable-requires
unreachable-requires c =
    no_bare c.args.stmt.now c.requires c.in_default.not-Empty c.in_default.not-Static c.in_default.not-Break c.in_default.not-Continue
    c.in_default.not-Goto c.in_default.not-Label c.in_default.not-Case c.in_default.not-Default
