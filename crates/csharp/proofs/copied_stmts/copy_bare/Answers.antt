use Rattle.csharp.proofs.Variants.{no_bare}
use Rattle.csharp.proofs.copied_stmts.copy_bare.Goals as goal

pub unreachable-requires : goal.unreachable-requires
unreachable-requires c =
    no_bare c.args.stmt.now c.requires c.in_default.not-Nothing c.in_default.not-Undefine c.in_default.not-Input c.in_default.not-Exit
    c.in_default.not-Goto c.in_default.not-Label c.in_default.not-Case c.in_default.not-Default
