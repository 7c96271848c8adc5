use Rattle.csharp.proofs.Variants.{no_plain}
use Rattle.csharp.proofs.copied_stmts.copy_plain.Goals as goal

pub unreachable-requires : goal.unreachable-requires
unreachable-requires c =
    no_plain c.args.stmt.now c.requires c.in_default.not-Set c.in_default.not-Load c.in_default.not-Store c.in_default.not-CopyBytes
    c.in_default.not-Checked c.in_default.not-Assume c.in_default.not-Call c.in_default.not-Return
