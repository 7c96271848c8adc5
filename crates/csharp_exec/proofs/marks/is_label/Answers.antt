use Rattle.std.proofs.Common.{sym}
use Rattle.csharp_exec.proofs.Variants.{no_label}
use Rattle.csharp_exec.proofs.marks.is_label.Goals as goal

pub returns-in_default : goal.returns-in_default
returns-in_default c = sym (no_label c.args.item.now c.args.label c.in_default.not-Label)
