use Rattle.std.proofs.Common.{sym}
use Rattle.csharp_exec.proofs.Variants.{no_case}
use Rattle.csharp_exec.proofs.marks.is_case.Goals as goal

pub returns-in_default : goal.returns-in_default
returns-in_default c = sym (no_case c.args.item.now c.args.value c.in_default.not-Case)
