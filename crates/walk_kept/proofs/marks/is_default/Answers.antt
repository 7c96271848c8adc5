use Rattle.std.proofs.Common.{sym}
use Rattle.walk_owes.proofs.Variants.{no_default}
use Rattle.walk_kept.proofs.marks.is_default.Goals as goal

pub returns-in_default : goal.returns-in_default
returns-in_default c = sym (no_default c.args.item.now c.in_default.not-Default)
