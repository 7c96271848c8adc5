use Rattle.walk_owes.proofs.Variants.{no_label}
use Rattle.walk_kept.proofs.marks.is_label.Goals as goal

pub returns-in_default : goal.returns-in_default
returns-in_default c = λ e l. no_label c.args.item.now l c.in_default.not-Label
