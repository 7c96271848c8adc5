use Rattle.std.proofs.Common.{◌++◌, sym, ap, ◌∙◌, append-nil}
use Rattle.c_rules_calls.proofs.Lists.{not_a_label}
use Rattle.c_rules_calls.proofs.walk.with_label.Goals as goal

pub returns-in_default : goal.returns-in_default
returns-in_default c = sym (append-nil c.args.labels) ∙ ap (λ more. c.args.labels ++ more) (not_a_label c.args.item.now c.in_default.not-Label)
