use Rattle.std.proofs.Common.{sym, ap, ◌∙◌}
use Rattle.c_rules_calls.specs.Gotos.{has_label}
use Rattle.c_rules_calls.proofs.Lists.{one_has}
use Rattle.c_rules_calls.proofs.walk.is_around.Goals as goal

pub returns-then-contains : goal.returns-then-contains
returns-then-contains c =
    one_has c.args.blocks.now c.loop-labels.labels-index c.labels-item.result c.args.label c.loop-labels-test.true
    (ap (λ labels. has_label labels c.args.label) (sym c.labels-item.is) ∙ sym c.contains.ensures ∙ c.if-contains.true)
