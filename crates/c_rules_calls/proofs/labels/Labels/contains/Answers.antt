use Rattle.std.proofs.Common.{ap, ◌∙◌}
use Rattle.std.specs.Prelude.{◌==◌}
use Rattle.std.specs.List.{list_any}
use Rattle.c_rules_calls.proofs.Known.{looked_up}
use Rattle.c_rules_calls.proofs.labels.Labels.contains.Goals as goal

pub returns : goal.returns
returns c = c.contains.ensures ∙ looked_up c.args.label c.self.inside.known.keys ∙ c.self.invariant c.args.label ∙ ap (list_any (λ x. x == c.args.label)) c.self.view_is
