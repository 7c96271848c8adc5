use Rattle.std.proofs.Common.{ap, ◌∙◌}
use Rattle.std.specs.List.{list_any}
use Rattle.std.specs.Str.{bytes_eq}
use Rattle.c_parser_steps.proofs.KnownNames.{looked_up}
use Rattle.c_parser_steps.proofs.type_names.TypeNames.contains.Goals as goal

pub returns : goal.returns
returns c = c.contains.ensures ∙ looked_up (λ k. k.items) c.args.name.now c.self.inside.known.keys ∙ c.self.invariant c.args.name.now ∙ ap (list_any (bytes_eq c.args.name.now)) c.self.view_is
