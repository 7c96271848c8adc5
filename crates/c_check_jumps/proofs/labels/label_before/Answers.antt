use Rattle.std.proofs.Common.{sym, ap, ◌∙◌}
use Rattle.std.specs.Option.{option_map}
use Rattle.std.specs.Str.{bytes_eq}
use Rattle.c_check_names.specs.Trees.{labelled_tree}
use Rattle.c_check_names.proofs.Found.{first_tree}
use Rattle.c_check_jumps.proofs.labels.label_before.Goals as goal

pub returns-in-Some : goal.returns-in-Some
returns-in-Some c = ap (option_map (λ l. l.pos)) c.in-Some.ensures ∙ sym (first_tree labelled_tree (λ l. l.pos) (λ l. bytes_eq l.label c.args.name.now) 0 c.args.world.now.labels)

pub returns-in-None : goal.returns-in-None
returns-in-None c = ap (option_map (λ l. l.pos)) c.in-None.ensures ∙ sym (first_tree labelled_tree (λ l. l.pos) (λ l. bytes_eq l.label c.args.name.now) 0 c.args.world.now.labels)
