use Rattle.std.proofs.Common.{sym, ap, ◌∙◌}
use Rattle.std.specs.Option.{option_map}
use Rattle.std.specs.Str.{bytes_eq}
use Rattle.c_check_names.specs.Trees.{binding_tree}
use Rattle.c_check_names.proofs.Found.{first_tree}
use Rattle.c_check_names.proofs.world.World.declared_here.Goals as goal

pub returns-in-Some : goal.returns-in-Some
returns-in-Some c = ap (option_map (λ b. b.pos)) c.in-Some.ensures ∙ sym (first_tree binding_tree (λ b. b.pos) (λ b. bytes_eq b.name c.args.name.now) c.args.self.now.first_name c.args.self.now.names)

pub returns-in-None : goal.returns-in-None
returns-in-None c = ap (option_map (λ b. b.pos)) c.in-None.ensures ∙ sym (first_tree binding_tree (λ b. b.pos) (λ b. bytes_eq b.name c.args.name.now) c.args.self.now.first_name c.args.self.now.names)
