use Rattle.std.proofs.Common.{sym, ap, ◌∙◌}
use Rattle.c_typing.specs.Decls.{has_initial}
use Rattle.c_check_names.specs.declared.types.Meaning.{Meaning}
use Rattle.c_check_names.specs.Trees.{meaning_tree}
use Rattle.c_check_names.specs.Worlds.{world_of}
use Rattle.c_check_decls.proofs.agreeing.has_initial.Goals as goal

pub returns-in-Object : goal.returns-in-Object
returns-in-Object c = c.has.ensures ∙ ap (λ (meaning : Meaning). has_initial (world_of c.args.world.now) (meaning_tree meaning)) (sym c.in-Object.is)
