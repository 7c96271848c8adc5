use Rattle.std.specs.Prelude.{option_map}
use Rattle.std.proofs.lemmas.Option.{IfSome_then}
use Rattle.c_syntax.specs.Types.{ctype_tree}
use Rattle.c_check_declarators.specs.Views.{name_tree}
use Rattle.c_check_names.specs.Views.{refusal_of}
use Rattle.c_check_names.specs.Trees.{linked_tree}
use Rattle.c_check_names.specs.Worlds.{world_of}
use Rattle.c_check_decls.specs.DeclaredViews.{how_tree}
use Rattle.c_check_decls.proofs.FileForms.{sized_large}
use Rattle.c_check_decls.proofs.file_objects.file_sized.Goals as goal

pub returns-in-Err-counted_once : goal.returns-in-Err-counted_once
returns-in-Err-counted_once c =
    IfSome_then (refusal_of c.in-Err-counted_once.error) c.in-Err-counted_once.ensures
    (λ r p. sized_large (world_of c.args.world.now) (name_tree c.args.named.now) (ctype_tree c.args.ty) c.args.is_const (how_tree c.args.how)
    (option_map linked_tree c.args.before.now) c.in-Ok.size r c.in-Ok.ensures p)
