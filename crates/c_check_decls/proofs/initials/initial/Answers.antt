use Rattle.std.proofs.Common.{sym, ap, subst}
use Rattle.std.specs.Prelude.{Option, Some, option_map}
use Rattle.std.specs.declared.boxed.Box.{Box}
use Rattle.std.specs.declared.alloc.Global.{Global}
use Rattle.c_syntax_written.specs.declared.declaration.Init.{Init}
use Rattle.c_syntax_written.specs.WrittenDecl.{init_tree}
use Rattle.c_typing.specs.Decls as decls
use Rattle.c_check_decls.specs.DeclaredViews.{declares_tree, now_tree}
use Rattle.c_check_names.specs.Views.{Answers}
use Rattle.c_check_decls.specs.MadeViews.{made_tree}
use Rattle.c_check_names.specs.Worlds.{world_of}
use Rattle.c_check_decls.proofs.initials.initial.Goals as goal

pub returns : goal.returns
returns c =
    let w = world_of c.args.world.now in
    let v = world_of c.with_initialiser.new.world in
    let object = decls.AnObject (now_tree c.in-AnObject.object) in
    subst (λ what. Answers (decls.TypesInitOf w what (option_map (λ v. init_tree v.value) c.args.init.now)) made_tree v c.with_initialiser.result)
    (sym (ap declares_tree c.in-AnObject.is))
    (subst (λ (init : Option (Box Init Global)). Answers (decls.TypesInitOf w object (option_map (λ v. init_tree v.value) init)) made_tree v c.with_initialiser.result)
    (sym c.in-Some.is)
    (subst (λ init. Answers (decls.TypesInitOf w object (Some init)) made_tree v c.with_initialiser.result) (ap init_tree c.deref.ensures)
    c.with_initialiser.ensures))
