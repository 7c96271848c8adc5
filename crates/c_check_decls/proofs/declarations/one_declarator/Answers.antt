use Rattle.std.proofs.Common.{ap, ◌∙◌}
use Rattle.std.proofs.lemmas.Option.{IfSome_then}
use Rattle.c_syntax_written.specs.WrittenDecl.{init_tree, initdeclarator_tree}
use Rattle.c_typing.specs.Decls.{declared, TypesInitOf}
use Rattle.c_typing.specs.World.{goes_on, stops}
use Rattle.c_check_jumps.specs.ContextViews.{context_tree}
use Rattle.c_check_declarators.specs.Views.{shape_tree}
use Rattle.c_check_decls.specs.DeclaredViews.{declares_tree}
use Rattle.c_check_names.specs.Views.{refusal_of}
use Rattle.c_check_exprs.proofs.Results.{by}
use Rattle.c_check_decls.specs.MadeViews.{made_tree}
use Rattle.c_check_names.specs.Trees.{form_tree}
use Rattle.c_check_names.specs.Worlds.{world_of}
use Rattle.c_check_decls.specs.Forms.{OneDeclarator}
use Rattle.c_check_decls.proofs.Lists.{some_mapped}
use Rattle.c_check_decls.proofs.declarations.one_declarator.Goals as goal

pub returns-in-Err : goal.returns-in-Err
returns-in-Err c = IfSome_then (refusal_of c.in-Err.error) c.in-Err.ensures (λ r p. stops p)

pub returns-in-Err-declared : goal.returns-in-Err-declared
returns-in-Err-declared c =
    let v = world_of c.declarator.new.world in
    let around = context_tree c.args.around in
    let shape = shape_tree c.in-Ok.got in
    let told = ap (λ b. declared v around c.args.first c.args.storage.now b c.is_some-has_init.result shape) c.in_ok-base.ensures
    ∙ ap (λ h. declared v around c.args.first c.args.storage.now (form_tree c.args.base.now) h shape) (c.is_some-has_init.ensures ∙ some_mapped (λ b. init_tree b.value) c.args.item.now.init) in
    IfSome_then (refusal_of c.in-Err-declared.error) c.in-Err-declared.ensures (λ r p. goes_on c.in-Ok.ensures (stops (p ∙ told)))

pub returns : goal.returns
returns c =
    let v = world_of c.declarator.new.world in
    let around = context_tree c.args.around in
    let shape = shape_tree c.in-Ok.got in
    let item = initdeclarator_tree c.args.item.now in
    let told = ap (λ b. declared v around c.args.first c.args.storage.now b c.is_some-has_init.result shape) c.in_ok-base.ensures
    ∙ ap (λ h. declared v around c.args.first c.args.storage.now (form_tree c.args.base.now) h shape) (c.is_some-has_init.ensures ∙ some_mapped (λ b. init_tree b.value) c.args.item.now.init) in
    by (TypesInitOf (world_of c.declared.new.world) (declares_tree c.in-Ok-declared.got) item.init)
    (OneDeclarator (world_of c.args.world.now) around c.args.first c.args.storage.now (form_tree c.args.base.now) item) made_tree
    (world_of c.initial.new.world) c.initial.result c.initial.ensures (λ o p. goes_on c.in-Ok.ensures (goes_on (c.in-Ok-declared.ensures ∙ told) p))
