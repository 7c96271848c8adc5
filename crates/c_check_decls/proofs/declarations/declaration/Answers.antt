use Rattle.std.proofs.Common.{◌≡◌, ap, ◌∙◌, subst, rules}
use Rattle.std.specs.Prelude.{map}
use Rattle.std.proofs.lemmas.List.Elements.{same_from_all_zip}
use Rattle.std.proofs.lemmas.Option.{IfSome_then}
use Rattle.c_syntax_written.specs.WrittenDecl.{decl_tree, initdeclarator_tree}
use Rattle.c_typing.specs.Decls.{TypesDecl, TypesInitDeclarators, is_struct_alone, nothing_made}
use Rattle.c_typing.specs.Specifiers.{OfDeclaration, no_specs_yet, type_told}
use Rattle.c_typing.specs.Typing.{TypesSpecs, first_of}
use Rattle.c_typing.specs.World.{Typed, Refused, goes_on, stops}
use Rattle.c_check_jumps.specs.ContextViews.{context_tree}
use Rattle.c_check_names.specs.Views.{refusal_of}
use Rattle.c_check_exprs.proofs.Results.{by}
use Rattle.c_check_declarators.specs.FormViews as forms
use Rattle.c_check_decls.specs.MadeViews.{made_tree}
use Rattle.c_check_names.specs.Trees.{form_tree}
use Rattle.c_check_names.specs.Worlds.{world_of}
use Rattle.c_check_decls.proofs.declarations.declaration.Goals as goal

pub returns-in-Err : goal.returns-in-Err
returns-in-Err c =
    let decl = decl_tree c.args.decl.now in
    let alone = c.is_struct_alone-alone.ensures ∙ ap (λ items. is_struct_alone decl.specs (map initdeclarator_tree items)) c.as_slice-items.ensures in
    IfSome_then (refusal_of c.in-Err.error) c.in-Err.ensures (λ r p.
    stops (subst (λ b. TypesSpecs (world_of c.args.world.now) b no_specs_yet decl.specs (Refused r)) alone p))

pub returns-in-Err-type_told : goal.returns-in-Err-type_told
returns-in-Err-type_told c =
    let decl = decl_tree c.args.decl.now in
    let alone = c.is_struct_alone-alone.ensures ∙ ap (λ items. is_struct_alone decl.specs (map initdeclarator_tree items)) c.as_slice-items.ensures in
    let s = forms.made_tree c.in-Ok.got in
    IfSome_then (refusal_of c.in-Err-type_told.error) (c.in-Err-type_told.ensures (world_of c.specs.new.world)) (λ r p.
    goes_on (subst (λ b. TypesSpecs (world_of c.args.world.now) b no_specs_yet decl.specs (Typed s (world_of c.specs.new.world))) alone c.in-Ok.ensures)
    (stops (p ∙ ap (λ f. type_told OfDeclaration f s (world_of c.specs.new.world)) c.first_of-first.ensures)))

pub returns : goal.returns
returns c =
    let w = world_of c.args.world.now in
    let around = context_tree c.args.around in
    let decl = decl_tree c.args.decl.now in
    let first = first_of decl.pos decl.specs in
    let alone = c.is_struct_alone-alone.ensures ∙ ap (λ items. is_struct_alone decl.specs (map initdeclarator_tree items)) c.as_slice-items.ensures in
    let s = forms.made_tree c.in-Ok.got in
    let v = world_of c.specs.new.world in
    let base = form_tree c.in-Ok-type_told.got in
    let copied : c.in_ok-storage.storage.items ≡ c.in-Ok.got.storage.items = search (rules, same_from_all_zip) in
    by (TypesInitDeclarators v around c.first_of-first.result c.as_slice.result.now base nothing_made (map initdeclarator_tree c.as_slice-items.result.now))
    (TypesDecl w around decl) made_tree (world_of c.declarators.new.world) c.declarators.result c.declarators.ensures (λ o p.
    goes_on (subst (λ b. TypesSpecs w b no_specs_yet decl.specs (Typed s v)) alone c.in-Ok.ensures)
    (goes_on (c.in-Ok-type_told.ensures v ∙ ap (λ f. type_told OfDeclaration f s v) c.first_of-first.ensures)
    (subst (λ f. TypesInitDeclarators v around f s.storage base nothing_made decl.inits o) c.first_of-first.ensures
    (subst (λ words. TypesInitDeclarators v around c.first_of-first.result words base nothing_made decl.inits o) (c.as_slice.ensures.value ∙ copied)
    (subst (λ items. TypesInitDeclarators v around c.first_of-first.result c.as_slice.result.now base nothing_made (map initdeclarator_tree items) o) c.as_slice-items.ensures p)))))
