use Rattle.std.proofs.Common.{◌≡◌, ap, sym, ◌∙◌, Some, None}
use Rattle.std.specs.Prelude.{option_map}
use Rattle.c_syntax.specs.Types.{ctype_tree}
use Rattle.c_typing.specs.Names.{is_reserved, linked_as}
use Rattle.c_typing.specs.Decls.{binding_here, is_object_again, composite_type}
use Rattle.c_check_declarators.specs.Views.{name_tree}
use Rattle.c_check_names.proofs.Steps.{so}
use Rattle.c_check_decls.specs.Entities.{agreed, conflict_of}
use Rattle.c_check_names.specs.Trees.{linked_tree}
use Rattle.c_check_names.specs.Worlds.{world_of}
use Rattle.c_check_names.proofs.Found.{lent_tree}
use Rattle.c_check_decls.specs.DeclaredViews.{declares_tree, how_tree}
use Rattle.c_check_decls.proofs.FileForms.{file_on, when_sized, when_unsized}
use Rattle.c_check_decls.proofs.file_objects.file_declared.Goals as goal

pub returns-in-Some : goal.returns-in-Some
returns-in-Some c =
    let w = world_of c.args.world.now in
    let name = c.args.named.now.name in
    let ty = ctype_tree c.args.ty in
    let l = option_map linked_tree c.in_ok-before.before in
    let told : c.conflict.result ≡ conflict_of (binding_here w name) (linked_as w name) (agreed (is_object_again w ty c.args.is_const c.args.how.has_init) l) =
    c.conflict.ensures ∙ ap (λ n. conflict_of (binding_here w n) (linked_as w n) c.agrees-agrees.result) c.as_slice-3.ensures
    ∙ ap (conflict_of (binding_here w name) (linked_as w name)) c.agrees-agrees.ensures in
    file_on w (name_tree c.args.named.now) ty c.args.is_const (how_tree c.args.how) l (Some c.in-Some.first)
    (sym c.has_init_in_block.ensures ∙ c.if-has_init_in_block.false) (ap is_reserved (sym c.as_slice.ensures) ∙ sym c.is_reserved.ensures ∙ c.if-is_reserved.false)
    (c.in_ok-before.ensures ∙ ap (linked_as w) c.as_slice-2.ensures) (sym c.in-Some.is ∙ told)

pub returns-then-is_unsized : goal.returns-then-is_unsized
returns-then-is_unsized c =
    let w = world_of c.args.world.now in
    let name = c.args.named.now.name in
    let ty = ctype_tree c.args.ty in
    let how = how_tree c.args.how in
    let l = option_map linked_tree c.in_ok-before.before in
    let told : c.conflict.result ≡ conflict_of (binding_here w name) (linked_as w name) (agreed (is_object_again w ty c.args.is_const c.args.how.has_init) l) =
    c.conflict.ensures ∙ ap (λ n. conflict_of (binding_here w n) (linked_as w n) c.agrees-agrees.result) c.as_slice-3.ensures
    ∙ ap (conflict_of (binding_here w name) (linked_as w name)) c.agrees-agrees.ensures in
    let all : ctype_tree c.in_ok-ty.ty ≡ composite_type w ty l =
    c.in_ok-ty.ensures ∙ ap (composite_type w ty) (lent_tree linked_tree c.as_ref.result ∙ ap (option_map linked_tree) c.as_ref.ensures.value) in
    so declares_tree (world_of c.file_unsized.new.world) c.file_unsized.result
    (when_unsized w (name_tree c.args.named.now) ty c.args.is_const how (ctype_tree c.in_ok-ty.ty) l all (sym c.is_unsized.ensures ∙ c.if-is_unsized.true)
    ∙ file_on w (name_tree c.args.named.now) ty c.args.is_const how l None
    (sym c.has_init_in_block.ensures ∙ c.if-has_init_in_block.false) (ap is_reserved (sym c.as_slice.ensures) ∙ sym c.is_reserved.ensures ∙ c.if-is_reserved.false)
    (c.in_ok-before.ensures ∙ ap (linked_as w) c.as_slice-2.ensures) (sym c.in_default.is ∙ told))
    c.file_unsized.ensures

pub returns : goal.returns
returns c =
    let w = world_of c.args.world.now in
    let name = c.args.named.now.name in
    let ty = ctype_tree c.args.ty in
    let how = how_tree c.args.how in
    let l = option_map linked_tree c.in_ok-before.before in
    let told : c.conflict.result ≡ conflict_of (binding_here w name) (linked_as w name) (agreed (is_object_again w ty c.args.is_const c.args.how.has_init) l) =
    c.conflict.ensures ∙ ap (λ n. conflict_of (binding_here w n) (linked_as w n) c.agrees-agrees.result) c.as_slice-3.ensures
    ∙ ap (conflict_of (binding_here w name) (linked_as w name)) c.agrees-agrees.ensures in
    let all : ctype_tree c.in_ok-ty.ty ≡ composite_type w ty l =
    c.in_ok-ty.ensures ∙ ap (composite_type w ty) (lent_tree linked_tree c.as_ref.result ∙ ap (option_map linked_tree) c.as_ref.ensures.value) in
    so declares_tree (world_of c.file_sized.new.world) c.file_sized.result
    (when_sized w (name_tree c.args.named.now) ty c.args.is_const how (ctype_tree c.in_ok-ty.ty) l all (sym c.is_unsized.ensures ∙ c.if-is_unsized.false)
    ∙ file_on w (name_tree c.args.named.now) ty c.args.is_const how l None
    (sym c.has_init_in_block.ensures ∙ c.if-has_init_in_block.false) (ap is_reserved (sym c.as_slice.ensures) ∙ sym c.is_reserved.ensures ∙ c.if-is_reserved.false)
    (c.in_ok-before.ensures ∙ ap (linked_as w) c.as_slice-2.ensures) (sym c.in_default.is ∙ told))
    c.file_sized.ensures
