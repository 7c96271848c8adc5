use Rattle.std.proofs.Common.{◌≡◌, refl, ap, sym, ◌∙◌, subst}
use Rattle.std.specs.Prelude.{option_map}
use Rattle.c_syntax_written.specs.declared.construct.Construct.TheVariants as constructs
use Rattle.c_syntax.specs.Types.{ctype_tree}
use Rattle.c_syntax.proofs.TypeTrees.{ctype_struct, not_struct}
use Rattle.c_typing.specs.World.{Refused, Unsupported}
use Rattle.c_typing.specs.Typing as typing
use Rattle.c_check_declarators.specs.Views.{name_tree, parameter_tree}
use Rattle.c_check_names.proofs.Steps.{so}
use Rattle.c_check_names.specs.Worlds.{world_of}
use Rattle.c_check_declarators.proofs.Parameters.{scalar_sized}
use Rattle.c_check_declarators.proofs.params.parameter_sized.Goals as goal

pub returns-in-Struct : goal.returns-in-Struct
returns-in-Struct c =
    let w = world_of c.args.world.now in
    let name = option_map name_tree c.args.name in
    so parameter_tree w c.no_parameter.result
    (subst (λ ty. typing.unless_named_before w name (Refused (Unsupported c.args.pos constructs.StructByValue)) ≡ typing.parameter_sized w c.args.pos name c.args.k ty c.args.is_const)
    (sym (ap ctype_tree c.in-Struct.is ∙ ctype_struct c.in-Struct.field-0)) refl)
    c.no_parameter.ensures

pub returns-in_default : goal.returns-in_default
returns-in_default c =
    let w = world_of c.args.world.now in
    let name = option_map name_tree c.args.name in
    so parameter_tree _ c.scalar_parameter.result
    (scalar_sized w c.args.pos name c.args.k (ctype_tree c.args.ty) c.args.is_const (not_struct c.args.ty c.in_default.not-Struct))
    c.scalar_parameter.ensures
