use Rattle.std.proofs.Common.{◌≡◌, refl, ap, sym, ◌∙◌, subst, map}
use Rattle.std.specs.Prelude.{None}
use Rattle.c_syntax.specs.declared.op.Op.TheVariants as ops
use Rattle.c_syntax.specs.Types.{ctype_tree}
use Rattle.c_syntax.proofs.TypeTrees.{ctype_array, ctype_struct, not_array, not_struct}
use Rattle.c_syntax_written.specs.declared.construct.Construct.TheVariants as constructs
use Rattle.c_typing.specs.World.{no_rule, Callable, Typed, Refused, Unsupported}
use Rattle.c_typing.specs.Declarators.{result_form, types_of_params}
use Rattle.c_check_names.specs.Worlds.{world_of}
use Rattle.c_check_names.proofs.Steps.{refused}
use Rattle.c_check_declarators.specs.Views.{parameter_tree}
use Rattle.c_check_declarators.proofs.Steps.{other_result}
use Rattle.c_check_declarators.proofs.forms.result_form.Goals as goal

pub returns-in-Array : goal.returns-in-Array
returns-in-Array c =
    let w = world_of c.args.world.now in
    let params = types_of_params (map parameter_tree c.args.params.now) in
    refused c.no_init.result (no_rule w c.args.pos ops.Init (ctype_tree c.args.ty) None) (result_form w c.args.pos params (ctype_tree c.args.ty)) c.no_init.ensures
    (subst (λ ty. Refused (no_rule w c.args.pos ops.Init ty None) ≡ result_form w c.args.pos params ty)
    (sym (ap ctype_tree c.in-Array.is ∙ ctype_array c.in-Array.field-0 c.in-Array.field-1)) refl)

pub returns-in-Struct : goal.returns-in-Struct
returns-in-Struct c =
    let w = world_of c.args.world.now in
    let params = types_of_params (map parameter_tree c.args.params.now) in
    subst (λ ty. Refused (Unsupported c.args.pos constructs.StructByValue) ≡ result_form w c.args.pos params ty) (sym (ap ctype_tree c.in-Struct.is ∙ ctype_struct c.in-Struct.field-0)) refl

pub returns-in_ok-params-in_default : goal.returns-in_ok-params-in_default
returns-in_ok-params-in_default c =
    let w = world_of c.args.world.now in
    let params = types_of_params (map parameter_tree c.args.params.now) in
    ap (λ types. Typed (Callable types (ctype_tree c.args.ty)) w) c.in_ok-params-in_default.ensures
    ∙ other_result w c.args.pos params (ctype_tree c.args.ty) (not_array c.args.ty c.in_default.not-Array) (not_struct c.args.ty c.in_default.not-Struct)
