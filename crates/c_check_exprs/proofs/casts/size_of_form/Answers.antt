use Rattle.std.proofs.Common.{refl, ap, sym}
use Rattle.std.specs.Prelude.{None}
use Rattle.c_syntax.specs.declared.op.Op.TheVariants as ops
use Rattle.c_typing.specs.Declarators.{unknown_function}
use Rattle.c_typing.specs.Nodes as nodes
use Rattle.c_typing.specs.World.{no_rule}
use Rattle.c_check_operators.specs.OperandViews.{operand_tree}
use Rattle.c_check_names.proofs.Steps.{refused, so}
use Rattle.c_check_names.specs.Trees.{form_tree}
use Rattle.c_check_names.specs.Worlds.{world_of}
use Rattle.c_check_exprs.proofs.casts.size_of_form.Goals as goal

pub returns-in-Plain : goal.returns-in-Plain
returns-in-Plain c =
    let w = world_of c.args.world.now in
    so operand_tree w c.size_of.result (ap (λ form. nodes.size_of_form w c.args.pos (form_tree form)) (sym c.in-Plain.is)) (c.size_of.ensures w refl)

pub returns-in-Unsized : goal.returns-in-Unsized
returns-in-Unsized c =
    let w = world_of c.args.world.now in
    refused c.no_function.result (no_rule w c.args.pos ops.Sizeof (unknown_function w) None) _ c.no_function.ensures
    (ap (λ form. nodes.size_of_form w c.args.pos (form_tree form)) (sym c.in-Unsized.is))

pub returns-in-Callable : goal.returns-in-Callable
returns-in-Callable c =
    let w = world_of c.args.world.now in
    refused c.no_function-in-Callable.result (no_rule w c.args.pos ops.Sizeof (unknown_function w) None) _ c.no_function-in-Callable.ensures
    (ap (λ form. nodes.size_of_form w c.args.pos (form_tree form)) (sym c.in-Callable.is))
