use Rattle.std.proofs.Common.{refl, ap, sym}
use Rattle.c_syntax.specs.TypedExpr.{texpr_tree}
use Rattle.c_typing.specs.Nodes as nodes
use Rattle.c_check_operators.specs.OperandViews.{operand_tree}
use Rattle.c_check_names.proofs.Steps.{so}
use Rattle.c_check_names.specs.Trees.{form_tree}
use Rattle.c_check_names.specs.Worlds.{world_of}
use Rattle.c_check_exprs.proofs.casts.cast_to.Goals as goal

pub returns-in-Plain : goal.returns-in-Plain
returns-in-Plain c =
    let w = world_of c.args.world.now in
    so operand_tree w c.cast.result (ap (λ form. nodes.cast w c.args.pos (form_tree form) (texpr_tree c.args.e)) (sym c.in-Plain.is))
    (c.cast.ensures w c.in-Plain._is_const refl)

pub returns-in-Unsized : goal.returns-in-Unsized
returns-in-Unsized c =
    let w = world_of c.args.world.now in
    so operand_tree w c.no_cast.result (ap (λ form. nodes.cast w c.args.pos (form_tree form) (texpr_tree c.args.e)) (sym c.in-Unsized.is)) c.no_cast.ensures

pub returns-in-Callable : goal.returns-in-Callable
returns-in-Callable c =
    let w = world_of c.args.world.now in
    so operand_tree w c.no_cast-in-Callable.result (ap (λ form. nodes.cast w c.args.pos (form_tree form) (texpr_tree c.args.e)) (sym c.in-Callable.is))
    c.no_cast-in-Callable.ensures
