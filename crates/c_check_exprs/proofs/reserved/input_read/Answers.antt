use Rattle.std.proofs.Common.{◌≡◌, ap, sym, ◌∙◌, length, arith}
use Rattle.std.specs.Prelude.{None}
use Rattle.std.proofs.lemmas.Grind.{common_steps}
use Rattle.c_syntax.specs.declared.op.Op.TheVariants as ops
use Rattle.c_syntax.proofs.TypedExprTrees.{texpr_any}
use Rattle.c_typing.specs.World.{Typed, no_rule}
use Rattle.c_typing.specs.Operands.{Value}
use Rattle.c_typing.specs.Declarators.{unknown_function}
use Rattle.c_typing.specs.Nodes.{input_read}
use Rattle.c_check_names.proofs.Steps.{refused}
use Rattle.c_check_names.specs.Worlds.{world_of}
use Rattle.c_check_exprs.proofs.WordArguments.{input_none, input_some}
use Rattle.c_check_exprs.proofs.reserved.input_read.Goals as goal

pub returns-then-is_empty : goal.returns-then-is_empty
returns-then-is_empty c =
    let w = world_of c.args.world.now in
    let none : length c.as_slice.result.now ≡ 0 = grind (arith, common_steps, c.is_empty.ensures, c.if-is_empty.true) in
    ap (λ e. Typed (Value e) w) (texpr_any c.args.pos c.args.ty) ∙ sym (input_none w c.args.pos c.args.ty c.as_slice.result.now none) ∙ ap (input_read w c.args.pos c.args.ty) c.as_slice.ensures

pub returns-else-is_empty : goal.returns-else-is_empty
returns-else-is_empty c =
    let w = world_of c.args.world.now in
    let some : length c.as_slice.result.now ≡ 0 → ⊥ = λ e. grind (arith, common_steps, c.is_empty.ensures, c.if-is_empty.false, e) in
    refused c.no_function.result (no_rule w c.args.pos ops.Call (unknown_function w) None) _ c.no_function.ensures
    (input_some w c.args.pos c.args.ty c.as_slice.result.now some ∙ ap (input_read w c.args.pos c.args.ty) c.as_slice.ensures)
