use Rattle.std.proofs.Common.{◌≡◌, ap, sym, ◌∙◌}
use Rattle.std.specs.Prelude.{None}
use Rattle.c_syntax.specs.TypedExpr.{texprs_tree}
use Rattle.c_typing.specs.Names.{input_type}
use Rattle.c_typing.specs.Nodes.{call_named}
use Rattle.c_check_operators.specs.OperandViews.{operand_tree}
use Rattle.c_check_names.proofs.Steps.{so}
use Rattle.c_check_names.specs.Worlds.{world_of}
use Rattle.c_check_exprs.proofs.Passing.{called_by_name}
use Rattle.c_check_exprs.proofs.calls.called.Goals as goal

pub returns-else-is_assert : goal.returns-else-is_assert
returns-else-is_assert c =
    let w = world_of c.args.world.now in
    let args = texprs_tree c.args.args in
    let name = c.args.name.now in
    let no_input : input_type name ≡ None = cc (c.input_type.ensures, c.in_default.is) in
    so operand_tree w c.call_named.result
    (ap (call_named w c.args.pos args) c.meaning_of.ensures
    ∙ called_by_name w c.args.pos name args no_input (sym c.is_assume.ensures ∙ c.if-is_assume.false) (sym c.is_assert.ensures ∙ c.if-is_assert.false))
    c.call_named.ensures
