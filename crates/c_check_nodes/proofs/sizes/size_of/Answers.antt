use Rattle.std.proofs.Common.{ap, sym, ◌∙◌}
use Rattle.std.specs.Prelude.{None, option_map, pos}
use Rattle.c_syntax_written.specs.declared.int_type.IntType.TheVariants as ints
use Rattle.c_syntax.specs.Types.{ctype_tree}
use Rattle.c_syntax.specs.TypedExpr.{texpr_tree, tlvalue_tree}
use Rattle.c_syntax.specs.TypedExpr as trees
use Rattle.c_syntax.specs.declared.op.Op.TheVariants as ops
use Rattle.c_typing.specs.Nodes as nodes
use Rattle.c_typing.specs.Operands as operands
use Rattle.c_typing.specs.World.{no_rule}
use Rattle.c_check_operators.specs.OperandViews.{operand_tree}
use Rattle.c_check_names.proofs.Steps.{so}
use Rattle.c_check_nodes.proofs.sizes.size_of.Goals as goal

pub returns : goal.returns
returns c w same =
    so operand_tree w _ (ap (λ n. nodes.given (no_rule w c.args.pos ops.Sizeof (ctype_tree c.args.ty) None) n w) (c.size_node-size.ensures
    ∙ ap (λ structs. option_map (λ size. trees.Const c.args.pos ints.ULong (pos size)) (operands.complete_size structs (ctype_tree c.args.ty))) (sym same)))
    (c.given.ensures w same)
