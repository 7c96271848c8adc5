-- Operands of the code as the pure trees that typing speaks of.
use Rattle.c_syntax.specs.TypedExpr.{texpr_tree, tlvalue_tree}
use Rattle.c_typing.specs.Operands.{OperandTree, Place, Value}
use Rattle.c_check_operators.specs.declared.operand.Operand.{Operand}
use Rattle.c_check_operators.specs.declared.operand.Operand.TheVariants as operands

abbrev pub operand_tree : Operand → OperandTree
operand_tree (operands.Place place) = Place (tlvalue_tree place)
operand_tree (operands.Value e) = Value (texpr_tree e)
