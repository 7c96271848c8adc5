-- Operators of the code as typing speaks of them.
use Rattle.c_syntax_written.specs.declared.int_type.IntType.{IntType}
use Rattle.c_syntax.specs.declared.operator.TUnaryOp.{TUnaryOp}
use Rattle.c_syntax.specs.declared.operator.TUnaryOp.TheVariants as unaries
use Rattle.c_syntax.specs.TypedExpr.{texpr_tree}
use Rattle.c_typing.specs.Rows.{CompoundTree}
use Rattle.c_check_operators.specs.declared.unary.Sign.{Sign}
use Rattle.c_check_operators.specs.declared.unary.Sign.TheVariants as signs
use Rattle.c_check_operators.specs.declared.compound.Compound.{Compound}

-- an operator of one integer, at this type
abbrev pub sign_at : Sign → IntType → TUnaryOp
sign_at signs.Plus t = unaries.Plus t
sign_at signs.Minus t = unaries.Minus t
sign_at signs.Complement t = unaries.Complement t

abbrev pub compound_tree : Compound → CompoundTree
compound_tree compound = record { op = compound.op; value = texpr_tree compound.value }
