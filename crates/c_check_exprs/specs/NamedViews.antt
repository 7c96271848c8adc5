-- The refusal of a cast to the type of a function, and what a call on names comes to as a result of typing.
use Rattle.std.specs.Prelude.{Some}
use Rattle.c_syntax_written.specs.declared.place.Pos.{Pos}
use Rattle.c_syntax.specs.declared.op.Op.TheVariants as ops
use Rattle.c_syntax.specs.TypedExpr.{TExprTree}
use Rattle.c_syntax.specs.TypedParts.{texpr_type}
use Rattle.c_typing.specs.World.{World, Outcome, Refused, no_rule}
use Rattle.c_typing.specs.Operands.{OperandTree}
use Rattle.c_typing.specs.Declarators.{unknown_function}

-- no row casts a value to the type of a function
abbrev pub no_function_cast : World → Pos → TExprTree → Outcome OperandTree
no_function_cast w at e = Refused (no_rule w at ops.Cast (unknown_function w) (Some (texpr_type e)))
