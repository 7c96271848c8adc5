use Rattle.std.proofs.Common.{ℤ, FitsSigned, [], ap, sym, ◌∙◌, rules}
use Rattle.std.specs.Prelude.{Some}
use Rattle.std.specs.Int.{w128}
use Rattle.c_syntax.specs.declared.operator.TUnaryOp.TheVariants as unaries
use Rattle.block_mem.specs.declared.types.Scalar.TheVariants as scalars
use Rattle.block_mem.specs.declared.types.Value.TheVariants as values
use Rattle.c_values.specs.Operators.{unary}
use Rattle.c_typing.specs.Constants as constants
use Rattle.c_check_operators.proofs.Numbers.{passed, passed_is}
use Rattle.c_check_operators.proofs.operators.integer_unary.Goals as goal

pub negate-requires : goal.negate-requires
negate-requires c =
    let fits : FitsSigned w128 c.wrap-in-Minus.result = search rules in
    passed c.in-Minus.at c.args.n c.wrap-in-Minus.result c.ranges.n fits c.wrap-in-Minus.ensures

pub complement-requires : goal.complement-requires
complement-requires c =
    let fits : FitsSigned w128 c.wrap-in-Complement.result = search rules in
    passed c.in-Complement.at c.args.n c.wrap-in-Complement.result c.ranges.n fits c.wrap-in-Complement.ensures

pub returns-in-Minus : goal.returns-in-Minus
returns-in-Minus c =
    let at = c.in-Minus.at in
    let fits : FitsSigned w128 c.wrap-in-Minus.result = search rules in
    let given = λ (k : ℤ). constants.number_given (unary [] constants.no_memory (unaries.Minus at) (Some (scalars.Int at)) (values.Int at k)) in
    c.number_given.ensures _ (c.negate.ensures [] constants.no_memory)
    ∙ ap given (passed_is at c.args.n c.wrap-in-Minus.result c.ranges.n fits c.wrap-in-Minus.ensures)
    ∙ ap (λ op. constants.integer_unary op (constants.operand_at op c.args.t) c.args.n) (sym c.in-Minus.is)
