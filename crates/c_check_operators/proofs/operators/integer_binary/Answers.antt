use Rattle.std.proofs.Common.{ℤ, FitsSigned, to_z, of_z, [], ap, sym, ◌∙◌, rules}
use Rattle.std.specs.Int.{w128}
use Rattle.c_syntax.specs.declared.operator.TBinaryOp.TheVariants as binaries
use Rattle.block_mem.specs.declared.types.Value.TheVariants as values
use Rattle.c_values.specs.Operators.{binary}
use Rattle.c_typing.specs.Constants as constants
use Rattle.c_check_operators.proofs.Numbers.{passed, passed_is}
use Rattle.c_check_operators.proofs.operators.integer_binary.Goals as goal

pub arithmetic-requires-clause-left : goal.arithmetic-requires-clause-left
arithmetic-requires-clause-left c =
    let fits : FitsSigned w128 c.wrap.result = search rules in
    passed c.in-Arithmetic.t c.args.a c.wrap.result c.ranges.a fits c.wrap.ensures

pub arithmetic-requires-clause-right : goal.arithmetic-requires-clause-right
arithmetic-requires-clause-right c =
    let fits : FitsSigned w128 c.wrap-in-Arithmetic.result = search rules in
    passed c.in-Arithmetic.t c.args.b c.wrap-in-Arithmetic.result c.ranges.b fits c.wrap-in-Arithmetic.ensures

pub shift-requires : goal.shift-requires
shift-requires c =
    let fits : FitsSigned w128 c.wrap-in-Shift.result = search rules in
    record { left = passed c.in-Shift.t c.args.a c.wrap-in-Shift.result c.ranges.a fits c.wrap-in-Shift.ensures }

pub returns-in-Arithmetic : goal.returns-in-Arithmetic
returns-in-Arithmetic c t =
    let at = c.in-Arithmetic.t in
    let fits_left : FitsSigned w128 c.wrap.result = search rules in
    let fits_right : FitsSigned w128 c.wrap-in-Arithmetic.result = search rules in
    let b = to_z w128 (of_z w128 c.wrap-in-Arithmetic.result) in
    let given = λ (k l : ℤ). constants.number_given (binary [] constants.no_memory (binaries.Arithmetic c.in-Arithmetic.op at) (values.Int at k) (values.Int at l)) in
    c.number_given.ensures _ (c.arithmetic.ensures [] constants.no_memory)
    ∙ ap (λ k. given k b) (passed_is at c.args.a c.wrap.result c.ranges.a fits_left c.wrap.ensures)
    ∙ ap (given _) (passed_is at c.args.b c.wrap-in-Arithmetic.result c.ranges.b fits_right c.wrap-in-Arithmetic.ensures)
    ∙ ap (λ op. constants.integer_binary op (constants.left_at op t) (constants.right_at op c.args.u) c.args.a c.args.b) (sym c.in-Arithmetic.is)

pub returns-in-Shift : goal.returns-in-Shift
returns-in-Shift c t =
    let at = c.in-Shift.t in
    let fits_left : FitsSigned w128 c.wrap-in-Shift.result = search rules in
    let fits_right : FitsSigned w128 c.wrap-in-Shift-2.result = search rules in
    let b = to_z w128 (of_z w128 c.wrap-in-Shift-2.result) in
    let given = λ (k l : ℤ). constants.number_given (binary [] constants.no_memory (binaries.Shift c.in-Shift.way at) (values.Int at k) (values.Int c.args.u l)) in
    c.number_given-in-Shift.ensures _ (c.shift.ensures [] constants.no_memory c.args.u)
    ∙ ap (λ k. given k b) (passed_is at c.args.a c.wrap-in-Shift.result c.ranges.a fits_left c.wrap-in-Shift.ensures)
    ∙ ap (given _) (passed_is c.args.u c.args.b c.wrap-in-Shift-2.result c.ranges.b fits_right c.wrap-in-Shift-2.ensures)
    ∙ ap (λ op. constants.integer_binary op (constants.left_at op t) (constants.right_at op c.args.u) c.args.a c.args.b) (sym c.in-Shift.is)
