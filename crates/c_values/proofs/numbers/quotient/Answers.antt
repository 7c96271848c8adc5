use Rattle.std.proofs.Common.{◌≡◌, pos, FitsSigned, of_z, ap, subst, arith}
use Rattle.std.specs.Int.{w128}
use Rattle.std.proofs.lemmas.Int.{ints, quot_is}
use Rattle.c_values.specs.Answers.{ranged}
use Rattle.std.specs.Prelude.{int_div}
use Rattle.c_syntax.specs.Operand.{operand_of}
use Rattle.c_values.specs.Looks.{Gives, GoesWrong}
use Rattle.c_values.proofs.Outcomes.{division_passes, division_fails}
use Rattle.c_values.proofs.Ranges.{size_of_number, size_of_quotient}
use Rattle.c_syntax_written.specs.Integer.{least, greatest}
use Rattle.c_syntax.specs.declared.alarm.WrongKind.TheVariants as kinds
use Rattle.c_values.proofs.numbers.quotient.Goals as goal

pub returns-in-Ok-clause-checked : goal.returns-in-Ok-clause-checked
returns-in-Ok-clause-checked c =
    let t = c.args.t in let a = c.args.a in let b = c.args.b in
    let fits : FitsSigned w128 (int_div a b) = omega (arith, ints, size_of_quotient a b, size_of_number t a c.requires.left) in
    let e = quot_is w128 a b c.ranges.a c.ranges.b fits in
    division_passes t a b c.in-Ok.field-0 (λ e. c.if-b-eq0.false (ap (of_z w128) e)) (subst (λ x. ranged kinds.Quotient t (least t) (pos (greatest t)) x
    ≡ Gives c.in-Ok.field-0) e c.in-Ok.ensures)

pub returns-in-Ok-clause-exact : goal.returns-in-Ok-clause-exact
returns-in-Ok-clause-exact c =
    let fits : FitsSigned w128 (int_div c.args.a c.args.b) = omega (
      arith,
      ints,
      size_of_quotient c.args.a c.args.b,
      size_of_number c.args.t c.args.a
          c.requires.left,
    ) in
    quot_is w128 c.args.a c.args.b c.ranges.a c.ranges.b fits

pub returns-in-Err-clause-checked : goal.returns-in-Err-clause-checked
returns-in-Err-clause-checked c =
    let t = c.args.t in let a = c.args.a in let b = c.args.b in
    let fits : FitsSigned w128 (int_div a b) = omega (arith, ints, size_of_quotient a b, size_of_number t a c.requires.left) in
    let e = quot_is w128 a b c.ranges.a c.ranges.b fits in
    division_fails t a b c.in-Err.wrong.kind (operand_of c.in-Err.wrong.operand) (λ e. c.if-b-eq0.false (ap (of_z w128) e))
    (subst (λ x. ranged kinds.Quotient t (least t) (pos (greatest t)) x ≡ GoesWrong c.in-Err.wrong.kind (operand_of c.in-Err.wrong.operand)) e
    c.in-Err.ensures)
