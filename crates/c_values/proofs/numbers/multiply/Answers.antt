use Rattle.std.proofs.Common.{pos, ◌*ℤ◌, FitsSigned, sym, subst, ◌∙◌}
use Rattle.std.specs.Int.{w128}
use Rattle.c_values.specs.Answers.{Answers, ranged}
use Rattle.c_values.proofs.Ranges.{signed_product, product_is}
use Rattle.c_syntax_written.specs.Integer.{least, greatest}
use Rattle.c_syntax.specs.declared.alarm.WrongKind.TheVariants as kinds
use Rattle.c_values.proofs.numbers.multiply.Goals as goal

pub returns-then-is_signed : goal.returns-then-is_signed
returns-then-is_signed c =
    let t = c.args.t in
    let fits : FitsSigned w128 (c.args.a *ℤ c.args.b) = signed_product t c.args.a c.args.b (sym c.is_signed.ensures
    ∙ c.if-is_signed.true) c.requires.left c.requires.right in
    subst (λ x. Answers c.of_type.result (ranged kinds.Overflow t (least t) (pos (greatest t)) x))
    (product_is w128 c.args.a c.args.b c.ranges.a c.ranges.b fits) c.of_type.ensures
