use Rattle.std.proofs.Common.{◌≡◌, pos, neg_ℤ, ◌-ℤ◌, to_z, of_z, ap, sym, subst, ◌∙◌, arith}
use Rattle.std.specs.Int.{w128}
use Rattle.std.proofs.lemmas.Int.{ints}
use Rattle.c_values.specs.Answers.{Answers, ranged}
use Rattle.c_values.proofs.Outcomes.{negated}
use Rattle.c_values.proofs.Ranges.{size_of_number}
use Rattle.c_syntax_written.specs.Integer.{least, greatest}
use Rattle.c_syntax.specs.declared.alarm.WrongKind.TheVariants as kinds
use Rattle.c_values.proofs.numbers.negate.Goals as goal

pub returns : goal.returns
returns c = λ objects m.
    let e : to_z w128 (of_z w128 (pos 0 -ℤ to_z w128 (of_z w128 c.args.n))) ≡ neg_ℤ c.args.n = omega (arith, ints, size_of_number c.args.t c.args.n c.requires)
    in
    subst (λ o. Answers c.of_type.result o) (ap (ranged kinds.Overflow c.args.t (least c.args.t) (pos (greatest c.args.t))) e
    ∙ sym (negated objects m c.args.t c.args.n)) c.of_type.ensures
