use Rattle.std.proofs.Common.{◌≡◌, FitsSigned, to_z, of_z, ap, sym, ◌∙◌, rules}
use Rattle.std.specs.Int.{w128}
use Rattle.std.proofs.lemmas.Int.{to_z-of_z, rem_is}
use Rattle.c_values.specs.Answers.{divided}
use Rattle.c_values.specs.Looks.{Passes, Gives}
use Rattle.c_values.specs.Numbers.{remainder}
use Rattle.c_values.proofs.Outcomes.{remainder_is}
use Rattle.c_syntax_written.specs.Integer.{wrapped}
use Rattle.block_mem.specs.declared.types.Value.TheVariants as values
use Rattle.c_values.proofs.numbers.remainder.Goals as goal

pub returns-in-Ok : goal.returns-in-Ok
returns-in-Ok c =
    let t = c.args.t in let a = c.args.a in let b = c.args.b in
    let fa : FitsSigned w128 a = c.ranges.a in let fb : FitsSigned w128 b = c.ranges.b in
    let passes : divided t a b ≡ Passes = simp to_z-of_z at c.in-Ok.ensures.checked in
    let fits : FitsSigned w128 c.wrap.result = search rules in
    let rest : to_z w128 (of_z w128 c.wrap.result) ≡ wrapped t (remainder a b) = to_z-of_z w128 c.wrap.result fits ∙ c.wrap.ensures
    ∙ ap (wrapped t) (rem_is w128 a b fa fb ∙ remainder_is a b) in
    rw passes (ap (λ n. Gives (values.Int t n)) (sym rest))
