use Rattle.std.proofs.Common.{ℤ, pos, ◌≤ℤ◌, FitsSigned, rules, refl, subst}
use Rattle.std.specs.Int.{w128}
use Rattle.std.proofs.lemmas.Int.{to_z-of_z}
use Rattle.c_syntax_written.specs.declared.int_type.IntType.TheVariants.{Long}
use Rattle.c_syntax_written.specs.Integer.{greatest, least}
use Rattle.machine_nums.proofs.ExprTypes.{has_between}
use Rattle.mem_cell_shows.proofs.Between.{const-is}
use Rattle.mem_cell_shows.proofs.betweens.constant.Goals as goal

pub returns-then-is_at_most : goal.returns-then-is_at_most
returns-then-is_at_most c = λ v.
    let n = c.args.n in
    let fits : FitsSigned w128 n = search rules in
    let same = to_z-of_z w128 n fits in
    let low : least Long ≤ℤ n = subst (λ (x : ℤ). least Long ≤ℤ x) same (c.if-is_at_least.ensures refl) in
    let high : n ≤ℤ pos (greatest Long) = subst (λ (x : ℤ). x ≤ℤ pos (greatest Long)) same (c.if-is_at_most.ensures refl) in
    const-is v _ n same (has_between Long n low high)
