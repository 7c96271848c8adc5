use Rattle.std.proofs.Common.{ℤ, pos, ◌≤ℤ◌, FitsSigned, rules, refl, subst, to_z, of_z}
use Rattle.std.specs.Int.{w128}
use Rattle.std.proofs.lemmas.Int.{to_z-of_z}
use Rattle.c_syntax_written.specs.Integer.{greatest, least}
use Rattle.machine_nums.proofs.ExprTypes.{has_between}
use Rattle.mem_cell_exprs.proofs.Made.{const-made}
use Rattle.mem_cell_exprs.proofs.numbers.constant.Goals as goal

pub returns-then-is_at_most : goal.returns-then-is_at_most
returns-then-is_at_most c =
    let value = c.args.value in let ty = c.args.ty in
    let fits : FitsSigned w128 value = search rules in
    let same = to_z-of_z w128 value fits in
    let low : least ty ≤ℤ value = subst (λ (x : ℤ). least ty ≤ℤ x) same (c.if-is_at_least.ensures refl) in
    let high : value ≤ℤ pos (greatest ty) = subst (λ (x : ℤ). x ≤ℤ pos (greatest ty)) same (c.if-is_at_most.ensures refl) in
    λ types. const-made ty value (to_z w128 (of_z w128 value)) same (has_between ty value low high) types
