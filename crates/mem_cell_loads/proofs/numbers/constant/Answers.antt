use Rattle.std.proofs.Common.{◌∙◌, FitsSigned, refl, rules}
use Rattle.std.specs.Int.{w128}
use Rattle.std.proofs.lemmas.Int.{to_z-of_z}
use Rattle.mem_cell_loads.proofs.Made.{constant-made}
use Rattle.mem_cell_loads.proofs.numbers.constant.Goals as goal

pub returns-clause-value : goal.returns-clause-value
returns-clause-value c =
    let fits : FitsSigned w128 c.from.result = search rules in
    λ v. constant-made c.args.ty c.args.byte c.fill_bits.result _ _ c.in_ok-new.field-0 c.fill_bits.ensures.value c.fill_bits.ensures.proper c.in_ok-new.ensures.ok refl
    (to_z-of_z w128 c.from.result fits ∙ c.from.ensures) v
