use Rattle.std.proofs.Common.{◌∙◌, ap}
use Rattle.c_syntax_written.specs.declared.int_type.IntType.TheVariants.{Long}
use Rattle.machine_nums.specs.MExprs.{mexpr_tree}
use Rattle.machine_nums.specs.MExprs as numbers
use Rattle.machine_nums.specs.Machine.{exact_value}
use Rattle.machine_nums.proofs.Trees.{mexpr_convert}
use Rattle.mem_cell_loads.proofs.numbers.number_range.Goals as goal

pub returns : goal.returns
returns g c =
    let tree = mexpr_convert Long c.in_ok-new.field-0 ∙ ap (λ x. numbers.Convert Long (mexpr_tree x)) c.in_ok-new.ensures.ok in
    λ v n a h. (c.in_ok-range.ensures.holds v n a (ap (exact_value v) tree ∙ h)).0
