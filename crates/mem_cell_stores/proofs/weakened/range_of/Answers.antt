use Rattle.std.proofs.Common.{◌≡◌, Some, subst}
use Rattle.std.specs.Prelude.{IfSome, option_map}
use Rattle.std.proofs.lemmas.Result.{IfOk-weaker}
use Rattle.machine_nums.specs.MExprs.{mexpr_tree}
use Rattle.machine_nums.specs.Machine.{machine_value}
use Rattle.mem_cell_bytes.specs.Cells.{number_of}
use Rattle.mem_cell_stores.proofs.weakened.range_of.Goals as goal

pub returns-in-Some : goal.returns-in-Some
returns-in-Some g c =
    IfOk-weaker c.number_range.result _ _ (λ r law objects s st u is of.
    law st.v (number_of u) st.admitted
    (subst (λ o. IfSome (option_map mexpr_tree o) (λ m. machine_value st.v m ≡ Some (number_of u))) c.in-Some.is (c.in_ok-number.ensures objects s st u is of).number)) c.number_range.ensures

pub returns : goal.returns
returns g c = λ objects s st u is of. (c.in_ok-number.ensures objects s st u is of).range
