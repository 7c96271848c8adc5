use Rattle.std.proofs.Common.{◌≡◌, Some, subst}
use Rattle.std.specs.Prelude.{IfSome, option_map}
use Rattle.std.proofs.lemmas.Result.{on_ok_weaker}
use Rattle.machine_nums.specs.MExprs.{mexpr_tree}
use Rattle.machine_nums.specs.Machine.{machine_value}
use Rattle.mem_cell_loads.proofs.content.put_number.Goals as goal

pub returns-in-Some : goal.returns-in-Some
returns-in-Some g c =
    on_ok_weaker c.set.result (λ law v w n a typed inside value set. law v w n a
    (subst (λ o. IfSome (option_map mexpr_tree o) (λ m. machine_value v m ≡ Some n)) c.in-Some.is value) set) c.set.ensures.after

pub returns-in-None : goal.returns-in-None
returns-in-None g c = on_ok_weaker c.put_range.result (λ law v w n a typed inside value set. law v w n a typed inside set) c.put_range.ensures
