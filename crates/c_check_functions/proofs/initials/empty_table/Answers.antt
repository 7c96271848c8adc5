use Rattle.std.proofs.Common.{ap, ◌∙◌, get_or, arith}
use Rattle.std.specs.Prelude.{None}
use Rattle.c_check_functions.proofs.Tables.{none_pushed}
use Rattle.c_check_functions.proofs.initials.empty_table.Goals as goal

pub each-init : goal.each-init
each-init c = (omega (arith, c.new-table.ensures.len), λ n. ap (λ xs. get_or xs n None) c.new-table.ensures.items)

pub each-preserved : goal.each-preserved
each-preserved c =
    (omega arith, λ n. ap (λ xs. get_or xs n None) c.in_ok-push.ensures.items ∙ none_pushed c.each.table.items c.each.invariant.1 n)
