use Rattle.std.proofs.Common.{◌≡◌, ◌++◌, subst, arith}
use Rattle.std.specs.Prelude.{OnOk}
use Rattle.c_rules_effects.proofs.TakenForms.{more_args, no_array, no_sum}
use Rattle.c_rules_effects.proofs.taken_exprs.+taken.Goals as goal

pub add_args-loop-arg-preserved : goal.add_args-loop-arg-preserved
add_args-loop-arg-preserved t c =
    more_args c.args.taken.now.items c.loop-arg.taken.items c.add_expr.new.taken.items c.as_slice-arg-items.result.now c.loop-arg.arg-index c.arg-item.result
    (omega arith) c.arg-item.is c.loop-arg.invariant c.in_ok-add_expr.ensures

pub add_indexed-returns-in_default : goal.add_indexed-returns-in_default
add_indexed-returns-in_default t c =
    subst (λ more. OnOk c.add_expr.result (c.add_expr.new.taken.items
    ≡ c.args.taken.now.items ++ more)) (no_sum c.args.sum.now c.in_default.not-Binary) c.add_expr.ensures

pub add_array-returns-in_default : goal.add_array-returns-in_default
add_array-returns-in_default t c =
    subst (λ more. OnOk c.add_expr.result (c.add_expr.new.taken.items
    ≡ c.args.taken.now.items ++ more)) (no_array c.args.array.now c.in_default.not-Decay) c.add_expr.ensures
