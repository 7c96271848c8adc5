use Rattle.std.proofs.Common.{sym, subst}
use Rattle.c_syntax_written.specs.declared.int_type.IntType.{IntType}
use Rattle.c_syntax_written.specs.Integer.{HasNumber}
use Rattle.machine_nums.specs.MExprs.{mexpr_tree}
use Rattle.machine_nums.proofs.Values.{machine_has}
use Rattle.machine_nums.proofs.expr.MExpr.int_type.Goals as goal

pub returns-clause-has : goal.returns-clause-has
returns-clause-has c = λ v n h. subst (λ (t : IntType). HasNumber t n) (sym c.node_type.ensures) (machine_has v (mexpr_tree c.args.self.now) n h)
