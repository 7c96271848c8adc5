use Rattle.machine_nums.specs.MExprs.{mexpr_tree}
use Rattle.machine_nums.proofs.Values.{untyped_fits}
use Rattle.machine_nums.proofs.expr.MExpr.untyped.Goals as goal

pub returns-clause-value : goal.returns-clause-value
returns-clause-value c = untyped_fits (mexpr_tree c.args.self.now) c.without_types.result c.without_types.ensures
