use Rattle.csharp.specs.Trees.{cscheck_tree, csexpr_tree}
use Rattle.csharp.specs.declared.expression.CsExpr.TheVariants as exprs
use Rattle.csharp.proofs.CodeTrees.{csexpr_temp}
use Rattle.mem_intervals.proofs.Examples.{divisor_given}
use Rattle.mem_intervals.proofs.tests.shown_divisor.Goals as goal

pub show-requires : goal.show-requires
show-requires c = (
  c.requires.program,
  c.requires.is_for,
  divisor_given c.requires.program (cscheck_tree c.in_ok-divisor.divisor) c.in_ok-divisor.divisor.pos (csexpr_tree (exprs.Temp 0)) c.requires.small
      c.in_ok-divisor.ensures (csexpr_temp 0),
)
