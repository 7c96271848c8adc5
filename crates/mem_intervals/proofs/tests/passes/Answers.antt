use Rattle.csharp.specs.Trees.{cscheck_tree, csexpr_tree}
use Rattle.csharp.specs.declared.expression.CsExpr.TheVariants as exprs
use Rattle.csharp.proofs.CodeTrees.{csexpr_temp}
use Rattle.mem_intervals.proofs.Examples.{goes_on, divisor_given}
use Rattle.mem_intervals.proofs.tests.passes.Goals as goal

pub pass-requires : goal.pass-requires
pass-requires c = (
  c.requires.program,
  c.requires.is_for,
  divisor_given c.requires.program (cscheck_tree c.in_ok-divisor.divisor) c.in_ok-divisor.divisor.pos (csexpr_tree (exprs.Temp 0)) c.requires.small
      c.in_ok-divisor.ensures (csexpr_temp 0),
)

pub returns : goal.returns
returns c = goes_on c.requires c.pass.ensures.is_for
