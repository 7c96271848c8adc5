use Rattle.csharp.specs.Trees.{csexpr_tree}
use Rattle.csharp.specs.declared.expression.CsExpr.TheVariants as exprs
use Rattle.csharp.proofs.CodeTrees.{csexpr_temp}
use Rattle.mem_intervals.proofs.Examples.{goes_on, assume_given}
use Rattle.mem_intervals.proofs.tests.may_be_zero.Goals as goal

pub assume-requires : goal.assume-requires
assume-requires c = (
  c.requires.program,
  c.requires.is_for,
  assume_given c.requires.program (csexpr_tree (exprs.Temp 0)) c.requires.small (csexpr_temp 0),
)

pub returns : goal.returns
returns c = goes_on c.requires c.assume.ensures.is_for
