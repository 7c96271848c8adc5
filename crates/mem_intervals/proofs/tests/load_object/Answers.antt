use Rattle.csharp.specs.Trees.{csexpr_tree}
use Rattle.csharp.specs.declared.expression.CsExpr.TheVariants as exprs
use Rattle.csharp.proofs.CodeTrees.{csexpr_address}
use Rattle.mem_intervals.proofs.Examples.{goes_on, load_given}
use Rattle.mem_intervals.proofs.tests.load_object.Goals as goal

pub load-requires : goal.load-requires
load-requires c = (
  c.requires.program,
  c.requires.is_for,
  load_given c.requires.program (csexpr_tree (exprs.Address 0)) c.requires.small (csexpr_address 0),
)

pub returns : goal.returns
returns c = goes_on c.requires c.load.ensures.is_for
