use Rattle.csharp.specs.Trees.{cscheck_tree, csexpr_tree}
use Rattle.csharp.specs.declared.expression.CsExpr.TheVariants as exprs
use Rattle.csharp.proofs.CodeTrees.{csexpr_address}
use Rattle.mem_intervals.proofs.Examples.{value_given}
use Rattle.mem_intervals.proofs.tests.shown_value.Goals as goal

pub show-requires : goal.show-requires
show-requires c = (
  c.requires.program,
  c.requires.is_for,
  value_given c.requires.program (cscheck_tree c.in_ok-value.value) c.in_ok-value.value.pos (csexpr_tree (exprs.Address 0)) c.requires.small
      c.in_ok-value.ensures (csexpr_address 0),
)
