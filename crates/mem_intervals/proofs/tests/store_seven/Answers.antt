use Rattle.std.proofs.Common.{pos}
use Rattle.c_syntax_written.specs.declared.int_type.IntType.TheVariants as ints
use Rattle.csharp.specs.Trees.{csexpr_tree}
use Rattle.csharp.specs.declared.expression.CsExpr.TheVariants as exprs
use Rattle.csharp.proofs.CodeTrees.{csexpr_address, csexpr_const}
use Rattle.mem_intervals.proofs.Examples.{goes_on, store_given}
use Rattle.mem_intervals.proofs.tests.store_seven.Goals as goal

pub store-requires : goal.store-requires
store-requires c = (
  c.requires.program,
  c.requires.is_for,
  store_given c.requires.program (csexpr_tree (exprs.Address 0)) (csexpr_tree (exprs.Const ints.Int (pos 7))) c.requires.small (csexpr_address 0)
      (csexpr_const ints.Int (pos 7)),
)

pub returns : goal.returns
returns c = goes_on c.requires c.store.ensures.is_for
