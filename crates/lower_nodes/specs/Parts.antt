-- What the lowering's code builds, as its definition speaks of it.
use Rattle.std.specs.Prelude.{ℕ, max, List, [], ◌∷◌, ◌++◌, Option, map}
use Rattle.c_syntax_written.specs.declared.place.Pos.{Pos}
use Rattle.block_mem.specs.declared.types.Scalar.{Scalar}
use Rattle.csharp.specs.Trees.{CsExprTree, CsStmtTree, Nothing, Sequence, If, Exit, csexpr_tree, csstmt_tree}
use Rattle.lower_trees.specs.LowerExpr.{Lowered, Args, Forms, unless_value, when_value}
use Rattle.lower_trees.specs.LowerStmt as statements
use Rattle.lower_nodes.specs.declared.steps.Leave.{Leave}
use Rattle.lower_nodes.specs.declared.steps.Leave.TheVariants as leaves
use Rattle.lower_nodes.specs.declared.part.Part.{Part}
use Rattle.lower_nodes.specs.declared.part.Arguments.{Arguments}
use Rattle.lower_nodes.specs.declared.part.Coded.{Coded}
use Rattle.lower_nodes.specs.declared.gathered.Gathered.{Gathered}

-- an exit that is taken by what a condition is
abbrev pub leaving : Leave → CsExprTree → ℕ → CsStmtTree
leaving leaves.IfFalse condition k = If condition Nothing (Exit k)
leaving leaves.IfTrue condition k = If condition (Exit k) Nothing

abbrev pub opposite : Leave → Leave
opposite leaves.IfFalse = leaves.IfTrue
opposite leaves.IfTrue = leaves.IfFalse

abbrev pub part_tree : Part → Lowered
part_tree part = record { before = csstmt_tree part.before; value = csexpr_tree part.value; next = part.next; top = part.top }

abbrev pub arguments_tree : Arguments → Args
arguments_tree args = record { before = csstmt_tree args.before; values = map csexpr_tree args.values; next = args.next; top = args.top }

abbrev pub coded_tree : Coded → statements.Coded
coded_tree coded = record { code = csstmt_tree coded.code; top = coded.top }

-- a value as a test that leaves this way
abbrev pub value_test : Leave → Option Scalar → Lowered → Pos → ℕ → CsStmtTree
value_test leaves.IfFalse ty a at k = unless_value ty a at k
value_test leaves.IfTrue ty a at k = when_value ty a at k

-- an expression as a test that leaves this way
abbrev pub test_of : Leave → Forms → Pos → ℕ → CsStmtTree
test_of leaves.IfFalse forms at k = forms.unless at k
test_of leaves.IfTrue forms at k = forms.when at k

-- ---- arguments
-- statements, one behind the other, in front of another
abbrev pub in_sequence : List CsStmtTree → CsStmtTree → CsStmtTree
in_sequence [] last = last
in_sequence (a ∷ rest) last = Sequence a (in_sequence rest last)

-- what was gathered, in front of other arguments
abbrev pub with_rest : Gathered → Args → Args
with_rest gathered rest = record {
  before = in_sequence (map csstmt_tree gathered.befores.items) rest.before;
  values = map csexpr_tree gathered.values.items ++ rest.values;
  next = rest.next;
  top = max gathered.top rest.top;
}

-- an argument in front of others
abbrev pub args_more : Lowered → Args → Args
args_more a rest = record { before = Sequence a.before rest.before; values = a.value ∷ rest.values; next = rest.next; top = max a.top rest.top }

abbrev pub no_args : ℕ → Args
no_args d = record { before = Nothing; values = []; next = d; top = d }
