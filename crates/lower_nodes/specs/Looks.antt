-- The checks of a node, with what they look at.
use Rattle.std.specs.Prelude.{List, [], ◌∷◌, Option, None}
use Rattle.c_syntax_written.specs.declared.place.Pos.{Pos}
use Rattle.c_syntax.specs.declared.alarm.Check.{Check}
use Rattle.c_syntax.specs.declared.alarm.WrongKind.{WrongKind}
use Rattle.block_mem.specs.declared.types.Scalar.{Scalar}
use Rattle.csharp.specs.Trees.{CsExprTree, CsCheckTree, csexpr_tree}
use Rattle.lower_trees.specs.Checking.{cs_check, load_type, number_operands, move_operands}
use Rattle.lower_nodes.specs.declared.looked.Looked.{Looked}
use Rattle.lower_nodes.specs.declared.looked.Looked.TheVariants as looks

abbrev pub operands_of : Looked → WrongKind → List CsExprTree
operands_of (looks.Load ty place) kind = csexpr_tree place.now ∷ []
operands_of (looks.One e) kind = csexpr_tree e.now ∷ []
operands_of (looks.Numbers whole right) kind = number_operands (csexpr_tree whole.now) (csexpr_tree right.now) kind
operands_of (looks.Moved from to) kind = move_operands (csexpr_tree from.now) (csexpr_tree to.now) kind
operands_of (looks.Both left right) kind = csexpr_tree left.now ∷ csexpr_tree right.now ∷ []

abbrev pub type_of : Looked → WrongKind → Option Scalar
type_of (looks.Load ty place) kind = load_type ty kind
type_of looked kind = None

abbrev pub check_at : Pos → Looked → Check → CsCheckTree
check_at at looked c = cs_check at (type_of looked c.kind) (operands_of looked c.kind) c
