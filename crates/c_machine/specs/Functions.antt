-- What calls need of functions.
use Rattle.std.specs.Prelude.{◌≡◌, ℕ, List, map, Option, option_map}
use Rattle.c_syntax.specs.TypedStmt.{TStmtTree}
use Rattle.c_syntax.specs.Program.{TFunctionTree, TProgramTree}
use Rattle.c_machine_trees.specs.Statements.{stmt_tree}
use Rattle.c_machine.specs.declared.functions.Callee as code
use Rattle.c_machine.specs.declared.functions.Functions as tables

-- the objects that are a function's parameters, and its body
pub record CalleeTree : Type 0 where
  pub params : List ℕ
  pub body : TStmtTree

abbrev pub bodied : TFunctionTree → Option CalleeTree
bodied function = option_map (λ body. record { params = function.params; body = body }) function.body

abbrev pub callee_tree : code.Callee → CalleeTree
callee_tree callee = record { params = callee.params.value; body = stmt_tree callee.body.value }

abbrev pub callee_of : Option code.Callee → Option CalleeTree
callee_of callee = option_map callee_tree callee

abbrev pub callees_of : tables.Functions → List (Option CalleeTree)
callees_of table = map callee_of table.items.items

-- the table is that of the program's functions
abbrev pub AreFunctions : tables.Functions → TProgramTree → Type 0
AreFunctions table program = callees_of table ≡ map bodied program.functions
