-- Statements and files as trees without pointers. Each constructor has the fields of the code's variant, in their order.
use Rattle.std.specs.Prelude.{ℕ, List, [], ◌∷◌, map, Option, option_map}
use Rattle.std.specs.declared.alloc.Global.{Global}
use Rattle.std.specs.declared.boxed.Box.{Box}
use Rattle.c_syntax_written.specs.declared.place.Pos.{Pos}
use Rattle.c_syntax_written.specs.declared.written.Expr.{Expr}
use Rattle.c_syntax_written.specs.declared.file.ForStart.{ForStart}
use Rattle.c_syntax_written.specs.declared.file.ForStart.TheVariants as starts
use Rattle.c_syntax_written.specs.declared.file.Stmt.{Stmt}
use Rattle.c_syntax_written.specs.declared.file.Stmt.TheVariants as stmts
use Rattle.c_syntax_written.specs.declared.file.BlockItem.{BlockItem}
use Rattle.c_syntax_written.specs.declared.file.BlockItem.TheVariants as items
use Rattle.c_syntax_written.specs.declared.file.BlockItems.{BlockItems, Row_of-BlockItem, end_of-BlockItem, more_of-BlockItem}
use Rattle.c_syntax_written.specs.declared.file.Outer.{Outer}
use Rattle.c_syntax_written.specs.declared.file.Outer.TheVariants as outers
use Rattle.c_syntax_written.specs.declared.file.File.{File}
use Rattle.c_syntax_written.specs.Written.{ExprTree, expr_tree, DeclaratorTree, declarator_tree, SpecTrees, specs_tree}
use Rattle.c_syntax_written.specs.WrittenDecl.{DeclTree, decl_tree}

-- how a for begins: with nothing, an expression, or a declaration
pub data ForStartTree : Type 0 where
  Nothing : ForStartTree
  Value : ExprTree → ForStartTree
  Declares : DeclTree → ForStartTree

unfoldable pub forstart_tree : ForStart → ForStartTree
forstart_tree starts.Nothing = Nothing
forstart_tree (starts.Value value) = Value (expr_tree value.value)
forstart_tree (starts.Declares decl) = Declares (decl_tree decl.value)

-- the tree of an expression that may be missing
abbrev pub optional_tree : Option (Box Expr Global) → Option ExprTree
optional_tree e = option_map (λ v. expr_tree v.value) e

mutual
  pub data StmtTree : Type 0 where
    Label : Pos → List ℕ → StmtTree → StmtTree
    Case : Pos → ExprTree → StmtTree → StmtTree
    Default : Pos → StmtTree → StmtTree
    Block : Pos → BlockItemTrees → StmtTree
    Empty : Pos → StmtTree
    Expression : Pos → ExprTree → StmtTree
    If : Pos → ExprTree → StmtTree → StmtTree
    IfElse : Pos → ExprTree → StmtTree → StmtTree → StmtTree
    Switch : Pos → ExprTree → StmtTree → StmtTree
    While : Pos → ExprTree → StmtTree → StmtTree
    DoWhile : Pos → StmtTree → ExprTree → StmtTree
    For : Pos → ForStartTree → Option ExprTree → Option ExprTree → StmtTree → StmtTree
    Goto : Pos → List ℕ → StmtTree
    Continue : Pos → StmtTree
    Break : Pos → StmtTree
    Return : Pos → Option ExprTree → StmtTree

  pub data BlockItemTree : Type 0 where
    Declaration : DeclTree → BlockItemTree
    Statement : StmtTree → BlockItemTree

  pub data BlockItemTrees : Type 0 where
    none : BlockItemTrees
    more : BlockItemTree → BlockItemTrees → BlockItemTrees

unfoldable mutual
  pub stmt_tree : Stmt → StmtTree
  stmt_tree (stmts.Label' at name body_box body) = Label at name.value (stmt_tree body)
  stmt_tree (stmts.Case' at value body_box body) = Case at (expr_tree value.value) (stmt_tree body)
  stmt_tree (stmts.Default' at body_box body) = Default at (stmt_tree body)
  stmt_tree (stmts.Block' at items_shape items) = Block at (blockitem_rows items)
  stmt_tree (stmts.Empty at) = Empty at
  stmt_tree (stmts.Expression at value) = Expression at (expr_tree value.value)
  stmt_tree (stmts.If' at condition first_box first) = If at (expr_tree condition.value) (stmt_tree first)
  stmt_tree (stmts.IfElse' at condition first_box first second_box second) = IfElse at (expr_tree condition.value) (stmt_tree first) (stmt_tree second)
  stmt_tree (stmts.Switch' at value body_box body) = Switch at (expr_tree value.value) (stmt_tree body)
  stmt_tree (stmts.While' at condition body_box body) = While at (expr_tree condition.value) (stmt_tree body)
  stmt_tree (stmts.DoWhile' at body_box body condition) = DoWhile at (stmt_tree body) (expr_tree condition.value)
  stmt_tree (stmts.For' at head body_box body) =
      For at (forstart_tree head.value.start) (optional_tree head.value.condition) (optional_tree head.value.step) (stmt_tree body)
  stmt_tree (stmts.Goto at label) = Goto at label
  stmt_tree (stmts.Continue at) = Continue at
  stmt_tree (stmts.Break at) = Break at
  stmt_tree (stmts.Return at value) = Return at (optional_tree value)

  pub blockitem_tree : BlockItem → BlockItemTree
  blockitem_tree (items.Declaration decl) = Declaration (decl_tree decl.value)
  blockitem_tree (items.Statement stmt) = Statement (stmt_tree stmt)

  pub blockitem_rows : {m : _} → Row_of-BlockItem m → BlockItemTrees
  blockitem_rows end_of-BlockItem = none
  blockitem_rows (more_of-BlockItem item rest) = more (blockitem_tree item) (blockitem_rows rest)

unfoldable pub blockitems_from : List BlockItem → BlockItemTrees
blockitems_from [] = none
blockitems_from (item ∷ rest) = more (blockitem_tree item) (blockitems_from rest)

abbrev pub blockitems_tree : BlockItems → BlockItemTrees
blockitems_tree list = blockitems_from list.items.items

-- with one more at the end
unfoldable pub blockitems_then : BlockItemTrees → BlockItemTree → BlockItemTrees
blockitems_then none last = more last none
blockitems_then (more item rest) last = more item (blockitems_then rest last)

-- a declaration of a file, or a function with its body
pub data OuterTree : Type 0 where
  Declared : DeclTree → OuterTree
  Function : Pos → SpecTrees → DeclaratorTree → Pos → BlockItemTrees → OuterTree

unfoldable pub outer_tree : Outer → OuterTree
outer_tree (outers.Declared decl) = Declared (decl_tree decl)
outer_tree (outers.Function at specs declarator brace body) = Function at (specs_tree specs) (declarator_tree declarator.value) brace (blockitems_tree body)

pub record FileTree : Type 0 where
  pub outers : List OuterTree

abbrev pub file_tree : File → FileTree
file_tree file = record { outers = map outer_tree file.outers }
