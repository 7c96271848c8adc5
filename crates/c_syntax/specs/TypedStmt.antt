-- Typed statements as trees without pointers. Each constructor has the fields of the code's variant, in their order.
use Rattle.std.specs.Prelude.{ℕ, ℤ, Bool, List, [], ◌∷◌, map, Option, option_map}
use Rattle.c_syntax_written.specs.declared.place.Pos.{Pos}
use Rattle.c_syntax.specs.declared.operator.Extent.{Extent}
use Rattle.c_syntax.specs.declared.statement.BlockKind.{BlockKind}
use Rattle.c_syntax.specs.declared.statement.TInit.{TInit}
use Rattle.c_syntax.specs.declared.statement.TInit.TheVariants as inits
use Rattle.c_syntax.specs.declared.statement.TStmt.{TStmt, Row_of-TStmt, end_of-TStmt, more_of-TStmt}
use Rattle.c_syntax.specs.declared.statement.TStmt.TheVariants as stmts
use Rattle.c_syntax.specs.declared.statement.TStmts.{TStmts}
use Rattle.c_syntax.specs.Types.{CTypeTree, ctype_tree}
use Rattle.c_syntax.specs.TypedExpr.{TExprTree, texpr_tree}

-- an item of an initialiser: a scalar that is stored, or a struct that is copied, at an offset of the object
pub data TInitTree : Type 0 where
  Store : ℕ → CTypeTree → TExprTree → TInitTree
  Copy : ℕ → Extent → TExprTree → TInitTree

unfoldable pub tinit_tree : TInit → TInitTree
tinit_tree (inits.Store offset ty value) = Store offset (ctype_tree ty) (texpr_tree value)
tinit_tree (inits.Copy offset extent source) = Copy offset extent (texpr_tree source)

mutual
  pub data TStmtTree : Type 0 where
    Empty : Pos → TStmtTree
    Expr : Pos → TExprTree → TStmtTree
    Block : Pos → BlockKind → List ℕ → TStmtTrees → TStmtTree
    Declare : Pos → ℕ → List TInitTree → Bool → TStmtTree
    Static : Pos → ℕ → TStmtTree
    If : Pos → TExprTree → TStmtTree → TStmtTree → TStmtTree
    While : Pos → TExprTree → TStmtTree → TStmtTree
    DoWhile : Pos → TStmtTree → TExprTree → TStmtTree
    For : Pos → List ℕ → TStmtTrees → Option TExprTree → Option TExprTree → TStmtTree → TStmtTree
    Switch : Pos → TExprTree → BlockKind → List ℕ → TStmtTrees → TStmtTree
    Break : Pos → TStmtTree
    Continue : Pos → TStmtTree
    Goto : Pos → ℕ → TStmtTree
    Return : Pos → Option TExprTree → TStmtTree
    Label : Pos → ℕ → TStmtTree
    Case : Pos → ℤ → TStmtTree
    Default : Pos → TStmtTree

  pub data TStmtTrees : Type 0 where
    none : TStmtTrees
    more : TStmtTree → TStmtTrees → TStmtTrees

unfoldable mutual
  pub tstmt_tree : TStmt → TStmtTree
  tstmt_tree (stmts.Empty at) = Empty at
  tstmt_tree (stmts.Expr at value) = Expr at (texpr_tree value)
  tstmt_tree (stmts.Block' at kind objects items_shape items) = Block at kind objects (tstmt_rows items)
  tstmt_tree (stmts.Declare at object inits zeroes_rest) = Declare at object (map tinit_tree inits) zeroes_rest
  tstmt_tree (stmts.Static at object) = Static at object
  tstmt_tree (stmts.If' at condition first_box first second_box second) = If at (texpr_tree condition) (tstmt_tree first) (tstmt_tree second)
  tstmt_tree (stmts.While' at condition body_box body) = While at (texpr_tree condition) (tstmt_tree body)
  tstmt_tree (stmts.DoWhile' at body_box body condition) = DoWhile at (tstmt_tree body) (texpr_tree condition)
  tstmt_tree (stmts.For' at objects head_shape head condition step body_box body) =
      For at objects (tstmt_rows head) (option_map texpr_tree condition) (option_map texpr_tree step) (tstmt_tree body)
  tstmt_tree (stmts.Switch' at value kind objects items_shape items) = Switch at (texpr_tree value) kind objects (tstmt_rows items)
  tstmt_tree (stmts.Break at) = Break at
  tstmt_tree (stmts.Continue at) = Continue at
  tstmt_tree (stmts.Goto at label) = Goto at label
  tstmt_tree (stmts.Return at value) = Return at (option_map texpr_tree value)
  tstmt_tree (stmts.Label at label) = Label at label
  tstmt_tree (stmts.Case at value) = Case at value
  tstmt_tree (stmts.Default at) = Default at

  pub tstmt_rows : {m : _} → Row_of-TStmt m → TStmtTrees
  tstmt_rows end_of-TStmt = none
  tstmt_rows (more_of-TStmt item rest) = more (tstmt_tree item) (tstmt_rows rest)

unfoldable pub tstmts_from : List TStmt → TStmtTrees
tstmts_from [] = none
tstmts_from (item ∷ rest) = more (tstmt_tree item) (tstmts_from rest)

abbrev pub tstmts_tree : TStmts → TStmtTrees
tstmts_tree list = tstmts_from list.items.items

-- with one more at the end
unfoldable pub tstmts_then : TStmtTrees → TStmtTree → TStmtTrees
tstmts_then none last = more last none
tstmts_then (more item rest) last = more item (tstmts_then rest last)
