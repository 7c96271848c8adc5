-- The trees of statements and files, by the constructors that the code has.
use Rattle.std.proofs.Common.{◌≡◌, ℕ, List, [], ◌∷◌, ◌++◌, refl, ap, ◌∙◌}
use Rattle.std.specs.Prelude.{Option}
use Rattle.std.specs.declared.boxed.Box.{Box}
use Rattle.std.specs.declared.alloc.Global.{Global}
use Rattle.c_syntax_written.specs.declared.place.Pos.{Pos}
use Rattle.c_syntax_written.specs.declared.written.Expr.{Expr}
use Rattle.c_syntax_written.specs.declared.written.Specs.{Specs}
use Rattle.c_syntax_written.specs.declared.written.Declarator.{Declarator}
use Rattle.c_syntax_written.specs.declared.declaration.Decl.{Decl}
use Rattle.c_syntax_written.specs.declared.file.ForHead.{ForHead}
use Rattle.c_syntax_written.specs.declared.file.ForStart.TheVariants as starts
use Rattle.c_syntax_written.specs.declared.file.Stmt.{Stmt}
use Rattle.c_syntax_written.specs.declared.file.Stmt.TheVariants as stmts
use Rattle.c_syntax_written.specs.declared.file.BlockItem.{BlockItem}
use Rattle.c_syntax_written.specs.declared.file.BlockItem.TheVariants as items
use Rattle.c_syntax_written.specs.declared.file.BlockItems.{BlockItems, Row_of-BlockItem, end_of-BlockItem, more_of-BlockItem, items-the_row-BlockItem, items_hidden-the_row-BlockItem-0}
use Rattle.c_syntax_written.specs.declared.file.BlockItem.TheBlock.{hidden-the_row-BlockItem-0}
use Rattle.c_syntax_written.specs.declared.file.Outer.TheVariants as outers
use Rattle.c_syntax_written.specs.Written.{expr_tree, specs_tree, declarator_tree}
use Rattle.c_syntax_written.specs.WrittenDecl.{decl_tree}
use Rattle.c_syntax_written.specs.WrittenFile.{BlockItemTrees, forstart_tree, stmt_tree, blockitem_tree, blockitem_rows, optional_tree, blockitems_from, blockitems_tree, blockitems_then, outer_tree}
use Rattle.c_syntax_written.specs.WrittenFile as trees

pub forstart_nothing : forstart_tree starts.Nothing ≡ trees.Nothing
unfolding forstart_tree
forstart_nothing = refl

pub forstart_value : (value : Box Expr Global) → forstart_tree (starts.Value value) ≡ trees.Value (expr_tree value.value)
unfolding forstart_tree
forstart_value value = refl

pub forstart_declares : (decl : Box Decl Global) → forstart_tree (starts.Declares decl) ≡ trees.Declares (decl_tree decl.value)
unfolding forstart_tree
forstart_declares decl = refl

pub outer_declared : (decl : Decl) → outer_tree (outers.Declared decl) ≡ trees.Declared (decl_tree decl)
unfolding outer_tree
outer_declared decl = refl

pub outer_function : (at : Pos) (specs : Specs) (declarator : Box Declarator Global) (brace : Pos) (body : BlockItems) → outer_tree (outers.Function at specs declarator brace body) ≡ trees.Function at (specs_tree specs) (declarator_tree declarator.value) brace (blockitems_tree body)
unfolding outer_tree
outer_function at specs declarator brace body = refl

blockitems_rows : {m : _} (row : Row_of-BlockItem m) → blockitem_rows row ≡ blockitems_from (items-the_row-BlockItem m row)
unfolding blockitem_rows blockitems_from
blockitems_rows end_of-BlockItem = refl
blockitems_rows (more_of-BlockItem item rest) = ap (trees.more (blockitem_tree item)) (blockitems_rows rest)

-- the row of the items
blockitems_row : (list : BlockItems) → blockitem_rows (hidden-the_row-BlockItem-0 list.items) ≡ blockitems_tree list
blockitems_row list = blockitems_rows (hidden-the_row-BlockItem-0 list.items) ∙ ap blockitems_from (items_hidden-the_row-BlockItem-0 list.items)

pub stmt_label : (at : Pos) (name : Box (List ℕ) Global) (body : Box Stmt Global) → stmt_tree (stmts.Label at name body) ≡ trees.Label at name.value (stmt_tree body.value)
unfolding stmt_tree
stmt_label at name body = refl

pub stmt_case : (at : Pos) (value : Box Expr Global) (body : Box Stmt Global) → stmt_tree (stmts.Case at value body) ≡ trees.Case at (expr_tree value.value) (stmt_tree body.value)
unfolding stmt_tree
stmt_case at value body = refl

pub stmt_default : (at : Pos) (body : Box Stmt Global) → stmt_tree (stmts.Default at body) ≡ trees.Default at (stmt_tree body.value)
unfolding stmt_tree
stmt_default at body = refl

pub stmt_block : (at : Pos) (items : BlockItems) → stmt_tree (stmts.Block at items) ≡ trees.Block at (blockitems_tree items)
unfolding stmt_tree
stmt_block at items = ap (trees.Block at) (blockitems_row items)

pub stmt_empty : (at : Pos) → stmt_tree (stmts.Empty at) ≡ trees.Empty at
unfolding stmt_tree
stmt_empty at = refl

pub stmt_expression : (at : Pos) (value : Box Expr Global) → stmt_tree (stmts.Expression at value) ≡ trees.Expression at (expr_tree value.value)
unfolding stmt_tree
stmt_expression at value = refl

pub stmt_if : (at : Pos) (condition : Box Expr Global) (first : Box Stmt Global) → stmt_tree (stmts.If at condition first) ≡ trees.If at (expr_tree condition.value) (stmt_tree first.value)
unfolding stmt_tree
stmt_if at condition first = refl

pub stmt_if_else : (at : Pos) (condition : Box Expr Global) (first : Box Stmt Global) (second : Box Stmt Global) → stmt_tree (stmts.IfElse at condition first second) ≡ trees.IfElse at (expr_tree condition.value) (stmt_tree first.value) (stmt_tree second.value)
unfolding stmt_tree
stmt_if_else at condition first second = refl

pub stmt_switch : (at : Pos) (value : Box Expr Global) (body : Box Stmt Global) → stmt_tree (stmts.Switch at value body) ≡ trees.Switch at (expr_tree value.value) (stmt_tree body.value)
unfolding stmt_tree
stmt_switch at value body = refl

pub stmt_while : (at : Pos) (condition : Box Expr Global) (body : Box Stmt Global) → stmt_tree (stmts.While at condition body) ≡ trees.While at (expr_tree condition.value) (stmt_tree body.value)
unfolding stmt_tree
stmt_while at condition body = refl

pub stmt_do_while : (at : Pos) (body : Box Stmt Global) (condition : Box Expr Global) → stmt_tree (stmts.DoWhile at body condition) ≡ trees.DoWhile at (stmt_tree body.value) (expr_tree condition.value)
unfolding stmt_tree
stmt_do_while at body condition = refl

pub stmt_for : (at : Pos) (head : Box ForHead Global) (body : Box Stmt Global) → stmt_tree (stmts.For at head body) ≡ trees.For at (forstart_tree head.value.start) (optional_tree head.value.condition) (optional_tree head.value.step) (stmt_tree body.value)
unfolding stmt_tree
stmt_for at head body = refl

pub stmt_goto : (at : Pos) (label : List ℕ) → stmt_tree (stmts.Goto at label) ≡ trees.Goto at label
unfolding stmt_tree
stmt_goto at label = refl

pub stmt_continue : (at : Pos) → stmt_tree (stmts.Continue at) ≡ trees.Continue at
unfolding stmt_tree
stmt_continue at = refl

pub stmt_break : (at : Pos) → stmt_tree (stmts.Break at) ≡ trees.Break at
unfolding stmt_tree
stmt_break at = refl

pub stmt_return : (at : Pos) (value : Option (Box Expr Global)) → stmt_tree (stmts.Return at value) ≡ trees.Return at (optional_tree value)
unfolding stmt_tree
stmt_return at value = refl

pub blockitem_declaration : (decl : Box Decl Global) → blockitem_tree (items.Declaration decl) ≡ trees.Declaration (decl_tree decl.value)
unfolding blockitem_tree
blockitem_declaration decl = refl

pub blockitem_statement : (stmt : Stmt) → blockitem_tree (items.Statement stmt) ≡ trees.Statement (stmt_tree stmt)
unfolding blockitem_tree
blockitem_statement stmt = refl

pub blockitems_nil : blockitems_from [] ≡ trees.none
unfolding blockitems_from
blockitems_nil = refl

pub blockitems_cons : (item : BlockItem) (rest : List BlockItem) → blockitems_from (item ∷ rest) ≡ trees.more (blockitem_tree item) (blockitems_from rest)
unfolding blockitems_from
blockitems_cons item rest = refl

pub blockitems_push : (items : List BlockItem) (last : BlockItem) → blockitems_from (items ++ last ∷ []) ≡ blockitems_then (blockitems_from items) (blockitem_tree last)
unfolding blockitems_from blockitems_then
blockitems_push [] last = refl
blockitems_push (item ∷ items) last = ap (trees.more (blockitem_tree item)) (blockitems_push items last)

pub ruleset written_file_trees = (forstart_nothing, forstart_value, forstart_declares, outer_declared, outer_function, stmt_label, stmt_case, stmt_default, stmt_block, stmt_empty, stmt_expression, stmt_if, stmt_if_else, stmt_switch, stmt_while, stmt_do_while, stmt_for, stmt_goto, stmt_continue, stmt_break, stmt_return, blockitem_declaration, blockitem_statement, blockitems_nil, blockitems_cons, blockitems_push)
