-- The trees of initialisers, by the constructors that the code has.
use Rattle.std.proofs.Common.{◌≡◌, List, [], ◌∷◌, ◌++◌, refl, ap, ◌∙◌}
use Rattle.c_syntax_written.specs.declared.place.Pos.{Pos}
use Rattle.c_syntax_written.specs.declared.written.Expr.{Expr}
use Rattle.c_syntax_written.specs.declared.declaration.Init.{Init}
use Rattle.c_syntax_written.specs.declared.declaration.Init.TheVariants as inits
use Rattle.c_syntax_written.specs.declared.declaration.Init.TheBlock.{hidden-the_row-Init-0}
use Rattle.c_syntax_written.specs.declared.declaration.Inits.{Inits, Row_of-Init, end_of-Init, more_of-Init, items-the_row-Init, items_hidden-the_row-Init-0}
use Rattle.c_syntax_written.specs.Written.{expr_tree}
use Rattle.c_syntax_written.specs.WrittenDecl.{InitTrees, init_tree, init_rows, inits_from, inits_tree, inits_then}
use Rattle.c_syntax_written.specs.WrittenDecl as trees

inits_rows : {m : _} (row : Row_of-Init m) → init_rows row ≡ inits_from (items-the_row-Init m row)
unfolding init_rows inits_from
inits_rows end_of-Init = refl
inits_rows (more_of-Init item rest) = ap (trees.more_inits (init_tree item)) (inits_rows rest)

-- the row of the items
inits_row : (list : Inits) → init_rows (hidden-the_row-Init-0 list.items) ≡ inits_tree list
inits_row list = inits_rows (hidden-the_row-Init-0 list.items) ∙ ap inits_from (items_hidden-the_row-Init-0 list.items)

pub init_value : (value : Expr) → init_tree (inits.Value value) ≡ trees.Value (expr_tree value)
unfolding init_tree
init_value value = refl

pub init_braces : (at : Pos) (items : Inits) → init_tree (inits.Braces at items) ≡ trees.Braces at (inits_tree items)
unfolding init_tree
init_braces at items = ap (trees.Braces at) (inits_row items)

pub inits_nil : inits_from [] ≡ trees.no_inits
unfolding inits_from
inits_nil = refl

pub inits_cons : (item : Init) (rest : List Init) → inits_from (item ∷ rest) ≡ trees.more_inits (init_tree item) (inits_from rest)
unfolding inits_from
inits_cons item rest = refl

pub inits_push : (items : List Init) (last : Init) → inits_from (items ++ last ∷ []) ≡ inits_then (inits_from items) (init_tree last)
unfolding inits_from inits_then
inits_push [] last = refl
inits_push (item ∷ items) last = ap (trees.more_inits (init_tree item)) (inits_push items last)

pub ruleset written_decl_trees = (init_value, init_braces, inits_nil, inits_cons, inits_push)
