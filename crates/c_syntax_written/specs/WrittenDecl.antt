-- Declarations as trees without pointers. Each constructor has the fields of the code's variant, in their order.
use Rattle.std.specs.Prelude.{List, [], ◌∷◌, map, Option, option_map}
use Rattle.c_syntax_written.specs.declared.place.Pos.{Pos}
use Rattle.c_syntax_written.specs.declared.declaration.Init.{Init}
use Rattle.c_syntax_written.specs.declared.declaration.Init.TheVariants as inits
use Rattle.c_syntax_written.specs.declared.declaration.Inits.{Inits, Row_of-Init, end_of-Init, more_of-Init}
use Rattle.c_syntax_written.specs.declared.declaration.InitDeclarator.{InitDeclarator}
use Rattle.c_syntax_written.specs.declared.declaration.Decl.{Decl}
use Rattle.c_syntax_written.specs.Written.{ExprTree, expr_tree, DeclaratorTree, declarator_tree, SpecTrees, specs_tree}

mutual
  pub data InitTree : Type 0 where
    Value : ExprTree → InitTree
    Braces : Pos → InitTrees → InitTree

  pub data InitTrees : Type 0 where
    no_inits : InitTrees
    more_inits : InitTree → InitTrees → InitTrees

unfoldable mutual
  pub init_tree : Init → InitTree
  init_tree (inits.Value value) = Value (expr_tree value)
  init_tree (inits.Braces' at items_shape items) = Braces at (init_rows items)

  pub init_rows : {m : _} → Row_of-Init m → InitTrees
  init_rows end_of-Init = no_inits
  init_rows (more_of-Init item rest) = more_inits (init_tree item) (init_rows rest)

unfoldable pub inits_from : List Init → InitTrees
inits_from [] = no_inits
inits_from (item ∷ rest) = more_inits (init_tree item) (inits_from rest)

abbrev pub inits_tree : Inits → InitTrees
inits_tree list = inits_from list.items.items

-- with one more at the end
unfoldable pub inits_then : InitTrees → InitTree → InitTrees
inits_then no_inits last = more_inits last no_inits
inits_then (more_inits item rest) last = more_inits item (inits_then rest last)

pub record InitDeclaratorTree : Type 0 where
  pub declarator : DeclaratorTree
  pub init : Option InitTree

abbrev pub initdeclarator_tree : InitDeclarator → InitDeclaratorTree
initdeclarator_tree item = record { declarator = declarator_tree item.declarator; init = option_map (λ v. init_tree v.value) item.init }

pub record DeclTree : Type 0 where
  pub pos : Pos
  pub specs : SpecTrees
  pub inits : List InitDeclaratorTree

abbrev pub decl_tree : Decl → DeclTree
decl_tree decl = record { pos = decl.pos; specs = specs_tree decl.specs; inits = map initdeclarator_tree decl.inits }
