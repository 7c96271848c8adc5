-- The places of the nodes of what is written that are evaluated, and of the statements that test, in the order of the text.
use Rattle.std.specs.Prelude.{List, [], ◌∷◌, ◌++◌, Option, Some, None}
use Rattle.c_syntax_written.specs.declared.place.Pos.{Pos}
use Rattle.c_syntax_written.specs.Written as written
use Rattle.c_syntax_written.specs.Written.{ExprTree, ExprTrees}
use Rattle.c_syntax_written.specs.WrittenDecl as inits
use Rattle.c_syntax_written.specs.WrittenDecl.{InitTree, InitTrees, InitDeclaratorTree, DeclTree}
use Rattle.c_syntax_written.specs.WrittenFile as files
use Rattle.c_syntax_written.specs.WrittenFile.{ForStartTree, StmtTree, BlockItemTree, BlockItemTrees, OuterTree, FileTree}

unfoldable mutual
  pub expr_places : ExprTree → List Pos
  expr_places (written.Word at name) = at ∷ []
  expr_places (written.Number at constant) = at ∷ []
  expr_places (written.Character at byte) = at ∷ []
  expr_places (written.Strings at bytes) = at ∷ []
  expr_places (written.Enclosed at inner) = expr_places inner
  expr_places (written.Index at base index) = expr_places base ++ at ∷ expr_places index
  expr_places (written.Call at name args) = at ∷ exprs_places args
  expr_places (written.Dot at base member) = expr_places base ++ at ∷ []
  expr_places (written.Arrow at base member) = expr_places base ++ at ∷ []
  expr_places (written.PostStep at way operand) = expr_places operand ++ at ∷ []
  expr_places (written.PreStep at way operand) = at ∷ expr_places operand
  expr_places (written.Unary at op operand) = at ∷ expr_places operand
  expr_places (written.SizeofExpr at operand) = at ∷ []
  expr_places (written.SizeofType at specs declarator) = at ∷ []
  expr_places (written.Cast at specs declarator operand) = at ∷ expr_places operand
  expr_places (written.Binary at op left right) = expr_places left ++ at ∷ expr_places right
  expr_places (written.Cond at condition first second) = expr_places condition ++ (at ∷ expr_places first ++ expr_places second)
  expr_places (written.Assign at left right) = expr_places left ++ at ∷ expr_places right
  expr_places (written.Compound at op left right) = expr_places left ++ at ∷ expr_places right
  expr_places (written.Comma at left right) = expr_places left ++ at ∷ expr_places right

  pub exprs_places : ExprTrees → List Pos
  exprs_places written.no_exprs = []
  exprs_places (written.more_exprs item rest) = expr_places item ++ exprs_places rest

-- those of an expression that may be missing
abbrev pub places_if_there : Option ExprTree → List Pos
places_if_there None = []
places_if_there (Some e) = expr_places e

unfoldable mutual
  pub init_places : InitTree → List Pos
  init_places (inits.Value value) = expr_places value
  init_places (inits.Braces at items) = inits_places items

  pub inits_places : InitTrees → List Pos
  inits_places inits.no_inits = []
  inits_places (inits.more_inits item rest) = init_places item ++ inits_places rest

abbrev pub given_places : Option InitTree → List Pos
given_places None = []
given_places (Some init) = init_places init

-- those of the initialisers of declarators
unfoldable pub declarators_places : List InitDeclaratorTree → List Pos
declarators_places [] = []
declarators_places (item ∷ rest) = given_places item.init ++ declarators_places rest

abbrev pub decl_places : DeclTree → List Pos
decl_places decl = declarators_places decl.inits

abbrev pub start_places : ForStartTree → List Pos
start_places files.Nothing = []
start_places (files.Value value) = expr_places value
start_places (files.Declares decl) = decl_places decl

unfoldable mutual
  pub stmt_places : StmtTree → List Pos
  stmt_places (files.Label at name body) = stmt_places body
  stmt_places (files.Case at value body) = stmt_places body
  stmt_places (files.Default at body) = stmt_places body
  stmt_places (files.Block at items) = items_places items
  stmt_places (files.Empty at) = []
  stmt_places (files.Expression at value) = expr_places value
  stmt_places (files.If at condition first) = at ∷ expr_places condition ++ stmt_places first
  stmt_places (files.IfElse at condition first second) = at ∷ expr_places condition ++ stmt_places first ++ stmt_places second
  stmt_places (files.Switch at value body) = at ∷ expr_places value ++ stmt_places body
  stmt_places (files.While at condition body) = at ∷ expr_places condition ++ stmt_places body
  stmt_places (files.DoWhile at body condition) = at ∷ stmt_places body ++ expr_places condition
  stmt_places (files.For at start condition step body) =
      at ∷ start_places start ++ places_if_there condition ++ places_if_there step ++ stmt_places body
  stmt_places (files.Goto at label) = []
  stmt_places (files.Continue at) = []
  stmt_places (files.Break at) = []
  stmt_places (files.Return at value) = places_if_there value

  pub item_places : BlockItemTree → List Pos
  item_places (files.Declaration decl) = decl_places decl
  item_places (files.Statement stmt) = stmt_places stmt

  pub items_places : BlockItemTrees → List Pos
  items_places files.none = []
  items_places (files.more item rest) = item_places item ++ items_places rest

-- those of a declaration of the file, or of the body of a function
abbrev pub outer_places : OuterTree → List Pos
outer_places (files.Declared decl) = decl_places decl
outer_places (files.Function at specs declarator brace body) = items_places body

unfoldable pub outers_places : List OuterTree → List Pos
outers_places [] = []
outers_places (outer ∷ rest) = outer_places outer ++ outers_places rest

abbrev pub file_places : FileTree → List Pos
file_places file = outers_places file.outers
