-- What stands round a part of a file, and what the text of the file tells beforehand.
use Rattle.std.specs.Prelude.{ℕ, Bool, true, false, not, ◌&&◌, ◌||◌, if◌then◌else◌, is_some, Option, Some, None, List, [], ◌∷◌, ◌++◌, find, flat_map, bytes_eq}
use Rattle.c_syntax_written.specs.declared.int_type.IntType.{IntType}
use Rattle.c_syntax_written.specs.declared.written.StorageWord.{StorageWord}
use Rattle.c_syntax_written.specs.declared.written.StorageWord.TheVariants.{Typedef, Extern, Static, Auto, Register}
use Rattle.c_syntax_written.specs.Written as written
use Rattle.c_syntax_written.specs.Written.{SpecTrees, DeclaratorTree}
use Rattle.c_syntax_written.specs.WrittenDecl.{InitDeclaratorTree}
use Rattle.c_syntax_written.specs.WrittenFile.{StmtTree, BlockItemTree, BlockItemTrees, OuterTree, Declared, FileTree}
use Rattle.c_syntax_written.specs.WrittenFile as files
use Rattle.c_syntax.specs.Types.{CTypeTree, Void}

-- the names of the objects and the functions that the file defines, the labels of the function in the order of the text and its result;
-- whether a declaration stands in a block; and whether a statement may be a break, a continue, or a case of a switch of this type
pub record Context : Type 0 where
  pub objects : List (List ℕ)
  pub functions : List (List ℕ)
  pub labels : List (List ℕ)
  pub result : CTypeTree
  pub in_block : Bool
  pub breaks : Bool
  pub continues : Bool
  pub switch : Option IntType

abbrev pub has_name : List (List ℕ) → List ℕ → Bool
has_name names name = is_some (find (λ n. bytes_eq n name) names)

-- ---- names that declarators have

unfoldable pub name_in : DeclaratorTree → Option (List ℕ)
name_in written.Absent = None
name_in (written.Name at name) = Some name
name_in (written.Grouped at inner) = name_in inner
name_in (written.Pointer at is_const inner) = name_in inner
name_in (written.Array at inner size) = name_in inner
name_in (written.OpenArray at inner) = name_in inner
name_in (written.Function at inner _) = name_in inner
name_in (written.VoidFunction at inner) = name_in inner

-- a name with nothing round it but parentheses
unfoldable pub is_plain_name : DeclaratorTree → Bool
is_plain_name (written.Name at name) = true
is_plain_name (written.Grouped at inner) = is_plain_name inner
is_plain_name declarator = false

-- whether the first thing that a declarator says of its name is that it is a function (C11 6.7.6.3)
unfoldable pub is_function_declarator : DeclaratorTree → Bool
is_function_declarator written.Absent = false
is_function_declarator (written.Name at name) = false
is_function_declarator (written.Grouped at inner) = is_function_declarator inner
is_function_declarator (written.Pointer at is_const inner) = is_function_declarator inner
is_function_declarator (written.Array at inner size) = is_function_declarator inner
is_function_declarator (written.OpenArray at inner) = is_function_declarator inner
is_function_declarator (written.Function at inner _) = is_plain_name inner || is_function_declarator inner
is_function_declarator (written.VoidFunction at inner) = is_plain_name inner || is_function_declarator inner

abbrev pub to_names : Option (List ℕ) → List (List ℕ)
to_names None = []
to_names (Some name) = name ∷ []

-- ---- what a file defines

abbrev pub is_storage : StorageWord → StorageWord → Bool
is_storage Typedef Typedef = true
is_storage Extern Extern = true
is_storage Static Static = true
is_storage Auto Auto = true
is_storage Register Register = true
is_storage a b = false

unfoldable pub has_storage : StorageWord → SpecTrees → Bool
has_storage word written.no_specs = false
has_storage word (written.more_specs (written.Storage at w) rest) = is_storage word w || has_storage word rest
has_storage word (written.more_specs spec rest) = has_storage word rest

-- a declarator of the file that defines an object: no typedef and no function, and not `extern` without an initialiser (C11 6.9.2p1 and p2)
abbrev pub objects_by : SpecTrees → InitDeclaratorTree → List (List ℕ)
objects_by specs item =
    if has_storage Typedef specs || (is_function_declarator item.declarator || (has_storage Extern specs && not (is_some item.init))) then []
    else to_names (name_in item.declarator)

abbrev pub objects_defined_by : OuterTree → List (List ℕ)
objects_defined_by (Declared decl) = flat_map (objects_by decl.specs) decl.inits
objects_defined_by (files.Function at specs declarator brace body) = []

abbrev pub functions_defined_by : OuterTree → List (List ℕ)
functions_defined_by (Declared decl) = []
functions_defined_by (files.Function at specs declarator brace body) = to_names (name_in declarator)

-- outside of all functions
abbrev pub file_context : FileTree → Context
file_context file = record {
  objects = flat_map objects_defined_by file.outers;
  functions = flat_map functions_defined_by file.outers;
  labels = [];
  result = Void;
  in_block = false;
  breaks = false;
  continues = false;
  switch = None;
}

-- ---- the labels of a function, in the order of the text (C11 6.8.1)

unfoldable mutual
  pub written_labels : StmtTree → List (List ℕ)
  written_labels (files.Label at name body) = name ∷ written_labels body
  written_labels (files.Case at value body) = written_labels body
  written_labels (files.Default at body) = written_labels body
  written_labels (files.Block at items) = written_labels_in items
  written_labels (files.If at condition first) = written_labels first
  written_labels (files.IfElse at condition first second) = written_labels first ++ written_labels second
  written_labels (files.Switch at value body) = written_labels body
  written_labels (files.While at condition body) = written_labels body
  written_labels (files.DoWhile at body condition) = written_labels body
  written_labels (files.For at start condition step body) = written_labels body
  written_labels s = []

  pub written_labels_in : BlockItemTrees → List (List ℕ)
  written_labels_in files.none = []
  written_labels_in (files.more (files.Declaration decl) rest) = written_labels_in rest
  written_labels_in (files.more (files.Statement s) rest) = written_labels s ++ written_labels_in rest

-- ---- where a statement stands

-- the body of a function with this result
abbrev pub in_function : CTypeTree → BlockItemTrees → Context → Context
in_function result body around = record around { labels = written_labels_in body; result = result; in_block = true }

-- an item of a block, or a substatement that is none of a switch
abbrev pub inside_block : Context → Context
inside_block around = record around { switch = None }

abbrev pub inside_loop : Context → Context
inside_loop around = record around { breaks = true; continues = true; switch = None }

abbrev pub inside_switch : IntType → Context → Context
inside_switch t around = record around { breaks = true; switch = Some t }
