-- What productions ask of, and make from, the trees of their parts.
use Rattle.std.specs.Prelude.{ℕ, Bool, true, false, ◌||◌, if◌then◌else◌, List, [], ◌∷◌, Option, Some, None}
use Rattle.c_syntax_written.specs.declared.place.Pos.{Pos}
use Rattle.c_syntax_written.specs.declared.written.StorageWord.TheVariants as storages
use Rattle.c_syntax_written.specs.declared.written.TypeWord.TheVariants as type_words
use Rattle.c_syntax_written.specs.Written.{ExprTree, Comma, Binary, SpecTree, Storage, Const, Basic, TypedefName, Struct, StructBody, Enum, EnumBody, SpecTrees, no_specs, more_specs, DeclaratorTree, Absent, Name, Grouped, Pointer, Array, OpenArray, Function, VoidFunction, ParamTree, Named, Abstract, ParamTrees, no_params, more_params}
use Rattle.c_syntax_written.specs.Written.{ExprTree, Word}
use Rattle.c_syntax_written.specs.WrittenParts.{spec_pos}
use Rattle.c_syntax_written.specs.WrittenDecl.{InitDeclaratorTree}
use Rattle.c_syntax_written.specs.WrittenFile as files
use Rattle.c_syntax_written.specs.WrittenFile.{StmtTree, OuterTree}
use Rattle.c_grammar.specs.declared.parts.Joint.{Joint}
use Rattle.c_grammar.specs.declared.parts.Joint.TheVariants.{Comma as comma, Binary as binary}

abbrev pub joined : Joint → Pos → ExprTree → ExprTree → ExprTree
joined comma at left right = Comma at left right
joined (binary op) at left right = Binary at op left right

-- a word alone
abbrev pub is_word : ExprTree → Bool
is_word (Word at name) = true
is_word _ = false

-- the spec tells a type
abbrev pub is_type : SpecTree → Bool
is_type (Storage at word) = false
is_type (Const at) = false
is_type (Basic at word) = true
is_type (TypedefName at name) = true
is_type (Struct at tag) = true
is_type (StructBody at tag _) = true
is_type (Enum at tag) = true
is_type (EnumBody at tag _) = true

unfoldable pub has_type : SpecTrees → Bool
has_type no_specs = false
has_type (more_specs spec rest) = is_type spec || has_type rest

abbrev pub is_typedef : SpecTree → Bool
is_typedef (Storage at storages.Typedef) = true
is_typedef _ = false

unfoldable pub has_typedef : SpecTrees → Bool
has_typedef no_specs = false
has_typedef (more_specs spec rest) = is_typedef spec || has_typedef rest

-- the place of the first spec; there is one
abbrev pub specs_pos : SpecTrees → Pos
specs_pos no_specs = record { file = 0; line = 0; col = 0 }
specs_pos (more_specs spec rest) = spec_pos spec

-- the declarator has a token
abbrev pub is_given : DeclaratorTree → Bool
is_given Absent = false
is_given _ = true

-- the word that a declarator declares
unfoldable pub declared_word : DeclaratorTree → Option (List ℕ)
declared_word Absent = None
declared_word (Name at name) = Some name
declared_word (Grouped at inner) = declared_word inner
declared_word (Pointer at is_const inner) = declared_word inner
declared_word (Array at inner size) = declared_word inner
declared_word (OpenArray at inner) = declared_word inner
declared_word (Function at inner _) = declared_word inner
declared_word (VoidFunction at inner) = declared_word inner

abbrev pub param_with : SpecTrees → DeclaratorTree → Option (List ℕ) → ParamTree
param_with specs declarator (Some name) = Named (specs_pos specs) specs declarator
param_with specs declarator None = Abstract (specs_pos specs) specs declarator

-- a parameter, named or not
abbrev pub param_of : SpecTrees → DeclaratorTree → ParamTree
param_of specs declarator = param_with specs declarator (declared_word declarator)

-- `void` alone
abbrev pub is_bare_void : ParamTree → Bool
is_bare_void (Abstract at (more_specs (Basic place type_words.Void) no_specs) Absent) = true
is_bare_void _ = false

-- these parameters behind a declarator; `void` alone stands for none (C11 6.7.6.3)
abbrev pub function_of : Pos → DeclaratorTree → ParamTrees → DeclaratorTree
function_of at inner (more_params param no_params) = if is_bare_void param then VoidFunction at inner else Function at inner (more_params param no_params)
function_of at inner params = Function at inner params

-- an if without else ends the statement, so that an else behind it would be that if's (C11 6.8.4.1)
unfoldable pub ends_open : StmtTree → Bool
ends_open (files.Label at name body) = ends_open body
ends_open (files.Case at value body) = ends_open body
ends_open (files.Default at body) = ends_open body
ends_open (files.Block at items) = false
ends_open (files.Empty at) = false
ends_open (files.Expression at value) = false
ends_open (files.If at condition first) = true
ends_open (files.IfElse at condition first second) = ends_open second
ends_open (files.Switch at value body) = ends_open body
ends_open (files.While at condition body) = ends_open body
ends_open (files.DoWhile at body condition) = false
ends_open (files.For at start condition step body) = ends_open body
ends_open (files.Goto at label) = false
ends_open (files.Continue at) = false
ends_open (files.Break at) = false
ends_open (files.Return at value) = false

abbrev pub with_word : Option (List ℕ) → List (List ℕ) → List (List ℕ)
with_word (Some name) names = name ∷ names
with_word None names = names

unfoldable pub declared_words : List InitDeclaratorTree → List (List ℕ)
declared_words [] = []
declared_words (item ∷ rest) = with_word (declared_word item.declarator) (declared_words rest)

-- the typedef names that a declaration of the file adds
abbrev pub new_types : OuterTree → List (List ℕ)
new_types (files.Declared decl) = if has_typedef decl.specs then declared_words decl.inits else []
new_types (files.Function at specs declarator brace body) = []
