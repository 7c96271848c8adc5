-- The bytes of an object that the items of an initialiser name, and items in front of others.
use Rattle.std.specs.Prelude.{◌≡◌, ◌<◌, ℕ, Bool, false, List, length, slice_index_or}
use Rattle.c_syntax.specs.TypedStmt.{TInitTree}
use Rattle.c_objects.specs.Writing.{is_named}
use Rattle.csharp.specs.Trees.{CsStmtTrees, none, more}

-- each byte has a mark that tells whether it is named
abbrev pub AreMarked : List TInitTree → List Bool → Type 0
AreMarked inits marks = (k : ℕ) → k < length marks → slice_index_or marks k false ≡ is_named inits k

-- items in front of others
abbrev pub joined : CsStmtTrees → CsStmtTrees → CsStmtTrees
joined none rest = rest
joined (more item items) rest = more item (joined items rest)
