-- Objects and functions of the file by their names, which may be declared again.
use Rattle.std.specs.Prelude.{Bool, true, ◌&&◌, if◌then◌else◌, Option, Some, None}
use Rattle.c_syntax_written.specs.declared.place.Pos.{Pos}
use Rattle.c_syntax.specs.Types.{ctype_tree}
use Rattle.c_typing.specs.World as worlds
use Rattle.c_typing.specs.World.{Binding, Linked, Meaning}
use Rattle.c_typing.specs.Decls.{is_same_entity}
use Rattle.c_check_decls.specs.declared.changes.Change.{Change}
use Rattle.c_check_decls.specs.declared.changes.Change.TheVariants as changes

-- an entity, as it is from here on
abbrev pub changed : Change → Linked → Linked
changed changes.Defined l = record l { defined = true }
changed (changes.Missing ty is_const) l = record l { meaning = worlds.Missing (ctype_tree ty) is_const }

-- whether a declaration is one of the entity of the file that has the name, if one has
abbrev pub agreed : (Meaning → Bool) → Option Linked → Bool
agreed agrees None = true
agreed agrees (Some l) = agrees l.meaning

-- the place of the declaration with which another one of the name is Redeclared, if it is: by what this scope and the file have of the name
abbrev pub conflict_of : Option Binding → Option Linked → Bool → Option Pos
conflict_of None None agrees = None
conflict_of None (Some l) agrees = if agrees then None else Some l.pos
conflict_of (Some b) None agrees = Some b.pos
conflict_of (Some b) (Some l) agrees = if is_same_entity b.meaning l.meaning && agrees then None else Some b.pos
