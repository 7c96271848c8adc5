-- Types that a program may have so far.
use Rattle.std.specs.Prelude.{◌<◌, IsSomeAnd, List, All, length}
use Rattle.c_syntax_written.specs.declared.int_type.IntType.TheVariants as ints
use Rattle.c_syntax_written.specs.Integer.{HasNumber}
use Rattle.c_syntax.specs.Types.{CTypeTree, Void, Int, Pointer, Array, Struct, Function}
use Rattle.c_syntax.specs.Program.{StructDefTree}
use Rattle.c_layout.specs.Layout.{size_in}
use Rattle.c_layout.specs.ProperTypes.{IsTold}
use Rattle.c_typing.specs.World.{Form, Plain, Unsized, Callable, Meaning, Object, Missing, Parameter, TypeName, Enumeration, TagMeaning, StructTag, EnumTag, OpenEnumTag}
use Rattle.c_typing.specs.World as world

-- each struct that the type names is declared, its arrays have some elements of a complete type and are not above 2 to the 40 bytes,
-- and no function stands in it (this profile)
abbrev pub IsFormed : List StructDefTree → CTypeTree → Type 0
IsFormed structs Void = Unit {0}
IsFormed structs (Int t) = Unit {0}
IsFormed structs (Pointer to is_const) = IsFormed structs to
IsFormed structs (Array of is_const n) = IsFormed structs of × (0 < n) × IsSomeAnd (size_in structs (Array of is_const n)) IsTold
IsFormed structs (Struct n) = n < length structs
IsFormed structs (Function n) = ⊥

-- a type as a declaration gives it; the element of an array without size is complete
abbrev pub IsFormedForm : List StructDefTree → Form → Type 0
IsFormedForm structs (Plain ty is_const) = IsFormed structs ty
IsFormedForm structs (Unsized of is_const) = IsFormed structs of × IsSomeAnd (size_in structs of) IsTold
IsFormedForm structs (Callable params result) = All (IsFormed structs) params × IsFormed structs result

-- what a name stands for: a typedef name for such a type, a parameter of a prototype has one, and an enumeration constant is an int
abbrev pub IsFormedMeaning : List StructDefTree → Meaning → Type 0
IsFormedMeaning structs (Object n) = Unit {0}
IsFormedMeaning structs (Missing ty is_const) = Unit {0}
IsFormedMeaning structs (Parameter k ty is_const) = IsFormed structs ty
IsFormedMeaning structs (world.Function n) = Unit {0}
IsFormedMeaning structs (TypeName form) = IsFormedForm structs form
IsFormedMeaning structs (Enumeration n) = HasNumber ints.Int n

-- a tag stands for a struct that is declared, or for an enumeration
abbrev pub IsFormedTag : List StructDefTree → TagMeaning → Type 0
IsFormedTag structs (StructTag n) = n < length structs
IsFormedTag structs EnumTag = Unit {0}
IsFormedTag structs OpenEnumTag = Unit {0}
