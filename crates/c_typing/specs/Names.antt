-- Names and tags in scope, and objects that are added to the program.
use Rattle.std.specs.Prelude.{ℕ, ◌+◌, nat_lt, Bool, true, false, ◌||◌, if◌then◌else◌, is_some, Option, Some, None, option_map, List, [], ◌∷◌, ◌++◌, map, length, take, drop, find, reverse, slice_get, set, codes, unwrap_or, ⊤}
use Rattle.std.specs.Str.{bytes_eq}
use Rattle.c_syntax_written.specs.declared.place.Pos.{Pos}
use Rattle.c_syntax_written.specs.declared.written.Tag.{Tag}
use Rattle.c_syntax_written.specs.declared.int_type.IntType.{IntType}
use Rattle.c_syntax_written.specs.declared.int_type.IntType.TheVariants as ints
use Rattle.c_syntax.specs.declared.program.InitByte.{InitByte}
use Rattle.c_syntax.specs.declared.program.InitByte.TheVariants.{Num}
use Rattle.c_syntax.specs.Types.{CTypeTree, Int, Array, ObjectTree}
use Rattle.c_syntax.specs.Program.{MemberTree, StructDefTree}
use Rattle.c_layout.specs.Layout.{Space, struct_space, spaces_by, in_table}
use Rattle.c_typing.specs.World.{World, Meaning, Linked, TagBinding, TagMeaning, StructTag, EnumTag, OpenEnumTag, Outcome, Typed, Refused, Undeclared, Redeclared, ObjectTooLarge, TotalTooLarge, unless}

-- the names by which an input is read, with their types (this profile)
abbrev pub inputs : List (List ℕ × IntType)
inputs =
    (codes "__any_char", ints.Char) ∷ (codes "__any_uchar", ints.UChar)
    ∷ (codes "__any_short", ints.Short) ∷ (codes "__any_ushort", ints.UShort)
    ∷ (codes "__any_int", ints.Int) ∷ (codes "__any_uint", ints.UInt)
    ∷ (codes "__any_long", ints.Long) ∷ (codes "__any_ulong", ints.ULong) ∷ []

-- the type of the input that is read by this name
abbrev pub input_type : List ℕ → Option IntType
input_type name = option_map (λ input. input.1) (find (λ input. bytes_eq input.0 name) inputs)

abbrev pub is_assume : List ℕ → Bool
is_assume name = bytes_eq name (codes "__assume")

abbrev pub is_assert : List ℕ → Bool
is_assert name = bytes_eq name (codes "__assert")

-- a name that needs no declaration (this profile)
abbrev pub is_reserved : List ℕ → Bool
is_reserved name = is_some (input_type name) || (is_assume name || is_assert name)

-- what the name stands for: its last declaration that is in scope (C11 6.2.1p4)
abbrev pub meaning_of : World → List ℕ → Option Meaning
meaning_of w name = option_map (λ b. b.meaning) (find (λ b. bytes_eq b.name name) (reverse w.names))

-- the place of the first declaration of the name in the innermost scope
abbrev pub declared_here : World → List ℕ → Option Pos
declared_here w name = option_map (λ b. b.pos) (find (λ b. bytes_eq b.name name) (drop w.first_name w.names))

-- what a declaration of the name here is Redeclared with, if it is: a reserved name with its own place
abbrev pub first_here : World → Pos → List ℕ → Option Pos
first_here w at name = if is_reserved name then Some at else declared_here w name

-- a name is declared once in a scope
abbrev pub unless_declared : {A : Type 0} → Pos → Option Pos → Outcome A → Outcome A
unless_declared at None outcome = outcome
unless_declared at (Some first) outcome = Refused (Redeclared at first)

-- a new scope (C11 6.2.1p4)
abbrev pub opened : World → World
opened w = record w { first_name = length w.names; first_tag = length w.tags }

-- the scope ends, and that of before is the innermost one again
abbrev pub closed : World → World → World
closed before w = record w {
  names = take (length before.names) w.names;
  first_name = before.first_name;
  tags = take (length before.tags) w.tags;
  first_tag = before.first_tag;
}

abbrev pub with_name : World → Pos → List ℕ → Meaning → World
with_name w at name meaning = record w { names = w.names ++ record { name = name; pos = at; meaning = meaning } ∷ [] }

-- the object or function of the file that has this name
abbrev pub linked_as : World → List ℕ → Option Linked
linked_as w name = find (λ l. bytes_eq l.name name) w.linked

-- the tag in scope, and the one of the innermost scope (C11 6.7.2.3p4 and p5)
abbrev pub tag_in_scope : World → List ℕ → Option TagBinding
tag_in_scope w tag = find (λ b. bytes_eq b.tag tag) (reverse w.tags)

abbrev pub tag_here : World → List ℕ → Option TagBinding
tag_here w tag = find (λ b. bytes_eq b.tag tag) (drop w.first_tag w.tags)

-- a struct that has no members yet, which is incomplete
abbrev pub with_struct : World → List ℕ → World
with_struct w tag = record w { structs = w.structs ++ record { tag = tag; members = []; size = 0; align = 1 } ∷ [] }

abbrev pub with_tag : World → Tag → Option Pos → TagMeaning → World
with_tag w tag defined meaning =
    record w { tags = w.tags ++ record { tag = tag.name; pos = tag.pos; defined = defined; meaning = meaning } ∷ [] }

-- a struct by a new tag
abbrev pub new_struct : World → Tag → Option Pos → Outcome ℕ
new_struct w tag defined = Typed (length w.structs) (with_tag (with_struct w tag.name) tag defined (StructTag (length w.structs)))

-- `struct S` where no such tag is in the innermost scope: that of an outer scope, unless the declaration has nothing else (C11 6.7.2.3p7 to p9)
abbrev pub struct_from_outside : World → Bool → Tag → Option TagMeaning → Outcome ℕ
struct_from_outside w alone tag (Some (StructTag n)) = if alone then new_struct w tag None else Typed n w
struct_from_outside w alone tag found = new_struct w tag None

-- a tag of the innermost scope is a struct's, or that of the other kind (C11 6.7.2.3p2)
abbrev pub struct_here : World → Tag → TagBinding → TagMeaning → Outcome ℕ
struct_here w tag b (StructTag n) = Typed n w
struct_here w tag b EnumTag = Refused (Redeclared tag.pos b.pos)
struct_here w tag b OpenEnumTag = Refused (Redeclared tag.pos b.pos)

abbrev pub struct_found : World → Bool → Tag → Option TagBinding → Outcome ℕ
struct_found w alone tag None = struct_from_outside w alone tag (option_map (λ b. b.meaning) (tag_in_scope w tag.name))
struct_found w alone tag (Some b) = struct_here w tag b b.meaning

-- `struct S`, which may be all that its declaration says
abbrev pub struct_named : World → Bool → Tag → Outcome ℕ
struct_named w alone tag = struct_found w alone tag (tag_here w tag.name)

-- the tag of the innermost scope, which now has this place of its definition and this meaning
abbrev pub tag_become : Option Pos → TagMeaning → List ℕ → TagBinding → TagBinding
tag_become defined meaning tag b = if bytes_eq b.tag tag then record b { defined = defined; meaning = meaning } else b

abbrev pub with_tag_become : World → List ℕ → Option Pos → TagMeaning → World
with_tag_become w tag defined meaning =
    record w { tags = take w.first_tag w.tags ++ map (tag_become defined meaning tag) (drop w.first_tag w.tags) }

-- a struct that is declared in this scope is defined, unless it was before (C11 6.7.2.3p1)
abbrev pub struct_defined : World → Tag → ℕ → Option Pos → Outcome ℕ
struct_defined w tag n None = Typed n (with_tag_become w tag.name (Some tag.pos) (StructTag n))
struct_defined w tag n (Some first) = Refused (Redeclared tag.pos first)

abbrev pub struct_begun : World → Tag → TagBinding → TagMeaning → Outcome ℕ
struct_begun w tag b (StructTag n) = struct_defined w tag n b.defined
struct_begun w tag b EnumTag = Refused (Redeclared tag.pos b.pos)
struct_begun w tag b OpenEnumTag = Refused (Redeclared tag.pos b.pos)

abbrev pub struct_begins : World → Tag → Option TagBinding → Outcome ℕ
struct_begins w tag None = new_struct w tag (Some tag.pos)
struct_begins w tag (Some b) = struct_begun w tag b b.meaning

-- `struct S {`, or one without a tag
abbrev pub struct_opened : World → Option Tag → Outcome ℕ
struct_opened w None = Typed (length w.structs) (with_struct w [])
struct_opened w (Some tag) = struct_begins w tag (tag_here w tag.name)

-- what a struct of these members is, laid out (C11 6.7.2.1p15 and p17)
abbrev pub struct_of : List ℕ → List MemberTree → Space → StructDefTree
struct_of tag members space = record { tag = tag; members = members; size = unwrap_or space.size 0; align = space.align }

abbrev pub tag_of : List StructDefTree → ℕ → List ℕ
tag_of structs n = unwrap_or (option_map (λ def. def.tag) (slice_get structs n)) []

-- the struct is complete from its `}` on (C11 6.7.2.1p8)
abbrev pub with_members : World → ℕ → List MemberTree → World
with_members w n members =
    record w { structs = set w.structs n (struct_of (tag_of w.structs n) members (struct_space (spaces_by (in_table w.structs) members))) }

-- `enum E` names an enumeration that is defined before (C11 6.7.2.3p3, this profile)
abbrev pub enum_from_outside : World → Tag → Option TagMeaning → Outcome (⊤)
enum_from_outside w tag (Some EnumTag) = Typed tt w
enum_from_outside w tag found = Refused (Undeclared tag.pos)

abbrev pub enum_here : World → Tag → TagBinding → TagMeaning → Outcome (⊤)
enum_here w tag b (StructTag n) = Refused (Redeclared tag.pos b.pos)
enum_here w tag b EnumTag = Typed tt w
enum_here w tag b OpenEnumTag = Refused (Undeclared tag.pos)

abbrev pub enum_found : World → Tag → Option TagBinding → Outcome (⊤)
enum_found w tag None = enum_from_outside w tag (option_map (λ b. b.meaning) (tag_in_scope w tag.name))
enum_found w tag (Some b) = enum_here w tag b b.meaning

abbrev pub enum_named : World → Tag → Outcome (⊤)
enum_named w tag = enum_found w tag (tag_here w tag.name)

-- an enumeration's tag is defined where it stands first, so both kinds of a second declaration have the place of the first (C11 6.7.2.3p1 and p2)
abbrev pub enum_begins : World → Tag → Option TagBinding → Outcome (⊤)
enum_begins w tag None = Typed tt (with_tag w tag (Some tag.pos) OpenEnumTag)
enum_begins w tag (Some b) = Refused (Redeclared tag.pos b.pos)

abbrev pub enum_opened : World → Option Tag → Outcome (⊤)
enum_opened w None = Typed tt w
enum_opened w (Some tag) = enum_begins w tag (tag_here w tag.name)

-- `}` of an enumeration
abbrev pub enum_closed : World → Option Tag → World
enum_closed w None = w
enum_closed w (Some tag) = with_tag_become w tag.name (Some tag.pos) EnumTag

-- the greatest object, and all objects together, in bytes (this profile)
abbrev pub object_limit : ℕ
object_limit = 4096

abbrev pub total_limit : ℕ
total_limit = 65536

-- an object that would take the program past a limit is refused
abbrev pub within_limits : {A : Type 0} → Pos → ℕ → World → Outcome A → Outcome A
within_limits at size w outcome =
    unless (nat_lt object_limit size) (ObjectTooLarge at size) (unless (nat_lt total_limit (w.total + size)) (TotalTooLarge at (w.total + size)) outcome)

-- with one object more, which counts among the sizes
abbrev pub with_object : World → ObjectTree → World
with_object w object = record w { objects = w.objects ++ object ∷ []; total = w.total + object.size }

abbrev pub with_initial : World → ℕ → List InitByte → World
with_initial w n bytes = record w { initial = w.initial ++ record { object = n; bytes = bytes } ∷ [] }

-- the type of a string literal of so many bytes, its closing zero among them (C11 6.4.5p6)
abbrev pub literal_type : ℕ → CTypeTree
literal_type size = Array (Int ints.Char) false size

-- a string literal is an object of its own, which nothing may write (C11 6.4.5p6 and p7)
abbrev pub literal_object : Pos → ℕ → ObjectTree
literal_object at size = record {
  name = codes "string";
  pos = at;
  ty = literal_type size;
  size = size;
  read_only = true;
  is_static = true;
}

-- its bytes, and a zero
abbrev pub literal_bytes : List ℕ → List InitByte
literal_bytes bytes = map Num (bytes ++ 0 ∷ [])

abbrev pub with_literal : World → Pos → List ℕ → World
with_literal w at bytes = with_initial (with_object w (literal_object at (length bytes + 1))) (length w.objects) (literal_bytes bytes)
