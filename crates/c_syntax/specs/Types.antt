-- Types and objects as trees without pointers, so that two types with one spelling are equal.
use Rattle.std.specs.Prelude.{ℕ, Bool, List}
use Rattle.c_syntax_written.specs.declared.place.Pos.{Pos}
use Rattle.c_syntax_written.specs.declared.int_type.IntType.{IntType}
use Rattle.c_syntax.specs.declared.types.CType.{CType}
use Rattle.c_syntax.specs.declared.types.CType.TheVariants as types
use Rattle.c_syntax.specs.declared.types.Object.{Object}

-- a type; a pointer and an array have their target's type, and whether it is const
pub data CTypeTree : Type 0 where
  Void : CTypeTree
  Int : IntType → CTypeTree
  Pointer : CTypeTree → Bool → CTypeTree
  Array : CTypeTree → Bool → ℕ → CTypeTree
  Struct : ℕ → CTypeTree
  Function : ℕ → CTypeTree

-- a variable or a string literal
pub record ObjectTree : Type 0 where
  pub name : List ℕ
  pub pos : Pos
  pub ty : CTypeTree
  pub size : ℕ
  pub read_only : Bool
  pub is_static : Bool

-- a type that is no pointer and no array
abbrev pub HasNoTarget : CTypeTree → Type 0
HasNoTarget (Pointer to is_const) = ⊥
HasNoTarget (Array of is_const n) = ⊥
HasNoTarget ty = Unit {0}

-- the tree of a type
unfoldable pub ctype_tree : CType → CTypeTree
ctype_tree types.Void = Void
ctype_tree (types.Int t) = Int t
ctype_tree (types.Pointer' place ty is_const) = Pointer (ctype_tree ty) is_const
ctype_tree (types.Array' place ty is_const n) = Array (ctype_tree ty) is_const n
ctype_tree (types.Struct n) = Struct n
ctype_tree (types.Function n) = Function n

-- the tree of an object
abbrev pub object_tree : Object → ObjectTree
object_tree object = record {
  name = object.name;
  pos = object.pos;
  ty = ctype_tree object.ty;
  size = object.size;
  read_only = object.read_only;
  is_static = object.is_static;
}
