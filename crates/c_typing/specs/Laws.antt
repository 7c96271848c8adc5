-- What holds of typing.
use Rattle.std.specs.Prelude.{◌≡◌, ℕ, Bool, IsTrue, Some, IsSomeAnd, List, slice_get}
use Rattle.c_syntax_written.specs.WrittenFile.{FileTree, OuterTree}
use Rattle.c_syntax.specs.Types.{CTypeTree, Array, ObjectTree}
use Rattle.c_syntax.specs.Program.{StructDefTree, TFunctionTree}
use Rattle.c_layout.specs.Tables.{IsTypedTable}
use Rattle.c_typing.specs.Later.{has_members}
use Rattle.c_typing.specs.World.{World, Outcome, Typed}
use Rattle.c_typing.specs.Context.{Context}
use Rattle.c_typing.specs.File.{FileOutcome, TypesFile, TypesOuters, nothing_yet}

-- at most one outcome is of this kind
abbrev pub One : {A : Type 0} → (Outcome A → Type 0) → Type 0
One {A} kind = (o q : Outcome A) → kind o → kind q → o ≡ q

-- a file has one outcome at most: a typed program, or its first refusal
abbrev pub FilesHaveOne : Type 0
FilesHaveOne = (file : FileTree) (o q : FileOutcome) → TypesFile file o → TypesFile file q → o ≡ q

-- a function that keeps its name and its result (C11 6.7p4)
pub record IsSameFunction (f g : TFunctionTree) : Type 0 where
  pub name : f.name ≡ g.name
  pub result : f.result ≡ g.result

-- a type that stays as it is, or that of an array whose size comes later (C11 6.2.5p22)
pub data IsLastType : CTypeTree → CTypeTree → Type 0 where
  same : (ty : CTypeTree) → IsLastType ty ty
  sized : (of : CTypeTree) (is_const : Bool) (n : ℕ) → IsLastType (Array of is_const 0) (Array of is_const n)

-- an object that keeps its name and place, its type once that is complete, whether it may be written, and how long it lives
pub record IsSameObject (x y : ObjectTree) : Type 0 where
  pub name : x.name ≡ y.name
  pub pos : x.pos ≡ y.pos
  pub ty : IsLastType x.ty y.ty
  pub read_only : x.read_only ≡ y.read_only
  pub is_static : x.is_static ≡ y.is_static

-- a struct that keeps its tag, and its members from the place on where it has them (C11 6.7.2.1p8, 6.7.2.3p1)
pub record IsSameStruct (d e : StructDefTree) : Type 0 where
  pub tag : d.tag ≡ e.tag
  pub whole : IsTrue (has_members d.members) → d ≡ e

-- one program goes on from another: each struct, each object and each function of the one has its number in the other
pub record GoesOn (w v : World) : Type 0 where
  pub structs : (k : ℕ) (d : StructDefTree) → slice_get w.structs k ≡ Some d → IsSomeAnd (slice_get v.structs k) (IsSameStruct d)
  pub objects : (k : ℕ) (x : ObjectTree) → slice_get w.objects k ≡ Some x → IsSomeAnd (slice_get v.objects k) (IsSameObject x)
  pub functions : (k : ℕ) (f : TFunctionTree) → slice_get w.functions k ≡ Some f → IsSomeAnd (slice_get v.functions k) (IsSameFunction f)
  pub signatures : (k : ℕ) (types : List CTypeTree) → slice_get w.signatures k ≡ Some types → slice_get v.signatures k ≡ Some types

-- typing only adds: in a file, declarations leave a program that goes on from the one before them
abbrev pub TypingAdds : Type 0
TypingAdds =
    (around : Context) (before after : List OuterTree) (w v : World) → TypesOuters nothing_yet around before (Typed tt w)
    → TypesOuters w around after (Typed tt v) → GoesOn w v

-- the structs of a program that declarations leave are a table that a well typed program may have: their stored sizes, alignments and offsets
-- are those that their members give, members are of complete types, no struct holds itself, and none is above 2 to the 40 bytes
abbrev pub StructsAreTyped : Type 0
StructsAreTyped = (around : Context) (before : List OuterTree) (w : World) → TypesOuters nothing_yet around before (Typed tt w) → IsTypedTable w.structs

-- each file has an outcome
abbrev pub FilesHaveSome : Type 0
FilesHaveSome = (file : FileTree) → (o : FileOutcome) × TypesFile file o
