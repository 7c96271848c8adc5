-- The scalars that stand in objects.
use Rattle.std.specs.Prelude.{◌≡◌, ◌↔◌, ℕ, Some, IsSomeAnd, List, slice_get}
use Rattle.c_syntax.specs.Types.{CTypeTree, Array, Struct}
use Rattle.c_syntax.specs.Program.{StructDefTree}
use Rattle.c_layout.specs.Layout.{members_of, size_in}
use Rattle.c_layout.specs.ProperTypes.{PartAt}
use Rattle.c_layout.specs.RowTypes.{IsScalar}

-- a scalar of this type, which has so many bytes, stands at this offset of an object of the first type (C11 6.2.5p20 and p21)
pub record IsScalarAt (structs : List StructDefTree) (whole : CTypeTree) (offset size : ℕ) (ty : CTypeTree) : Type 0 where
  pub part : PartAt structs whole offset ty
  pub scalar : IsScalar ty
  pub bytes : size_in structs ty ≡ Some size

-- this holds of each scalar of so many bytes that stands there
abbrev pub EachScalar : List StructDefTree → CTypeTree → ℕ → ℕ → (CTypeTree → Type 0) → Type 0
EachScalar structs whole offset size Holds = (ty : CTypeTree) → IsScalarAt structs whole offset size ty → Holds ty

-- no scalar stands there
abbrev pub HasNone : List StructDefTree → CTypeTree → ℕ → Type 0
HasNone structs whole offset = (size : ℕ) (ty : CTypeTree) → IsScalarAt structs whole offset size ty → ⊥

-- what scalars stand at one offset of a type stand at the other of the other
abbrev pub HaveSame : List StructDefTree → CTypeTree → ℕ → CTypeTree → ℕ → Type 0
HaveSame structs a i b k = (size : ℕ) (ty : CTypeTree) → IsScalarAt structs a i size ty ↔ IsScalarAt structs b k size ty

-- C11 6.2.5p20
abbrev pub HasNoParts : CTypeTree → Type 0
HasNoParts (Array of is_const n) = ⊥
HasNoParts (Struct n) = ⊥
HasNoParts ty = Unit {0}

-- a member of the struct has this type
abbrev pub IsMemberType : List StructDefTree → ℕ → CTypeTree → Type 0
IsMemberType structs n ty = (k : ℕ) × IsSomeAnd (slice_get (members_of structs n) k) (λ member. member.ty ≡ ty)
