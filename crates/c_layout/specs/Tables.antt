-- Tables of structs that a program may have.
use Rattle.std.specs.Prelude.{◌≡◌, ◌+◌, ◌%◌, ◌<◌, ◌≤◌, ℕ, Some, IfSome, IsSomeAnd, List, All, length}
use Rattle.c_syntax.specs.Types.{CTypeTree, Struct}
use Rattle.c_syntax.specs.Program.{MemberTree, StructDefTree}
use Rattle.c_layout.specs.Layout.{members_of, size_in, align_in}
use Rattle.c_layout.specs.LaidOut.{IsLaidOut}
use Rattle.c_layout.specs.Heights.{AreNamed, NoneHoldsItself}
use Rattle.c_layout.specs.ProperTypes.{IsProperType, IsTold, PartAt}

-- a member is of a complete type, which has at least one byte (C11 6.7.2.1p3)
pub record IsTypedMember (structs : List StructDefTree) (member : MemberTree) : Type 0 where
  pub ty : IsProperType structs member.ty
  pub size : IsSomeAnd (size_in structs member.ty) (λ size. (0 < size) × IsTold size)

-- what members name is there, no struct holds itself, no struct is above 2 to the 40 bytes, and what is stored is what members give
pub record IsTypedTable (structs : List StructDefTree) : Type 0 where
  pub named : AreNamed structs
  pub founded : NoneHoldsItself structs
  pub members : All (λ def. All (IsTypedMember structs) def.members) structs
  pub told : (n : ℕ) → IfSome (size_in structs (Struct n)) IsTold
  pub laid_out : IsLaidOut structs

-- where a part has a size, that in which it stands has one too, and the part lies inside it
abbrev pub PartsLieInside : List StructDefTree → Type 0
PartsLieInside structs =
    (whole part : CTypeTree) (offset size : ℕ) → PartAt structs whole offset part → size_in structs part ≡ Some size
    → IsSomeAnd (size_in structs whole) (λ n. offset + size ≤ n)

-- a part stands at a multiple of its alignment
abbrev pub PartsAreAligned : List StructDefTree → Type 0
PartsAreAligned structs =
    (whole part : CTypeTree) (offset : ℕ) → PartAt structs whole offset part → offset % align_in structs part ≡ 0

-- a struct with members has a size, of at least one byte
abbrev pub StructsHaveBytes : List StructDefTree → Type 0
StructsHaveBytes structs =
    (n : ℕ) → 0 < length (members_of structs n) → IsSomeAnd (size_in structs (Struct n)) (λ size. (0 < size) × IsTold size)
