-- Types that objects, members and results may have, and the parts of a type.
use Rattle.std.specs.Prelude.{◌≡◌, ◌+◌, ◌*◌, ◌^◌, ◌<◌, ◌≤◌, ℕ, Bool, Some, IfSome, IsSomeAnd, List, length, slice_get}
use Rattle.c_syntax.specs.Types.{CTypeTree, Void, Int, Pointer, Array, Struct, Function}
use Rattle.c_syntax.specs.Program.{StructDefTree}
use Rattle.c_layout.specs.Layout.{members_of, member_spaces, size_in, offset_at}

-- a size that is told (this profile)
abbrev pub IsTold : ℕ → Type 0
IsTold size = size ≤ 2 ^ 40

-- each struct that the type names is there, its arrays have elements of a complete type, no array or struct in it is above 2 to the 40 bytes,
-- and no function stands in it: the type of a function is that of a declared function alone (this profile)
abbrev pub IsProperType : List StructDefTree → CTypeTree → Type 0
IsProperType structs Void = Unit {0}
IsProperType structs (Int t) = Unit {0}
IsProperType structs (Pointer to is_const) = IsProperType structs to
IsProperType structs (Array of is_const n) = IsProperType structs of × (0 < n) × IsSomeAnd (size_in structs (Array of is_const n)) IsTold
IsProperType structs (Struct n) = (n < length structs) × IfSome (size_in structs (Struct n)) IsTold
IsProperType structs (Function n) = ⊥

-- the second type is the first, or that of an element or a member in it, at this offset (C11 6.2.5p20)
pub data PartAt (structs : List StructDefTree) : CTypeTree → ℕ → CTypeTree → Type 0 where
  whole : (ty : CTypeTree) → PartAt structs ty 0 ty
  element :
      (of part : CTypeTree) (is_const : Bool) (n k size inner at : ℕ)
      → k < n → size_in structs of ≡ Some size → PartAt structs of inner part → at ≡ k * size + inner
      → PartAt structs (Array of is_const n) at part
  member :
      (ty part : CTypeTree) (n k offset inner at : ℕ)
      → IsSomeAnd (slice_get (members_of structs n) k) (λ m. m.ty ≡ ty) → offset_at (member_spaces structs n) k ≡ Some offset
      → PartAt structs ty inner part → at ≡ offset + inner
      → PartAt structs (Struct n) at part
