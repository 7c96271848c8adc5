-- A number for each value, so that one range tells of integers and of null pointers.
use Rattle.std.specs.Prelude.{◌≡◌, ℤ, pos}
use Rattle.block_mem.specs.declared.types.Scalar.{Scalar}
use Rattle.block_mem.specs.declared.types.Scalar.TheVariants as scalars
use Rattle.block_mem.specs.declared.types.Value.{Value}
use Rattle.block_mem.specs.declared.types.Value.TheVariants as values

-- an integer is its number, the null pointer 0, and any other pointer 1: the number is 0 where a test of the value fails
abbrev pub number_of : Value → ℤ
number_of (values.Int t n) = n
number_of (values.Ptr p) = pos 1
number_of values.Null = pos 0

-- the value is an integer or null
abbrev pub IsNoObject : Value → Type 0
IsNoObject (values.Int t n) = Unit {0}
IsNoObject (values.Ptr p) = ⊥
IsNoObject values.Null = Unit {0}

-- the value is of this type, up to which numbers the type has
abbrev pub HasKind : Scalar → Value → Type 0
HasKind (scalars.Int t) (values.Int u n) = u ≡ t
HasKind (scalars.Int t) (values.Ptr p) = ⊥
HasKind (scalars.Int t) values.Null = ⊥
HasKind scalars.Pointer (values.Int u n) = ⊥
HasKind scalars.Pointer (values.Ptr p) = Unit {0}
HasKind scalars.Pointer values.Null = Unit {0}
