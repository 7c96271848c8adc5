-- Temporaries stand in rows: a row has one for each scalar type. So a depth and a type name a temporary, and what is done with at one depth is used again.
use Rattle.std.specs.Prelude.{ℕ, zero, suc, ◌+◌, ◌*◌, List, [], ◌∷◌, ◌++◌}
use Rattle.c_syntax_written.specs.declared.int_type.IntType.{IntType}
use Rattle.c_syntax_written.specs.declared.int_type.IntType.TheVariants as ints
use Rattle.block_mem.specs.declared.types.Scalar.{Scalar}
use Rattle.block_mem.specs.declared.types.Scalar.TheVariants as scalars

abbrev pub int_place : IntType → ℕ
int_place ints.Char = 0
int_place ints.SChar = 1
int_place ints.UChar = 2
int_place ints.Short = 3
int_place ints.UShort = 4
int_place ints.Int = 5
int_place ints.UInt = 6
int_place ints.Long = 7
int_place ints.ULong = 8
int_place ints.LLong = 9
int_place ints.ULLong = 10

abbrev pub scalar_place : Scalar → ℕ
scalar_place (scalars.Int t) = int_place t
scalar_place scalars.Pointer = 11

-- the temporary of a type at a depth
abbrev pub temp_at : ℕ → Scalar → ℕ
temp_at depth ty = 12 * depth + scalar_place ty

abbrev pub row : List Scalar
row =
    scalars.Int ints.Char ∷ scalars.Int ints.SChar ∷ scalars.Int ints.UChar ∷ scalars.Int ints.Short ∷ scalars.Int ints.UShort ∷ scalars.Int ints.Int
    ∷ scalars.Int ints.UInt ∷ scalars.Int ints.Long ∷ scalars.Int ints.ULong ∷ scalars.Int ints.LLong ∷ scalars.Int ints.ULLong ∷ scalars.Pointer ∷ []

-- the types of so many rows
abbrev pub rows : ℕ → List Scalar
rows zero = []
rows (suc n) = row ++ rows n
