-- The numbers of whole objects.
use Rattle.std.specs.Prelude.{◌≡◌, ℕ, ℤ, true, List, [], ◌∷◌, ◌++◌, Contains, IsSomeAnd, Option, Some, None, slice_get}
use Rattle.c_syntax_written.specs.declared.int_type.IntType.{IntType}
use Rattle.c_syntax_written.specs.declared.int_type.IntType.TheVariants.{Char, SChar, UChar, Short, UShort, Int, UInt, Long, ULong, LLong, ULLong}
use Rattle.c_syntax_written.specs.Integer.{is_signed}
use Rattle.c_syntax.specs.declared.alarm.Fact.{Fact}
use Rattle.c_syntax.specs.declared.alarm.Fact.TheVariants as facts
use Rattle.c_syntax.specs.Types.{CTypeTree, ObjectTree}
use Rattle.c_syntax.specs.Types as types
use Rattle.block_mem.specs.declared.types.Scalar.TheVariants as scalars
use Rattle.block_mem.specs.declared.types.Value.TheVariants as values
use Rattle.block_mem.specs.Blocks.{block_at}
use Rattle.c_values.specs.Places.{ObjectMemory, place_of}
use Rattle.c_objects.specs.Cells.{cell_number, LoadsFrom}
use Rattle.mem_api.specs.FactsOf.{whole_cell}

-- the type of the same width without a sign
abbrev pub unsigned_of : IntType → IntType
unsigned_of Char = UChar
unsigned_of SChar = UChar
unsigned_of UChar = UChar
unsigned_of Short = UShort
unsigned_of UShort = UShort
unsigned_of Int = UInt
unsigned_of UInt = UInt
unsigned_of Long = ULong
unsigned_of ULong = ULong
unsigned_of LLong = ULLong
unsigned_of ULLong = ULLong

-- a load at this type from the first byte of an object gives the number
abbrev pub Loads : ObjectMemory → ℕ → IntType → ℤ → Type 0
Loads m x t n = LoadsFrom m (whole_cell x t) (scalars.Int t) (values.Int t n)

-- all bytes of an object are the number, read at this type
abbrev pub HasWhole : ObjectMemory → ℕ → IntType → ℤ → Type 0
HasWhole m x t n = cell_number (is_signed t) m (whole_cell x t) ≡ Some n

-- the block of each object that lives is live
abbrev pub AreLive : ObjectMemory → Type 0
AreLive m = (x b : ℕ) → place_of m x ≡ Some b → (block_at m.blocks b).live ≡ true

-- the fact tells the number of all bytes of an integer object
abbrev pub TellsNumber : ObjectMemory → ℕ → CTypeTree → Fact → Type 0
TellsNumber m x ty fact = (t : IntType) × (n : ℤ) × (ty ≡ types.Int t) × HasWhole m x t n × (fact ≡ facts.Between (whole_cell x t) n n)

-- it tells that of one of these objects
abbrev pub TellsOne : List ObjectTree → ObjectMemory → Fact → Type 0
TellsOne objects m fact = (x : ℕ) × IsSomeAnd (slice_get objects x) (λ object. TellsNumber m x object.ty fact)

-- the number of all bytes of this object is told, where it is an integer that has one
abbrev pub IsToldOf : List ObjectTree → ObjectMemory → List Fact → ℕ → Type 0
IsToldOf objects m told x = (t : IntType) (n : ℤ) → IsSomeAnd (slice_get objects x) (λ object. object.ty ≡ types.Int t) → HasWhole m x t n
    → Contains told (facts.Between (whole_cell x t) n n)

-- a fact is put behind the others, if there is one
abbrev pub with_fact : List Fact → Option Fact → List Fact
with_fact told None = told
with_fact told (Some fact) = told ++ fact ∷ []
