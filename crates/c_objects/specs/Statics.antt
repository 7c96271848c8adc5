-- Memory at the start of a run: objects of static duration live and have their initial bytes (C11 5.1.2, 6.2.4p3, 6.7.9p10).
use Rattle.std.specs.Prelude.{ℕ, ℤ, suc, pos, ◌≡◌, ◌+◌, ◌<◌, ◌≤◌, if◌then◌else◌, slice_get, List}
use Rattle.std.specs.Prelude.{[], ◌∷◌, length, All, Option, None, Some, IfSome, IsSome, unwrap_or, slice_index_or}
use Rattle.c_syntax.specs.declared.program.InitByte.{InitByte}
use Rattle.c_syntax.specs.declared.program.InitByte.TheVariants as inits
use Rattle.c_syntax.specs.declared.program.Initial.{Initial}
use Rattle.c_syntax.specs.Types.{ObjectTree}
use Rattle.block_mem.specs.declared.types.Byte.{Byte}
use Rattle.block_mem.specs.declared.types.Byte.TheVariants.{Num, Frag}
use Rattle.block_mem.specs.Block.{BlockView}
use Rattle.block_mem.specs.Blocks.{block_at, set_byte}
use Rattle.c_values.specs.Places.{ObjectMemory, place_of}
use Rattle.c_objects.specs.Opening.{no_objects, opened}
use Rattle.c_objects.specs.Writing.{with_blocks}

-- the static ones among objects from number x on live, in their order
abbrev pub open_statics : List ObjectTree → List ObjectTree → ℕ → ObjectMemory → ObjectMemory
open_statics objects [] x m = m
open_statics objects (o ∷ os) x m = open_statics objects os (suc x) (if o.is_static then opened objects m x else m)

-- the block of an object that lives
abbrev pub block_of : ObjectMemory → ℕ → ℕ
block_of m x = unwrap_or (place_of m x) 0

-- a byte of an initial value; the block of each static object is there before any byte is put in
abbrev pub initial_byte : ObjectMemory → InitByte → Byte
initial_byte m (inits.Num n) = Num n
initial_byte m (inits.Piece object offset k) = Frag (record { block = block_of m object; offset = offset }) k

-- initial bytes that are put into a block one by one, from an offset on
abbrev pub put_from : ObjectMemory → ℕ → ℕ → List InitByte → List BlockView → List BlockView
put_from m b k [] blocks = blocks
put_from m b k (y ∷ ys) blocks = put_from m b (suc k) ys (set_byte blocks (record { block = b; offset = pos k }) (initial_byte m y))

-- the first bytes of a block are initial ones
abbrev pub with_initial_bytes : ObjectMemory → ℕ → List InitByte → ObjectMemory
with_initial_bytes m b bs = with_blocks m (put_from m b 0 bs m.blocks)

abbrev pub initial_at : ObjectMemory → Option ℕ → List InitByte → ObjectMemory
initial_at m None bs = m
initial_at m (Some b) bs = with_initial_bytes m b bs

-- the initial bytes of an object that lives
abbrev pub with_initial : ObjectMemory → Initial → ObjectMemory
with_initial m i = initial_at m (place_of m i.object) i.bytes

abbrev pub with_initials : ObjectMemory → List Initial → ObjectMemory
with_initials m [] = m
with_initials m (i ∷ is) = with_initials (with_initial m i) is

-- memory where all objects of static duration live, with no value yet
abbrev pub opened_statics : List ObjectTree → ObjectMemory
opened_statics objects = open_statics objects objects 0 (no_objects (length objects))

-- memory at the start of a run
abbrev pub start : List ObjectTree → List Initial → ObjectMemory
start objects initials = with_initials (opened_statics objects) initials

-- the object that a piece points to has a block
abbrev pub HasBlock : List (Option ℕ) → InitByte → Type 0
HasBlock places (inits.Num n) = Unit {0}
HasBlock places (inits.Piece object offset k) = IsSome (slice_index_or places object None)

-- an initial value is no longer than its object, and names objects that live
abbrev pub FitsInitial : ObjectMemory → Initial → Type 0
FitsInitial m i = IfSome (place_of m i.object) (λ b. length i.bytes ≤ length (block_at m.blocks b).bytes) × All (λ byte. HasBlock m.places byte) i.bytes

abbrev pub FitInitials : ObjectMemory → List Initial → Type 0
FitInitials m initials = All (λ i. FitsInitial m i) initials

-- a number among initial bytes has eight bits (C11 3.6), as each in the code has
abbrev pub HasEightBits : InitByte → Type 0
HasEightBits (inits.Num n) = n < 256
HasEightBits (inits.Piece object offset k) = Unit {0}

-- the initial bytes of an object that lives have eight bits
abbrev pub HasBitsIn : ObjectMemory → Initial → Type 0
HasBitsIn m i = IfSome (place_of m i.object) (λ b. All HasEightBits i.bytes)

-- the initial bytes of each object have eight bits
abbrev pub AreEightBits : List Initial → Type 0
AreEightBits initials = All (λ i. All HasEightBits i.bytes) initials

-- place q among initial bytes holds piece k of a pointer
abbrev pub HasPiece : List InitByte → ℕ → ℕ → ℤ → ℕ → Type 0
HasPiece bs q object offset k = slice_get bs q ≡ Some (inits.Piece object offset k)

-- each piece among initial bytes stands among the eight of its pointer, 0 to 7 in their order
abbrev pub AreWholeBytes : List InitByte → Type 0
AreWholeBytes bs =
    (q object : ℕ) (offset : ℤ) (k : ℕ) → HasPiece bs q object offset k
    → (first : ℕ) × (first + k ≡ q) × ((j : ℕ) → j < 8 → HasPiece bs (first + j) object offset j)

-- the pointers in the initial bytes of each object are whole
abbrev pub AreWholeInitials : List Initial → Type 0
AreWholeInitials initials = All (λ i. AreWholeBytes i.bytes) initials
