-- Zeros that are stored byte by byte.
use Rattle.std.specs.Prelude.{◌≡◌, ℕ, zero, suc, pos, ◌+◌, ◌<◌, ◌≤◌, List, length}
use Rattle.c_syntax_written.specs.declared.int_type.IntType.TheVariants as ints
use Rattle.block_mem.specs.declared.types.Scalar.{Scalar}
use Rattle.block_mem.specs.declared.types.Scalar.TheVariants as scalars
use Rattle.block_mem.specs.declared.types.Value.{Value}
use Rattle.block_mem.specs.declared.types.Value.TheVariants as values
use Rattle.block_mem.specs.Block.{BlockView}
use Rattle.block_mem.specs.Blocks.{block_at, store}
use Rattle.block_mem.specs.Bytes.{size_of}

-- 0, or the null pointer
abbrev pub zero_value : Scalar → Value
zero_value (scalars.Int t) = values.Int t (pos 0)
zero_value scalars.Pointer = values.Null

-- the bytes of a block from one on, so many, become 0 one by one
abbrev pub zeros_up : ℕ → ℕ → ℕ → List BlockView → List BlockView
zeros_up b k zero m = m
zeros_up b k (suc n) m = store (zeros_up b k n m) (record { block = b; offset = pos (k + n) }) (values.Int ints.UChar (pos 0))

-- a store of 0 at a scalar type makes the memory that its bytes make, one store of 0 each
abbrev pub ZerosAreBytes : Type 0
ZerosAreBytes = (m : List BlockView) (b k : ℕ) (ty : Scalar) → b < length m → k + size_of ty ≤ length (block_at m b).bytes
    → store m (record { block = b; offset = pos k }) (zero_value ty) ≡ zeros_up b k (size_of ty) m
