-- States that a memory domain cannot tell apart: they differ in the numbers of blocks, in what dead pointers point to, and in inputs.
use Rattle.std.specs.Prelude.{◌≡◌, ℕ, Some, is_some, slice_get}
use Rattle.block_mem.specs.declared.types.Value.{Value}
use Rattle.block_mem.specs.declared.types.Value.TheVariants as values
use Rattle.block_mem.specs.declared.types.Byte.{Byte}
use Rattle.block_mem.specs.declared.types.Byte.TheVariants as bytes
use Rattle.block_mem.specs.Blocks.{block_at}
use Rattle.c_values.specs.Places.{ObjectMemory, place_of, spot}
use Rattle.csharp.specs.States.{State}

-- one number, or pointers to one spot
abbrev pub AreLike : ObjectMemory → Value → ObjectMemory → Value → Type 0
AreLike m (values.Int t n) w u = u ≡ values.Int t n
AreLike m v w u = spot m v ≡ spot w u

-- one byte: no value, a number, or the same piece of pointers to one spot
abbrev pub AreLikeBytes : ObjectMemory → Byte → ObjectMemory → Byte → Type 0
AreLikeBytes m (bytes.Frag p k) w (bytes.Frag r j) = (spot m (values.Ptr p) ≡ spot w (values.Ptr r)) × (k ≡ j)
AreLikeBytes m b w c = b ≡ c

pub record IsAlike (s t : State) : Type 0 where
  pub temps : (d : ℕ) (v u : Value) → slice_get s.temps d ≡ Some v → slice_get t.temps d ≡ Some u → AreLike s.memory v t.memory u
  pub live : (x : ℕ) → is_some (place_of s.memory x) ≡ is_some (place_of t.memory x)
  pub bytes : (x b c k : ℕ) (y z : Byte) → place_of s.memory x ≡ Some b → place_of t.memory x ≡ Some c
      → slice_get (block_at s.memory.blocks b).bytes k ≡ Some y → slice_get (block_at t.memory.blocks c).bytes k ≡ Some z
      → AreLikeBytes s.memory y t.memory z
