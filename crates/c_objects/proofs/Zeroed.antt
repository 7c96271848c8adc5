-- Bytes that become 0 one by one.
use Rattle.std.proofs.Common.{◌≡◌, ℕ, suc, ◌+◌, ◌<◌, ◌%◌, ◌^◌, pos, Bool, true, false, refl, ap, sym, subst, ◌∙◌, arith, List, length, length-set, None, to_z}
use Rattle.std.specs.Prelude.{nat_le, if◌then◌else◌}
use Rattle.std.specs.Int.{w64}
use Rattle.std.proofs.lemmas.Bool.{le-leb}
use Rattle.std.proofs.lemmas.Int.{to_z_pos}
use Rattle.c_syntax_written.specs.declared.int_type.IntType.TheVariants as ints
use Rattle.block_mem.specs.declared.types.Value.TheVariants as values
use Rattle.block_mem.specs.Block.{BlockView}
use Rattle.block_mem.specs.Blocks.{block_at, store, wrong_access}
use Rattle.block_mem.specs.Bytes.{bytes_of}
use Rattle.block_mem.proofs.Copies.{block-same}
use Rattle.block_mem.proofs.Laws.{length-stored}
use Rattle.c_values.specs.Places.{ObjectMemory}
use Rattle.c_objects.specs.Writing.{with_blocks, zero_at, zero_byte, zeroed}

-- a byte of a block that lives may be written
pub byte_inside : (m : List BlockView) (b k : ℕ) → (block_at m b).live ≡ true → k < length (block_at m b).bytes
    → wrong_access m (record { block = b; offset = pos k }) 1 1 false ≡ None
byte_inside m b k e h =
    let one : k % 1 ≡ 0 = omega arith in
    let fits : nat_le (k + 1) (length (block_at m b).bytes) ≡ true = le-leb (k + 1) (length (block_at m b).bytes) (omega arith) in
    rw e (rw fits (rw one refl))

-- a block keeps its marks and its size
pub record KeepsBlock (b : ℕ) (old new : List BlockView) : Type 0 where
  pub count : length new ≡ length old
  pub live : (block_at new b).live ≡ (block_at old b).live
  pub size : length (block_at new b).bytes ≡ length (block_at old b).bytes

pub keeps_same : (b : ℕ) (m : List BlockView) → KeepsBlock b m m
keeps_same b m = record { count = refl; live = refl; size = refl }

pub keeps_then : (b : ℕ) (m n o : List BlockView) → KeepsBlock b m n → KeepsBlock b n o → KeepsBlock b m o
keeps_then b m n o h k = record { count = k.count ∙ h.count; live = k.live ∙ h.live; size = k.size ∙ h.size }

pub zero_keeps : (m : List BlockView) (b k : ℕ) → b < length m → KeepsBlock b m (zero_at b k m)
zero_keeps m b k h = record {
  count = length-set _ _ _;
  live = ap (λ (x : BlockView). x.live) (block-same m b _ h);
  size = ap (λ (x : BlockView). length x.bytes) (block-same m b _ h) ∙ length-stored (block_at m b).bytes k (bytes_of (values.Int ints.UChar (pos 0)));
}

fills : (named : Bool) (b k : ℕ) (m : List BlockView) → b < length m → KeepsBlock b m (if named then m else zero_at b k m)
fills true b k m h = keeps_same b m
fills false b k m h = zero_keeps m b k h

pub fill_keeps : (named : ℕ → Bool) (b k : ℕ) (m : List BlockView) → b < length m → KeepsBlock b m (zero_byte named b k m)
fill_keeps named b k m h = fills (named k) b k m h

-- one byte more
pub one_more : (named : ℕ → Bool) (b k : ℕ) (first at new : ObjectMemory) → b < length first.blocks
    → (at ≡ with_blocks first (zeroed named b k first.blocks)) × KeepsBlock b first.blocks at.blocks → new ≡ with_blocks at (zero_byte named b k at.blocks)
    → (new ≡ with_blocks first (zeroed named b (k + 1) first.blocks)) × KeepsBlock b first.blocks new.blocks
one_more named b k first at new made h e =
    let more : suc k ≡ k + 1 = omega arith in
    let fill : KeepsBlock b at.blocks new.blocks =
    subst (λ (m : ObjectMemory). KeepsBlock b at.blocks m.blocks) (sym e) (fill_keeps named b k at.blocks (subst (λ n. b < n) (sym h.1.count) made)) in (
      e ∙ ap (λ (m : ObjectMemory). with_blocks m (zero_byte named b k m.blocks)) h.0 ∙ ap (λ n. with_blocks first (zeroed named b n first.blocks)) more,
      keeps_then b first.blocks at.blocks new.blocks h.1 fill,
    )

-- the code's pointer
pub zero_stored : (m new : List BlockView) (b k : ℕ) → k < 2 ^ 63 → new ≡ store m (record { block = b; offset = to_z w64 k }) (values.Int ints.UChar (pos 0)) →
    new ≡ zero_at b k m
zero_stored m new b k h e = e ∙ ap (λ x. store m (record { block = b; offset = x }) (values.Int ints.UChar (pos 0))) (to_z_pos w64 k h)
