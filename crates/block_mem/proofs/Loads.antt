-- What a load gives.
use Rattle.std.proofs.Common.{ℕ, ℤ, ◌≡◌, ◌+◌, ◌-◌, ◌<◌, List, length, take, drop, get_or, None, ap, ◌∙◌, arith, false, Result}
use Rattle.std.proofs.lemmas.List.{get_or_read}
use Rattle.c_syntax.specs.declared.alarm.WrongKind.{WrongKind}
use Rattle.block_mem.specs.declared.types.Byte.{Byte}
use Rattle.block_mem.specs.declared.types.Pointer.{Pointer}
use Rattle.block_mem.specs.declared.types.Scalar.{Scalar}
use Rattle.block_mem.specs.declared.types.Value.{Value}
use Rattle.block_mem.specs.Block.{BlockView, wrong_in}
use Rattle.block_mem.specs.Blocks.{no_block, block_at, place, bytes_at, loaded, after_access, wrong_access, load}
use Rattle.block_mem.specs.Bytes.{size_of}
use Rattle.block_mem.specs.Pieces.{get_bytes}

pub load_is : (m : List BlockView) (at : Pointer) (ty : Scalar) (b : BlockView) (bs : List Byte) (start size : ℕ) (o : ℤ) (r : Result Value WrongKind)
    → at.block < length m → b ≡ get_or m at.block b → bs ≡ b.bytes → o ≡ at.offset → start ≡ place at → size ≡ size_of ty
    → None ≡ wrong_in b o size size false → r ≡ loaded ty (take (start + size - start) (drop start bs)) → r ≡ load m at ty
load_is m at ty b bs start size o r made is bytes offset from count right given =
    let here : b ≡ block_at m at.block = get_or_read m at.block b made is no_block in
    let long : start + size - start ≡ size_of ty = omega (arith, count) in
    let none : None ≡ wrong_access m at (size_of ty) (size_of ty) false =
    right
    ∙ ap (λ (x : BlockView). wrong_in x o size size false) here
    ∙ ap (λ x. wrong_in (block_at m at.block) x size size false) offset
    ∙ ap (λ n. wrong_in (block_at m at.block) at.offset n n false) count in
    given
    ∙ ap (λ n. loaded ty (take n (drop start bs))) long
    ∙ ap (λ s. loaded ty (take (size_of ty) (drop s bs))) from
    ∙ ap (λ l. loaded ty (get_bytes l (place at) (size_of ty))) (bytes ∙ ap (λ (x : BlockView). x.bytes) here)
    ∙ ap (λ w. after_access w (loaded ty (bytes_at m at (size_of ty)))) none
