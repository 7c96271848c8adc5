-- One block (C11 6.2.4).
use Rattle.std.specs.Prelude.{ℕ, ℤ, pos, negsuc, ◌+◌, ◌%◌, Bool, true, false, not, ◌&&◌, nat_le, ◌==◌, if◌then◌else◌, List, length, replicate, Option, Some, None}
use Rattle.c_syntax.specs.declared.alarm.WrongKind.{WrongKind}
use Rattle.c_syntax.specs.declared.alarm.WrongKind.TheVariants.{Dangling, Access, Alignment, ReadOnly}
use Rattle.block_mem.specs.declared.types.Byte.{Byte}
use Rattle.block_mem.specs.declared.types.Byte.TheVariants.{Undef}

-- a block; its size is the number of its bytes
pub record BlockView : Type 0 where
  pub read_only : Bool
  pub live : Bool
  pub bytes : List Byte

-- a block that was just made
abbrev pub new_block : ℕ → Bool → BlockView
new_block size read_only = record { read_only = read_only; live = true; bytes = replicate size Undef }

-- an offset as a place in a block; a negative one is none
abbrev pub place_of : ℤ → Option ℕ
place_of (pos n) = Some n
place_of (negsuc n) = None

-- n bytes from a place on are inside a block of this size
abbrev pub is_inside : Option ℕ → ℕ → ℕ → Bool
is_inside None n size = false
is_inside (Some k) n size = nat_le (k + n) size

-- a place is a multiple of the alignment
abbrev pub is_aligned : Option ℕ → ℕ → Bool
is_aligned None align = false
is_aligned (Some k) align = k % align == 0

-- what is wrong first with an access of n bytes from an offset on, a write or not (C11 6.5.3.2, 6.3.2.3, 6.7.3)
abbrev pub wrong_in : BlockView → ℤ → ℕ → ℕ → Bool → Option WrongKind
wrong_in b offset n align write =
    if not b.live then Some Dangling else
    if not (is_inside (place_of offset) n (length b.bytes)) then Some Access else
    if not (is_aligned (place_of offset) align) then Some Alignment else
    if write && b.read_only then Some ReadOnly else None
