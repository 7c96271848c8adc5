-- Stored pointers. Piece k of a pointer at place q belongs to the pointer whose pieces 0 to 7 stand at the places q - k to q - k + 7.
use Rattle.std.specs.Prelude.{ℕ, zero, suc, ◌+◌, Bool, true, false, ◌&&◌, ◌||◌, not, nat_lt, nat_le, ◌==◌, if◌then◌else◌, List, [], ◌∷◌, length, take, drop}
use Rattle.std.specs.Ordering.{int_eq}
use Rattle.block_mem.specs.declared.types.Pointer.{Pointer}
use Rattle.block_mem.specs.declared.types.Byte.{Byte}
use Rattle.block_mem.specs.declared.types.Byte.TheVariants.{Undef, Num, Frag}

-- count pieces of a pointer from piece k on
unfoldable pub pieces : Pointer → ℕ → ℕ → List Byte
pieces p k zero = []
pieces p k (suc count) = Frag p k ∷ pieces p (suc k) count

-- a byte is piece k of the pointer
abbrev pub is_piece : Pointer → ℕ → Byte → Bool
is_piece p k Undef = false
is_piece p k (Num n) = false
is_piece p k (Frag q j) = (p.block == q.block) && int_eq p.offset q.offset && (k == j)

-- bytes are pieces of the pointer from piece k on
abbrev pub are_pieces : Pointer → ℕ → List Byte → Bool
are_pieces p k [] = true
are_pieces p k (b ∷ bs) = is_piece p k b && are_pieces p (suc k) bs

-- each byte made anew by its place, the first being at place q
abbrev pub by_place : (ℕ → Byte → Byte) → ℕ → List Byte → List Byte
by_place f q [] = []
by_place f q (b ∷ bs) = f q b ∷ by_place f (suc q) bs

-- place q is outside of the n places from `at` on, and one of the eight places of the pointer whose piece k it holds is inside
abbrev pub is_cut : ℕ → ℕ → ℕ → ℕ → Bool
is_cut at n q k = nat_lt 0 n && nat_lt k 8 && (nat_lt q at || nat_le (at + n) q) && nat_lt (at + k) (q + 8) && nat_lt q (at + n + k)

-- the byte of place q after the n bytes at `at` were overwritten: a piece that is left of a pointer of which they had a piece is Undef (this profile,
-- "pointers in parts")
abbrev pub cut_byte : ℕ → ℕ → ℕ → Byte → Byte
cut_byte at n q Undef = Undef
cut_byte at n q (Num m) = Num m
cut_byte at n q (Frag p k) = if is_cut at n q k then Undef else Frag p k

-- the bytes of a block after the n bytes at `at` were overwritten
abbrev pub cut : List Byte → ℕ → ℕ → List Byte
cut bs at n = by_place (cut_byte at n) 0 bs

-- all eight places of the pointer whose piece k place q holds are among the n places from `at` on
abbrev pub is_whole : ℕ → ℕ → ℕ → ℕ → Bool
is_whole at n q k = nat_le (at + k) q && nat_le (q + 8) (at + n + k)

-- the byte of place q as it is in a copy of the n bytes at `at`: a piece of a pointer that is not taken whole is Undef (this profile, "pointers in parts")
abbrev pub taken_byte : ℕ → ℕ → ℕ → Byte → Byte
taken_byte at n q Undef = Undef
taken_byte at n q (Num m) = Num m
taken_byte at n q (Frag p k) = if nat_lt k 8 && not (is_whole at n q k) then Undef else Frag p k

-- the n bytes at `at`
abbrev pub get_bytes : List Byte → ℕ → ℕ → List Byte
get_bytes bs at n = take n (drop at bs)

-- what a copy takes of the n bytes at `at`
abbrev pub taken : List Byte → ℕ → ℕ → List Byte
taken bs at n = by_place (taken_byte at n) at (get_bytes bs at n)

-- the bytes with new ones in place of those from `at` on
abbrev pub put_bytes : List Byte → ℕ → List Byte → List Byte
put_bytes [] at new = []
put_bytes (b ∷ bs) zero [] = b ∷ bs
put_bytes (b ∷ bs) zero (n ∷ new) = n ∷ put_bytes bs zero new
put_bytes (b ∷ bs) (suc at) new = b ∷ put_bytes bs at new

-- the bytes of a block after new ones were stored from `at` on
abbrev pub stored : List Byte → ℕ → List Byte → List Byte
stored bs at new = cut (put_bytes bs at new) at (length new)
