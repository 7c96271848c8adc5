-- Stretches of one byte as cells.
use Rattle.std.specs.Prelude.{ℕ, ℤ, pos, zero, suc, ◌+◌, ◌*◌, ◌<◌, true, false, []}
use Rattle.std.specs.Int.{byte_len}
use Rattle.c_syntax_written.specs.declared.int_type.IntType.{IntType}
use Rattle.c_syntax_written.specs.Integer.{std_width}
use Rattle.pointsets.specs.Targets.{Among}
use Rattle.block_mem.specs.Numbers.{number_in}
use Rattle.mem_cell_bytes.specs.declared.entry.Entry.{Entry}
use Rattle.mem_cell_bytes.specs.declared.entry.FillByte.{FillByte}
use Rattle.mem_cell_bytes.specs.declared.entry.FillByte.TheVariants as fills

-- the number of so many equal bytes
abbrev pub repeated : ℕ → ℕ → ℕ
repeated zero d = 0
repeated (suc n) d = d + 256 * repeated n d

abbrev pub IsProperFill : FillByte → Type 0
IsProperFill fills.Undef = Unit {0}
IsProperFill (fills.Num d) = d < 256

-- a cell that is made of bytes of a stretch
abbrev pub marked : FillByte → Entry → Entry
marked fills.Undef e = record e { undef = true; value = false; targets = Among [] false false }
marked (fills.Num d) e = record e { undef = false; value = true; targets = Among [] false false }

abbrev pub fill_number : FillByte → IntType → ℤ
fill_number fills.Undef t = pos 0
fill_number (fills.Num d) t = number_in t (repeated (byte_len (std_width t)) d)
