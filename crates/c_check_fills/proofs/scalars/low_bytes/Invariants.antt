use Rattle.std.proofs.Common.{◌≡◌, ◌-◌, ◌++◌, map}
use Rattle.block_mem.specs.Numbers.{low_bytes}
use Rattle.c_typing.specs.Inits.{number_byte}
use Rattle.c_check_fills.proofs.scalars.low_bytes.Given as goal

-- what is left makes the whole
abbrev pub invariant-each : goal.invariant-each
invariant-each l = l.bytes.items ++ map number_byte (low_bytes (l.fn.count - l.counter) l.rest) ≡ map number_byte (low_bytes l.fn.count l.fn.bits)
