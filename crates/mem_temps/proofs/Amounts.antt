-- Amounts of shifts.
use Rattle.std.proofs.Common.{◌-ℤ◌, ◌≤ℤ◌, ◌<ℤ◌, ℤ, pos, arith}
use Rattle.std.proofs.lemmas.Int.{ints}
use Rattle.c_syntax_written.specs.declared.int_type.IntType.{IntType}
use Rattle.c_syntax_written.specs.Integer.{width}
use Rattle.num_api.specs.Ranges.{InRange}
use Rattle.num_api.specs.Spans.{span, range_of}
use Rattle.mem_temps.specs.Operators.{IsAmount}

pub amount_in : (t : IntType) (k : ℤ) → IsAmount t k → InRange (range_of (span (pos 0) (pos (width t) -ℤ pos 1))) k
amount_in t k h = record { low = h.0; high = below k (pos (width t)) h.1 } where
  below : (x y : ℤ) → x <ℤ y → x ≤ℤ (y -ℤ pos 1)
  below x y h = omega (arith, ints)
