-- Each sample computes.
use Rattle.std.proofs.Common.{refl}
use Rattle.std.specs.Int.{int_wrap}
use Rattle.block_mem.specs.Pieces.{pieces}
use Rattle.block_mem.specs.Numbers.{low_bytes}
use Rattle.csharp.specs.Samples.{Ways, Calls, Failures, Others, SamplesEnd}

ways : Ways
unfolding pieces low_bytes int_wrap
ways = record { exits = refl; falls_through = refl; takes_default = refl; jumps = refl; scopes = refl; inputs = refl; memory = refl }

calls : Calls
unfolding int_wrap
calls = record { given = refl; chain = refl; nothing = refl }

failures : Failures
unfolding pieces low_bytes
failures = record {
  overflow = refl;
  negated = refl;
  quotient = refl;
  amount = refl;
  shifted = refl;
  null = refl;
  ended = refl;
  far = refl;
  outside = refl;
  askew = refl;
  written = refl;
  apart = refl;
  undefined = refl;
  broken = refl;
  asserted = refl;
}

others : Others
unfolding pieces low_bytes int_wrap
others = record {
  waits = refl;
  stops = refl;
  no_temporary = refl;
  no_address = refl;
  no_value = refl;
  no_bytes = refl;
  no_multiple = refl;
  no_life = refl;
  no_room = refl;
  no_object = refl;
  ended = refl;
  no_operand = refl;
  no_function = refl;
  clash = refl;
  no_end = refl;
  too_many = refl;
}

pub samples_end : SamplesEnd
samples_end = record { ways = ways; calls = calls; failures = failures; others = others }
