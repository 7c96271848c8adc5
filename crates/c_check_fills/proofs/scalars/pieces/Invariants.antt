use Rattle.std.proofs.Common.{◌≡◌, ◌-◌, ◌++◌}
use Rattle.c_typing.specs.Inits.{piece_bytes}
use Rattle.c_check_fills.proofs.scalars.pieces.Given as goal

-- what is left makes the whole
abbrev pub invariant-loop-k : goal.invariant-loop-k
invariant-loop-k l = l.bytes.items ++ piece_bytes l.object l.offset l.k (8 - l.k) ≡ piece_bytes l.fn.object l.fn.offset 0 8
