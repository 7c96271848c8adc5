use Rattle.std.proofs.Common.{◌≡◌, ◌+◌, ◌≤◌, drop}
use Rattle.c_lexer.specs.Cut.{moved_of}
use Rattle.c_lexer.proofs.place.moved.Given as goal

abbrev pub invariant-loop-b : goal.invariant-loop-b
invariant-loop-b l = (moved_of l.at (drop l.b-index l.bytes) ≡ moved_of l.fn.from l.bytes) × (l.at.line ≤ l.fn.from.line + l.b-index) × (l.at.col ≤ l.fn.from.col + l.b-index)
