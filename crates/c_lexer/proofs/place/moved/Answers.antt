use Rattle.std.proofs.Common.{◌+◌, drop, sym, ap, ◌∙◌, arith}
use Rattle.c_lexer.specs.Cut.{moved_of}
use Rattle.c_lexer.proofs.Moves.{moved_drop, moved_end}
use Rattle.c_lexer.proofs.place.moved.Goals as goal

pub loop-b-preserved : goal.loop-b-preserved
loop-b-preserved c =
    ((ap (λ p. moved_of p (drop (c.loop-b.b-index + 1) c.args.bytes.now)) c.stepped-at.ensures.is ∙ moved_drop c.loop-b.at c.args.bytes.now c.loop-b.b-index (omega arith) ∙ c.loop-b.invariant.0), omega arith, omega arith)

pub returns-clause-is : goal.returns-clause-is
returns-clause-is c = sym (moved_end c.loop-b.at c.args.bytes.now c.loop-b.b-index (omega arith)) ∙ c.loop-b.invariant.0
