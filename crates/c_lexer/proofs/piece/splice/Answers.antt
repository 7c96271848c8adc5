use Rattle.std.proofs.Common.{refl, arith}
use Rattle.c_lexer.proofs.PieceLemmas.{splice_piece, long_splice_piece, lone_piece}
use Rattle.c_lexer.proofs.piece.splice.Goals as goal
use Rattle.c_lexer.proofs.piece.splice.Goals.{else-holds-2-via-then-holds-2+else-holds-3, else-holds-2-via-else-holds-2}

pub returns-then-holds : goal.returns-then-holds
returns-then-holds c = let h = c.if-holds.ensures.0 refl in splice_piece c.args.bytes.now (omega (arith, h.0)) c.requires.first h.1

pub returns-then-holds-3 : goal.returns-then-holds-3
returns-then-holds-3 c = let h = c.if-holds-2.ensures.0 refl in let k = c.if-holds-3.ensures.0 refl in long_splice_piece c.args.bytes.now (omega (arith, k.0)) c.requires.first h.1 k.1

pub returns-else-holds-2 : goal.returns-else-holds-2
returns-else-holds-2 c =
    lone_piece c.args.bytes.now c.requires.some c.requires.first
    (λ l e. let f = c.if-holds.ensures.1 (omega arith, e) in absurd (cc))
    (λ l e g. elim c.else-holds-2.branch [
      | else-holds-2-via-then-holds-2+else-holds-3 w ↦ (let f = w.if-holds-3.ensures.1 (omega arith, g) in absurd (cc))
      | else-holds-2-via-else-holds-2 w ↦ (let f = w.if-holds-2.ensures.1 (omega arith, e) in absurd (cc))
    ])
