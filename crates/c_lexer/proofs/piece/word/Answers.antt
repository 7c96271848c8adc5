use Rattle.std.proofs.Common.{sym, refl, subst}
use Rattle.c_lexer.specs.Cut.{IsToken, IsWord}
use Rattle.c_lexer.proofs.PieceLemmas.{word_piece, prefix_piece, run_word, prefix_at}
use Rattle.c_lexer.proofs.piece.word.Goals as goal

pub word_token-requires : goal.word_token-requires
word_token-requires c = subst IsWord (sym c.split_at.ensures.front) (run_word c.args.bytes.now c.word_len-n.result c.requires.some c.requires.first c.word_len-n.ensures)

pub returns-then-is_prefix : goal.returns-then-is_prefix
returns-then-is_prefix c =
    prefix_piece c.args.bytes.now c.word_len-n.result c.requires.some c.requires.first c.word_len-n.ensures (prefix_at _ _ _ _ c.split_at.ensures.front c.split_at.ensures.back (c.if-is_prefix.ensures.0 refl))

pub returns : goal.returns
returns c =
    word_piece c.args.bytes.now c.word_len-n.result c.in_ok-token.token c.requires.some c.requires.first c.word_len-n.ensures (subst (λ v. IsToken v c.in_ok-token.token) c.split_at.ensures.front c.in_ok-token.ensures)
    (λ p. let f = c.if-is_prefix.ensures.1 (prefix_at _ _ _ _ (sym c.split_at.ensures.front) (sym c.split_at.ensures.back) p) in absurd (cc))
