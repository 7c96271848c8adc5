use Rattle.std.proofs.Common.{◌≡◌, ◌≢◌, take, refl, sym, subst}
use Rattle.std.specs.Prelude.{MatchOption}
use Rattle.c_syntax_written.specs.declared.token.Keyword.{Keyword}
use Rattle.c_lexer.specs.Spelling.{keyword_text}
use Rattle.c_lexer.specs.declared.reason.Reason.TheVariants as reasons
use Rattle.c_lexer.specs.declared.piece.Piece.TheVariants as pieces
use Rattle.c_lexer.proofs.PieceLemmas.{word_piece, prefix_piece, run_word, prefix_at}
use Rattle.c_lexer.proofs.Stretches.{word_token}
use Rattle.c_lexer.proofs.stretch.word_stretch.Goals as goal

pub returns-then-is_prefix : goal.returns-then-is_prefix
returns-then-is_prefix c = (
  pieces.Refused reasons.BadEscape 0,
  prefix_piece c.args.bytes.now c.word_len-n.result c.requires.some c.requires.first c.word_len-n.ensures (prefix_at _ _ _ _ c.split_at.ensures.front c.split_at.ensures.back (c.if-is_prefix.ensures.0 refl)),
  refl,
)

pub returns : goal.returns
returns c =
    let w = run_word c.args.bytes.now c.word_len-n.result c.requires.some c.requires.first c.word_len-n.ensures in
    let k = subst (λ s. MatchOption c.keyword-keyword.result ((k : Keyword) → s ≢ keyword_text k) (λ k. s ≡ keyword_text k)) c.split_at.ensures.front c.keyword-keyword.ensures in
    let t = word_token (take c.word_len-n.result c.args.bytes.now) c.keyword-keyword.result w k in (
      pieces.Token t.0 c.word_len-n.result,
      word_piece c.args.bytes.now c.word_len-n.result t.0 c.requires.some c.requires.first c.word_len-n.ensures t.1
          (λ p. let f = c.if-is_prefix.ensures.1 (prefix_at _ _ _ _ (sym c.split_at.ensures.front) (sym c.split_at.ensures.back) p) in absurd (cc)),
      refl,
    )
