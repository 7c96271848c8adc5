use Rattle.std.proofs.Common.{◌≤◌, length, sym, ap, ◌∙◌, arith}
use Rattle.std.proofs.lemmas.Grind.{common_steps}
use Rattle.c_lexer.specs.Spelling.{byte_of, digits_of, octal_digits}
use Rattle.c_lexer.proofs.DigitLemmas.{digits_short}
use Rattle.c_lexer.proofs.LiteralLemmas.{hex_value}
use Rattle.c_lexer.proofs.literal.escape.Goals as goal

pub returns-then-bytes-eq120-clause-within : goal.returns-then-bytes-eq120-clause-within
returns-then-bytes-eq120-clause-within c = omega (arith, digits_short 16 c.split_at.result.1.now, ap length c.digits_of-digits.ensures, c.split_at.ensures.back_len, c.requires)

pub returns-then-bytes-eq120-clause-value : goal.returns-then-bytes-eq120-clause-value
returns-then-bytes-eq120-clause-value c =
    let none : length (octal_digits c.args.bytes.now) ≤ 0 = grind (arith, common_steps) in
    c.byte_of-then-bytes-eq120.ensures ∙ ap (byte_of 16) (c.digits_of-digits.ensures ∙ ap (digits_of 16) c.split_at.ensures.back) ∙ sym (hex_value c.args.bytes.now none c.if-bytes-eq120.true)
