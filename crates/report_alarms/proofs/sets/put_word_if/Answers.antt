use Rattle.std.proofs.Common.{◌++◌, true, ap, sym, ◌∙◌}
use Rattle.report_alarms.specs.ReportText.{joined_on, word_if}
use Rattle.report_alarms.proofs.Joins.{one_word}
use Rattle.report_alarms.proofs.sets.put_word_if.Goals as goal

pub returns-then-is_there : goal.returns-then-is_there
returns-then-is_there c = λ rest.
    ap (λ z. z ++ joined_on true rest) (c.in_ok-word.ensures ∙ ap (λ z. z ++ c.args.word.now) c.in_ok-put_comma.ensures)
    ∙ one_word c.args.text.now c.args.some c.args.word.now rest
    ∙ ap (λ b. c.args.text.now ++ joined_on c.args.some (word_if b c.args.word.now ++ rest)) (sym c.if-is_there.true)
