use Rattle.std.proofs.Common.{◌++◌, true, ap, ◌∙◌}
use Rattle.c_syntax.specs.Types.{object_tree}
use Rattle.report_alarms.specs.ReportText.{joined_on, sized_text}
use Rattle.report_alarms.proofs.Joins.{one_word}
use Rattle.report_alarms.proofs.sets.put_one.Goals as goal

pub returns : goal.returns
returns c = λ rest.
    let object = object_tree c.args.object.now in
    ap (λ z. z ++ joined_on true rest) (c.in_ok-put_sized.ensures ∙ ap (λ z. z ++ sized_text object) c.in_ok-put_comma.ensures)
    ∙ one_word c.args.text.now c.args.some (sized_text object) rest
