use Rattle.std.proofs.Common.{◌++◌, ◌∙◌, [], false, ap, codes, map, sym}
use Rattle.c_syntax.specs.Types.{object_tree}
use Rattle.report_alarms.specs.ReportText.{joined_on, named_from, word_if}
use Rattle.report_alarms.proofs.Joins.{append_none, last_word}
use Rattle.report_alarms.proofs.sets.put_list.Goals as goal

pub returns-clause-joins : goal.returns-clause-joins
returns-clause-joins c =
    let named = named_from c.args.set.now.names 0 (map object_tree c.args.objects.now) in
    let null = word_if c.args.set.now.null (codes "null") in
    let dead = word_if c.args.set.now.dead (codes "dead") in
    sym (last_word _ c.in_ok-_some._some)
    ∙ c.in_ok-_some.ensures []
    ∙ c.in_ok-some.ensures (dead ++ [])
    ∙ c.in_ok-is_named.ensures.joins (null ++ (dead ++ []))
    ∙ ap (λ names. c.args.text.now ++ joined_on false (named_from names 0 (map object_tree c.args.objects.now) ++ (null ++ (dead ++ [])))) c.as_slice.ensures
    ∙ ap (λ w. c.args.text.now ++ joined_on false (named ++ (null ++ w))) (append_none dead)
