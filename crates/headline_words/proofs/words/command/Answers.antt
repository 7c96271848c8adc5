use Rattle.std.proofs.Common.{rules, ◌≡◌, ◌∙◌, None, codes, string_bytes}
use Rattle.std.proofs.lemmas.Result.{IfErr-weaker, IfOk-weaker}
use Rattle.headline_words.specs.Command.{parts_of}
use Rattle.headline_words.proofs.CommandLemmas.{IsLine, asked_is, found_by, line_of, none_by}
use Rattle.headline_words.proofs.words.command.Goals as goal

pub returns-in-Ok-clause-found : goal.returns-in-Ok-clause-found
returns-in-Ok-clause-found c =
    let word : string_bytes c.word-item.result ≡ codes "analyze" = search rules in
    let items = c.args.words.now.items in
    let line : IsLine items = line_of items c.word-item.result (rw c.as_slice.ensures.value at c.in-len2-up.len_at_least)
    (rw c.as_slice.ensures.value at c.word-item.is) word in
    let read = rw c.as_slice-2.ensures.value at c.in-Ok.ensures.read in
    IfOk-weaker c.asked_of.result _ _
    (λ a h. asked_is items line ∙ found_by (parts_of None line.rest) c.in-Ok.matches _ (read (codes "analyze") line.rest line.tail) h) c.asked_of.ensures.found

pub returns-in-Ok-clause-usage : goal.returns-in-Ok-clause-usage
returns-in-Ok-clause-usage c =
    let word : string_bytes c.word-item.result ≡ codes "analyze" = search rules in
    let items = c.args.words.now.items in
    let line : IsLine items = line_of items c.word-item.result (rw c.as_slice.ensures.value at c.in-len2-up.len_at_least)
    (rw c.as_slice.ensures.value at c.word-item.is) word in
    let read = rw c.as_slice-2.ensures.value at c.in-Ok.ensures.read in
    IfErr-weaker c.asked_of.result _ _
    (λ e h is. asked_is items line ∙ none_by (parts_of None line.rest) c.in-Ok.matches (read (codes "analyze") line.rest line.tail) h) c.asked_of.ensures.usage
