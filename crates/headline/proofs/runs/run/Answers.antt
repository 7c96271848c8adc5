use Rattle.std.proofs.Common.{rules, ap, ◌≡◌, ◌∙◌, ◌<◌, List, ℕ, Some, length, subst}
use Rattle.headline_words.specs.Command.{Asked, texts}
use Rattle.headline_words.specs.Told.{asked_for}
use Rattle.headline.specs.Headline.{IsAnswer}
use Rattle.headline.proofs.HeadlineLemmas.{same_asked}
use Rattle.headline.proofs.runs.run.Goals as goal

pub returns-in-Err-TooLarge-clause-prefix : goal.returns-in-Err-TooLarge-clause-prefix
returns-in-Err-TooLarge-clause-prefix g c = λ e asked bytes before named told wrote.
    let same : asked_for c.in-Ok.asked ≡ asked = same_asked (texts c.args.words.now.items) (asked_for c.in-Ok.asked) asked c.in-Ok.ensures.found named in
    let told_here : g.F.Files.told c.args.files.now c.in-Ok.asked.file.now ≡ Some bytes = ap (λ (a : Asked). g.F.Files.told c.args.files.now a.file) same ∙ told in
    let large : 4194304 < length bytes = search (rules, c.read_all.ensures.too_large) in
    let answer = c.in-Ok-too_large.ensures.answer bytes large in
    let cut = c.finish.ensures.cut e before wrote in
    (c.in-Ok-too_large.answer.0, c.in-Ok-too_large.answer.1.items, cut.0, subst (λ (a : Asked). IsAnswer a bytes c.in-Ok-too_large.answer.0 c.in-Ok-too_large.answer.1.items) same answer, search rules, cut.2)
