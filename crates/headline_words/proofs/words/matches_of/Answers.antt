use Rattle.std.proofs.Common.{ap, ap₂, refl, sym, ◌≡◌, ◌∙◌, ⊎_elim, true, subst}
use Rattle.clap.specs.Words.{IsAmong, app_of, fault_of, is_simple, is_simple_and_free, kind_of, matches_of}
use Rattle.headline_words.specs.Parser.{analyze_app}
use Rattle.headline_words.proofs.FaultLemmas.{AreTexts}
use Rattle.headline_words.proofs.FoundLemmas.{reads_words, refuses_words, strings_are_texts}
use Rattle.headline_words.proofs.words.matches_of.Goals as goal

simple_is : is_simple analyze_app ≡ true
simple_is = refl

free_is : is_simple_and_free analyze_app ≡ true
free_is = refl

pub returns-in-Ok-try_get_matches_from-clause-read : goal.returns-in-Ok-try_get_matches_from-clause-read
returns-in-Ok-try_get_matches_from-clause-read c = λ first rest e.
    let app : app_of c.in-Ok.analyze ≡ analyze_app = c.in-Ok.ensures in
    let texts = subst AreTexts e (strings_are_texts c.args.words.now) in
    let found = c.in-Ok-try_get_matches_from.ensures in
    reads_words first rest c.in-Ok-try_get_matches_from.matches texts.1 (sym (ap₂ fault_of app e) ∙ found.kinds (ap is_simple_and_free app ∙ free_is))
    ((found.matches (ap is_simple app ∙ simple_is)).0 ∙ ap₂ matches_of app e)

pub returns-in-Err-clause-usage : goal.returns-in-Err-clause-usage
returns-in-Err-clause-usage c = λ is first rest e.
    let app : app_of c.in-Ok.analyze ≡ analyze_app = c.in-Ok.ensures in
    let texts = subst AreTexts e (strings_are_texts c.args.words.now) in
    ⊎_elim (λ o. absurd (c.refusal.ensures is o))
    (λ a. refuses_words first rest (kind_of c.in-Err.error) texts.1 (subst (IsAmong (kind_of c.in-Err.error)) (ap₂ fault_of app e) a))
    (c.in-Err.ensures.kinds (ap is_simple_and_free app ∙ free_is))
