-- Words that are joined, one by one.
use Rattle.std.proofs.Common.{◌≡◌, ◌++◌, ◌∷◌, ◌∙◌, ℕ, Bool, true, List, []}
use Rattle.std.proofs.lemmas.List.{append_assoc, append-nil}
use Rattle.report_alarms.specs.ReportText.{comma_if, joined_on}

-- a word behind a comma, if any, joins the rest
pub one_word : (old : List ℕ) (some : Bool) (word : List ℕ) (rest : List (List ℕ))
    → ((old ++ comma_if some) ++ word) ++ joined_on true rest ≡ old ++ joined_on some (word ∷ rest)
unfolding joined_on
one_word old some word rest =
    append_assoc (old ++ comma_if some) word (joined_on true rest) ∙ append_assoc old (comma_if some) (word ++ joined_on true rest)

-- behind the last word stands nothing
pub last_word : (text : List ℕ) (some : Bool) → text ++ joined_on some [] ≡ text
unfolding joined_on
last_word text some = append-nil text

pub append_none : (words : List (List ℕ)) → words ++ [] ≡ words
append_none words = append-nil words
