-- Calls as text, one after the other.
use Rattle.std.proofs.Common.{◌≡◌, ◌++◌, ℕ, List, [], ◌∷◌, refl, ap, sym, ◌∙◌}
use Rattle.std.proofs.lemmas.List.{append_assoc}
use Rattle.std.specs.Prelude.{codes}
use Rattle.c_layout.specs.Calls.{PlacedCall}
use Rattle.report.specs.RuleText.{call_text, calls_after}

pub no_call_after : (names : List (List ℕ)) → calls_after names [] ≡ []
unfolding calls_after
no_call_after names = refl

pub call_after : (names : List (List ℕ)) (call : PlacedCall) (rest : List PlacedCall) → calls_after names (call ∷ rest) ≡ codes " > " ++ (call_text names call ++ calls_after names rest)
unfolding calls_after
call_after names call rest = refl

-- behind a text and a call stand the others
pub one_more :
    (names : List (List ℕ)) (front : List ℕ) (call : PlacedCall) (rest : List PlacedCall)
    → ((front ++ codes " > ") ++ call_text names call) ++ calls_after names rest ≡ front ++ calls_after names (call ∷ rest)
one_more names front call rest =
    append_assoc (front ++ codes " > ") (call_text names call) (calls_after names rest)
    ∙ append_assoc front (codes " > ") (call_text names call ++ calls_after names rest) ∙ ap (λ bytes. front ++ bytes) (sym (call_after names call rest))
