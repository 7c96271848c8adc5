-- A token that is refused, and the descent's end: the one tells the other.
use Rattle.std.proofs.Common.{◌≡◌, ℕ, ◌+◌, ◌<◌, Bool, true, if◌then◌else◌, List, [], ◌∷◌, ◌++◌, Some, refl, ap, ◌∙◌, subst, ◌⊎◌, inl, inr, arith}
use Rattle.std.proofs.lemmas.Bool.{cases_lt, lt-ltb, le-ltb}
use Rattle.c_syntax_written.specs.declared.construct.Construct.{Construct}
use Rattle.c_syntax_written.specs.declared.token.Placed.{Placed}
use Rattle.c_syntax_written.specs.WrittenFile.{OuterTree}
use Rattle.c_grammar.specs.Parts.{Scene, Part, Outers}
use Rattle.c_grammar.specs.Process.{give, part}
use Rattle.c_grammar.specs.Grammar.{at_start}
use Rattle.c_grammar.specs.Front.{Next, a_token, a_part, a_test, Place, StandsAt}
use Rattle.c_grammar.specs.Refused.{Why, Syntax, Unsupported, TooDeep, next_construct, forms_begun, token_construct, nesting_limit, Bears, of_token, of_read, of_place, IsDeep, is_read, opens, bears}
use Rattle.c_grammar.specs.Descent.{Outcome, barred, Goes}
use Rattle.c_grammar.proofs.Table.{Table}
use Rattle.c_grammar.proofs.Tails.{Past, past_same, past_back, past_tail}
use Rattle.c_grammar.proofs.Steps.{End, finishes, halts, end_of, Early}
use Rattle.c_grammar.proofs.Places.{ReadsAt}
use Rattle.c_grammar.proofs.Asks.{ask_place, ask_token, ask_construct, ask_bracket, end_rest, TokenAnswer}
use Rattle.c_grammar.proofs.Stops.{Reason, for_syntax, for_depth, for_bracket, for_place_depth, for_construct, for_read, for_place}
use Rattle.c_grammar.proofs.Whole.{judge}

-- the descent over a file from its start
abbrev pub Runs : List Placed → Outcome (List OuterTree) → Type 0
Runs tokens o = Goes 0 at_start (Outers []) tokens o

abbrev placed : Scene → ℕ → Next → Bool → Place
placed w m x b = record { scene = w; count = m; next = x; begun = b }

-- what a reason says of the first token
abbrev pub Says : List Placed → List Placed → Why → Type 0
Says front [] Syntax = Unit {0}
Says front [] (Unsupported c) = ⊥
Says front [] TooDeep = ⊥
Says front (t ∷ rest) Syntax = Unit {0}
Says front (t ∷ rest) (Unsupported c) = Bears front t rest c
Says front (t ∷ rest) TooDeep = IsDeep front t rest

says_syntax : (front rest : List Placed) → Says front rest Syntax
says_syntax front [] = tt
says_syntax front (t ∷ rest) = tt

reason_says : (front : List Placed) {w : Scene} {x : Next} {b : Bool} {m : ℕ} {rest : List Placed} {why : Why} → Reason w x b m rest why → StandsAt (front ++ rest) rest (placed w m x b) → Says front rest why
reason_says front (for_syntax {ts = ts}) s = says_syntax front ts
reason_says front (for_depth {w} {n} {c} {b} {m} f l) s = is_read (placed w m (a_token n c) b) n c s refl f l
reason_says front (for_bracket {w} {x} {m} h e l) s = opens (placed w m x true) s (refl, h) e l
reason_says front (for_place_depth {w} {i} {b} {m} {c = c} e l) s = bears (placed w m (a_part i) b) c s e l
reason_says front (for_construct {w} {x} {m} h e) s = of_token (placed w m x true) s (refl, h) e
reason_says front (for_read {w} {n} {k} {b} {m} f e) s = of_read (placed w m (a_token n k) b) n k s refl f e
reason_says front (for_place {w} {i} {b} {m} e) s = of_place (placed w m (a_part i) b) s e

pub stop_says : (front : List Placed) {rest : List Placed} {why : Why} (at : Place) (m : ℕ) → m ≡ 0 + at.count → Reason at.scene at.next at.begun m rest why → StandsAt (front ++ rest) rest at → Says front rest why
stop_says front {rest} {why} at m e r s =
    let f : m ≡ at.count = omega arith in
    reason_says front (subst (λ z. Reason at.scene at.next at.begun z rest why) f r) s

-- it stopped before, or here as too deep
abbrev pub DeepEnd : List Placed → End → Type 0
DeepEnd ts e = Early ts e ⊎ (e ≡ halts TooDeep ts)

answer_deep : (w : Scene) (n m : ℕ) {ts : List Placed} {e : End} → Early ts e ⊎ TokenAnswer w n m ts e → nesting_limit < m + n → DeepEnd ts e
answer_deep w n m (inl x) l = inl x
answer_deep w n m (inr (inl e)) l = inr e
answer_deep w n m (inr (inr (k, x))) l = absurd (omega arith)

stands_at : {ts rest : List Placed} {w : Scene} {m : ℕ} {x y : Next} {b c : Bool} → x ≡ y → b ≡ c → StandsAt ts rest (placed w m x b) → StandsAt ts rest (placed w m y c)
stands_at {ts} {rest} {w} {m} {x} {y} {b} {c} e f s = subst (λ z. StandsAt ts rest (placed w m y z)) f (subst (λ z. StandsAt ts rest (placed w m z b)) e s)

deep_bears : (table : Table) {ts : List Placed} {o : Outcome (List OuterTree)} (w : Scene) (m : ℕ) (x : Next) (b : Bool) (c : Construct) (t : Placed) (r : List Placed) → Runs ts o → StandsAt ts (t ∷ r) (placed w m x b) → next_construct w x (t ∷ r) ≡ Some c → nesting_limit < m + forms_begun x t.token → DeepEnd (t ∷ r) (end_of o)
deep_bears table w m (a_token n k) b c t r g s e l = absurd cc
deep_bears table w m a_test b c t r g s e l = absurd cc
deep_bears table w m (a_part i) b c t r g s e l = elim (judge table g s (ask_place e)) [ inl x ↦ inl x | inr y ↦ inr (y ∙ ap (λ z. halts (if z then TooDeep else Unsupported c) (t ∷ r)) (lt-ltb nesting_limit (m + forms_begun (a_part i) t.token) l)) ]

pub deep_end : (table : Table) {front : List Placed} {t : Placed} {r : List Placed} {o : Outcome (List OuterTree)} → Runs (front ++ t ∷ r) o → IsDeep front t r → DeepEnd (t ∷ r) (end_of o)
deep_end table g (is_read at n c s e f l) = answer_deep at.scene n at.count (judge table g (stands_at {b = at.begun} e refl s) (ask_token f)) l
deep_end table g (opens at s h e l) = judge table g (stands_at {x = at.next} refl h.0 s) (ask_bracket h.1 e l)
deep_end table {t = t} {r = r} g (bears at c s e l) = deep_bears table at.scene at.count at.next at.begun c t r g s e l

-- it stopped before, or here, as too deep or for the construct
abbrev pub BorneEnd : Construct → List Placed → End → Type 0
BorneEnd c ts e = DeepEnd ts e ⊎ (e ≡ halts (Unsupported c) ts)

answer_borne : (w : Scene) (n m : ℕ) {c : Construct} {t : Placed} {r : List Placed} {e : End} → Early (t ∷ r) e ⊎ TokenAnswer w n m (t ∷ r) e → token_construct w t.token ≡ Some c → BorneEnd c (t ∷ r) e
answer_borne w n m (inl x) h = inl (inl x)
answer_borne w n m (inr (inl e)) h = inl (inr e)
answer_borne w n m {c = c} (inr (inr (k, inl (x, y)))) h = absurd (y c h)
answer_borne w n m {c = c} {t = t} {r = r} (inr (inr (k, inr (b, e, y)))) h = inr (e ∙ ap (λ z. halts (Unsupported z) (t ∷ r)) (y c h))

place_borne : (d : ℕ) (i : Part) (c : Construct) (t : Placed) (r : List Placed) (e : End) → e ≡ halts (barred i d c (t ∷ r)) (t ∷ r) → BorneEnd c (t ∷ r) e
place_borne d i c t r e h =
    elim (cases_lt nesting_limit (d + forms_begun (a_part i) t.token)) [
      | inl l ↦ inl (inr (h ∙ ap (λ z. halts (if z then TooDeep else Unsupported c) (t ∷ r)) (lt-ltb nesting_limit (d + forms_begun (a_part i) t.token) l)))
      | inr l ↦ inr (h ∙ ap (λ z. halts (if z then TooDeep else Unsupported c) (t ∷ r)) (le-ltb nesting_limit (d + forms_begun (a_part i) t.token) l))
    ]

borne_bears : (table : Table) {ts : List Placed} {o : Outcome (List OuterTree)} (w : Scene) (m : ℕ) (x : Next) (b : Bool) (c : Construct) (t : Placed) (r : List Placed) → Runs ts o → StandsAt ts (t ∷ r) (placed w m x b) → next_construct w x (t ∷ r) ≡ Some c → BorneEnd c (t ∷ r) (end_of o)
borne_bears table w m (a_token n k) b c t r g s e = absurd cc
borne_bears table w m a_test b c t r g s e = absurd cc
borne_bears table {o = o} w m (a_part i) b c t r g s e = elim (judge table g s (ask_place e)) [ inl x ↦ inl (inl x) | inr y ↦ place_borne m i c t r (end_of o) y ]

construct_borne : {c : Construct} {ts : List Placed} {e : End} → Early ts e ⊎ ((e ≡ halts TooDeep ts) ⊎ (e ≡ halts (Unsupported c) ts)) → BorneEnd c ts e
construct_borne (inl x) = inl (inl x)
construct_borne (inr (inl e)) = inl (inr e)
construct_borne (inr (inr e)) = inr e

pub borne_end : (table : Table) {front : List Placed} {t : Placed} {r : List Placed} {c : Construct} {o : Outcome (List OuterTree)} → Runs (front ++ t ∷ r) o → Bears front t r c → BorneEnd c (t ∷ r) (end_of o)
borne_end table {c = c} g (of_token at s h e) = construct_borne (judge table g (stands_at {x = at.next} refl h.0 s) (ask_construct c h.1 e))
borne_end table g (of_read at n k s i f e) = answer_borne at.scene n at.count (judge table g (stands_at {b = at.begun} i refl s) (ask_token f)) e
borne_end table {t = t} {r = r} {c = c} g (of_place at s e) = borne_bears table at.scene at.count at.next at.begun c t r g s e

pub early_past : {ts : List Placed} (e : End) → Early ts e → Past (end_rest e) ts → ⊥
early_past (finishes r) x y = x
early_past (halts why r) x y = past_back x (past_tail y)

pub end_past : {ts : List Placed} {e : End} (why : Why) → e ≡ halts why ts → Past (end_rest e) ts → ⊥
end_past why e x = past_same x (ap (λ z. end_rest z) e)

answer_read : (w : Scene) (n m : ℕ) {ts : List Placed} {e : End} → Early ts e ⊎ TokenAnswer w n m ts e → e ≡ halts Syntax ts → ⊥
answer_read w n m {ts = ts} (inl x) h = past_same (subst (λ z. Early ts z) h x) refl
answer_read w n m (inr (inl e)) h = absurd cc
answer_read w n m {ts = ts} (inr (inr (k, inl (x, y)))) h = past_same (subst (λ z. Past (end_rest z) ts) h x) refl
answer_read w n m (inr (inr (k, inr (b, e, y)))) h = absurd cc

-- where a token is read the descent does not stop for syntax
pub read_end : (table : Table) {ts : List Placed} {t : Placed} {r : List Placed} {o : Outcome (List OuterTree)} → Runs ts o → ReadsAt true at_start (Outers []) (part 0 at_start (Outers []) give) ts t r → end_of o ≡ halts Syntax (t ∷ r) → ⊥
read_end table g i h = let at = i.at in answer_read at.scene i.forms at.count (judge table g (stands_at {b = at.begun} i.next refl i.reads) (ask_token i.fits)) h
