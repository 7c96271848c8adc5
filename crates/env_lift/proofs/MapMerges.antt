-- Passes over two lists, entry by entry.
use Rattle.std.proofs.Common.{arith, ℕ, ◌≡◌, ◌<◌, ◌≤◌, Bool, true, false, List, [], ◌∷◌, ◌++◌, Option, Some, None, refl, sym, subst, ap, ◌∙◌}
use Rattle.std.specs.Prelude.{◌&&◌, All, get_or}
use Rattle.std.proofs.lemmas.List.{append_assoc, append-nil}
use Rattle.std.proofs.lemmas.List.Elements.{All-head, All-tail, All-cons, All-append, All-nil}
use Rattle.env_lift.specs.declared.entries.Entry.{Entry}
use Rattle.env_lift.specs.Entries.{entry, value_in, AreAbove, IsRising}
use Rattle.env_lift.specs.Passes.{Puts, IsMerged, IsMet, AllMet, is_met, all_met}

-- the variables' values in the rest of a list are those in the whole
abbrev pub AreSame : {T : Type 0} → List (Entry T) → List (Entry T) → List (Entry T) → Type 0
AreSame rest whole es = All (λ e. value_in rest e.var.0 ≡ value_in whole e.var.0) es

-- ---- what is put out rises

above_put : {T : Type 0} (P : T → T → T → Type 0) (x : ℕ) (e : Entry T) (found : Option T) (put : List (Entry T)) → x < e.var.0 → Puts P e found put → AreAbove x put
above_put P x e None put l h = subst (AreAbove x) (sym h) (All-nil (λ d. x < d.var.0))
above_put P x e (Some b) put l h = subst (AreAbove x) (sym h.2) (All-cons (λ d. x < d.var.0) (entry e.var h.0) [] l (All-nil (λ d. x < d.var.0)))

above_merged : {T : Type 0} (P : T → T → T → Type 0) (x : ℕ) (es others merged : List (Entry T)) → AreAbove x es → IsMerged P es others merged → AreAbove x merged
above_merged P x [] others merged h m = subst (AreAbove x) (sym m) (All-nil (λ d. x < d.var.0))
above_merged P x (e ∷ es) others merged h m =
    let head : x < e.var.0 = All-head (λ d. x < d.var.0) e es h in
    let first = above_put P x e (value_in others e.var.0) m.0 head m.2 in
    let rest = above_merged P x es others m.1 (All-tail (λ d. x < d.var.0) e es h) m.3 in
    subst (AreAbove x) (sym m.4) (All-append (λ d. x < d.var.0) m.0 m.1 first rest)

rising_put : {T : Type 0} (P : T → T → T → Type 0) (e : Entry T) (found : Option T) (put rest : List (Entry T)) → Puts P e found put → AreAbove e.var.0 rest → IsRising rest → IsRising (put ++ rest)
rising_put P e None put rest h a r = subst (λ (l : List (Entry _)). IsRising (l ++ rest)) (sym h) r
rising_put {T} P e (Some b) put rest h a r = subst (λ (l : List (Entry T)). IsRising (l ++ rest)) (sym h.2) (a, r)

pub rising_merged : {T : Type 0} (P : T → T → T → Type 0) (es others merged : List (Entry T)) → IsRising es → IsMerged P es others merged → IsRising merged
rising_merged P [] others merged r m = subst IsRising (sym m) tt
rising_merged P (e ∷ es) others merged r m =
    let rest = rising_merged P es others m.1 r.1 m.3 in
    subst IsRising (sym m.4) (rising_put P e (value_in others e.var.0) m.0 m.1 m.2 (above_merged P e.var.0 es others m.1 r.0 m.3) rest)

-- ---- one entry on

pub next_same : {T : Type 0} (rest next others : List (Entry T)) (e : Entry T) (left : List (Entry T)) → IsRising (e ∷ left) → AreSame rest others (e ∷ left) → ((y : ℕ) → e.var.0 ≤ y → value_in next y ≡ value_in rest y) → AreSame next others left
next_same rest next others e left r same moved k d l =
    let above : e.var.0 < (get_or left k d).var.0 = r.0 k d l in
    moved (get_or left k d).var.0 (omega arith) ∙ All-tail (λ c. value_in rest c.var.0 ≡ value_in others c.var.0) e left same k d l

pub found_here : {T : Type 0} (rest next others : List (Entry T)) (e : Entry T) (left : List (Entry T)) → AreSame rest others (e ∷ left) → ((y : ℕ) → e.var.0 ≤ y → value_in next y ≡ value_in rest y) → value_in next e.var.0 ≡ value_in others e.var.0
found_here rest next others e left same moved = moved e.var.0 (omega arith) ∙ All-head (λ c. value_in rest c.var.0 ≡ value_in others c.var.0) e left same

pub merged_step : {T : Type 0} (P : T → T → T → Type 0) (e : Entry T) (left others whole out put more : List (Entry T)) (found : Option T) → found ≡ value_in others e.var.0 → Puts P e found put → ((l : List (Entry T)) → IsMerged P (e ∷ left) others l → IsMerged P whole others (out ++ l)) → IsMerged P left others more → IsMerged P whole others ((out ++ put) ++ more)
merged_step {T} P e left others whole out put more found is puts so_far m =
    let here = subst (λ (o : Option T). Puts P e o put) is puts in
    subst (IsMerged P whole others) (sym (append_assoc out put more)) (so_far (put ++ more) (put, more, here, m, refl))

pub merged_end : {T : Type 0} (P : T → T → T → Type 0) (left others whole out : List (Entry T)) → left ≡ [] → ((l : List (Entry T)) → IsMerged P left others l → IsMerged P whole others (out ++ l)) → IsMerged P whole others out
merged_end {T} P left others whole out e so_far = subst (IsMerged P whole others) (append-nil out) (so_far [] (subst (λ (l : List (Entry T)). IsMerged P l others []) (sym e) refl))

pub test_step : {T : Type 0} (t : T → T → Bool) (e : Entry T) (left others : List (Entry T)) (found : Option T) → found ≡ value_in others e.var.0 → is_met t e.value found ≡ true → all_met t (e ∷ left) others ≡ all_met t left others
test_step {T} t e left others found is h =
    let here : is_met t e.value (value_in others e.var.0) ≡ true = subst (λ (o : Option T). is_met t e.value o ≡ true) is h in
    ap (λ (b : Bool). b && all_met t left others) here

pub test_fails : {T : Type 0} (t : T → T → Bool) (e : Entry T) (left others : List (Entry T)) (found : Option T) → found ≡ value_in others e.var.0 → is_met t e.value found ≡ false → all_met t (e ∷ left) others ≡ false
test_fails {T} t e left others found is h =
    let here : is_met t e.value (value_in others e.var.0) ≡ false = subst (λ (o : Option T). is_met t e.value o ≡ false) is h in
    ap (λ (b : Bool). b && all_met t left others) here

pub met_step : {T : Type 0} (R : T → T → Type 0) (e : Entry T) (left others : List (Entry T)) (found : Option T) → found ≡ value_in others e.var.0 → IsMet R e.value found → AllMet R left others → AllMet R (e ∷ left) others
met_step {T} R e left others found is h rest = (subst (IsMet R e.value) is h, rest)
