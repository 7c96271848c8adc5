-- One word after another, and the end.
use Rattle.std.proofs.Common.{◌≡◌, refl, sym, ap, ap₂, subst, ◌∙◌, ℕ, Bool, true, false, List, [], ◌∷◌, ◌++◌, map}
use Rattle.std.proofs.Common.{Option, Some, None, codes}
use Rattle.std.specs.Prelude.{◌||◌, if◌then◌else◌, fold}
use Rattle.clap.specs.Walk.{Row, Held, Walk, idle, option, has_row, Text, settled, finished, walked, with_default, with_values}
use Rattle.clap.specs.Faults.{settle_fault, walk_fault, turn_fault, defaults_fault, default_fault, check_fault}
use Rattle.clap.specs.Kinds.{Kinds, or_else}
use Rattle.clap.specs.declared.parser.matches.ValueSource.TheVariants.{DefaultValue}
use Rattle.headline_words.specs.Command.{Key, unroll, narrow, ramp, Part, value, file}
use Rattle.headline_words.proofs.WordLemmas.{shape, its, name_of, rule}
use Rattle.headline_words.proofs.RowLemmas.{row_of, stands, has_row_is, used_value, used_file, flag_reading}

abbrev pub Fails : Kinds → Type 0
Fails kinds = kinds ≡ [] → ⊥

-- a part whose argument is still open: clap uses it when the next one comes
pub data Open : Type 0 where
  closed : Open
  of_key : Key → Text → Open
  of_file : Text → Open

abbrev pub opened : Open → List Part
opened closed = []
opened (of_key k v) = value k v ∷ []
opened (of_file w) = file w ∷ []

abbrev pub pending : Open → Option (Text × List Text)
pending closed = None
pending (of_key k v) = Some (name_of k, v ∷ [])
pending (of_file w) = Some (codes "file", w ∷ [])

abbrev pub again : Open → List Part → Bool
again closed done = false
again (of_key k v) done = stands (value k v) done
again (of_file w) done = stands (file w) done

abbrev pub held : List Part → Option (Text × List Text) → Held
held done p = record { rows = map row_of done; pending = p; skip = 0 }

-- where clap is behind these parts
abbrev pub idle_at : List Part → Open → ℕ → Bool → Walk
idle_at done own place trailing = record { held = held done (pending own); waiting = idle; position = place; is_trailing = trailing; stopped = None }

-- the same, where an option waits for its value
abbrev pub waits_at : List Part → Key → ℕ → Bool → Walk
waits_at done k place trailing =
    record { held = held done (Some (name_of k, [])); waiting = option (name_of k); position = place; is_trailing = trailing; stopped = None }

-- ---- the open part

pub append_none : (xs : List Part) → xs ++ [] ≡ xs
append_none [] = refl
append_none (x ∷ xs) = ap (λ ys. x ∷ ys) (append_none xs)

pub settle_new : (done : List Part) (own : Open) → again own done ≡ false → settle_fault its false (held done (pending own)) ≡ []
settle_new done closed h = refl
settle_new done (of_key unroll v) h = rw (has_row_is (value unroll v) done, h) refl
settle_new done (of_key narrow v) h = rw (has_row_is (value narrow v) done, h) refl
settle_new done (of_key ramp v) h = rw (has_row_is (value ramp v) done, h) refl
settle_new done (of_file w) h = rw (has_row_is (file w) done, h) refl

pub settle_again : (done : List Part) (own : Open) → again own done ≡ true → Fails (settle_fault its false (held done (pending own)))
settle_again done closed h = absurd (cc)
settle_again done (of_key unroll v) h = rw (has_row_is (value unroll v) done, h) (λ e. absurd (cc))
settle_again done (of_key narrow v) h = rw (has_row_is (value narrow v) done, h) (λ e. absurd (cc))
settle_again done (of_key ramp v) h = rw (has_row_is (value ramp v) done, h) (λ e. absurd (cc))
settle_again done (of_file w) h = rw (has_row_is (file w) done, h) (λ e. absurd (cc))

pub settled_new : (done : List Part) (own : Open) → again own done ≡ false → settled its (held done (pending own)) ≡ held (done ++ opened own) None
settled_new done closed h = ap (λ xs. held xs None) (sym (append_none done))
settled_new done (of_key unroll v) h = ap (λ (rs : List Row). record { rows = rs; pending = None; skip = 0 }) (used_value done unroll v h)
settled_new done (of_key narrow v) h = ap (λ (rs : List Row). record { rows = rs; pending = None; skip = 0 }) (used_value done narrow v h)
settled_new done (of_key ramp v) h = ap (λ (rs : List Row). record { rows = rs; pending = None; skip = 0 }) (used_value done ramp v h)
settled_new done (of_file w) h = ap (λ (rs : List Row). record { rows = rs; pending = None; skip = 0 }) (used_file done w h)

pub waits_fails : (done : List Part) (k : Key) → Fails (settle_fault its false (held done (Some (name_of k, []))))
waits_fails done unroll e = absurd (cc)
waits_fails done narrow e = absurd (cc)
waits_fails done ramp e = absurd (cc)

-- ---- the end

-- where `--state` is not among the parts, its row says false
abbrev pub ending : List Part → List Row
ending all = if has_row (codes "state") (map row_of all) then map row_of all
    else with_values (codes "state") flag_reading DefaultValue (codes "false" ∷ []) (map row_of all)

abbrev pub end_kinds : Held → Kinds
end_kinds h = or_else (settle_fault its false h) (or_else (defaults_fault (settled its h).rows its) (check_fault shape (finished its h) false))

abbrev pub kinds_from : Walk → List Text → Kinds
kinds_from w words = or_else (walk_fault shape [] w words) (or_else [] (end_kinds (fold (walked its []) w words).held))

abbrev pub rows_from : Walk → List Text → List Row
rows_from w words = finished its (fold (walked its []) w words).held

pub or_fails : (a b : Kinds) → Fails a → Fails (or_else a b)
or_fails [] b f e = f refl
or_fails (k ∷ ks) b f e = absurd (cc)

or_past : (a b : Kinds) → a ≡ [] → Fails b → Fails (or_else a b)
or_past a b e f = rw e f

pub or_fails_second : (a b : Kinds) → Fails b → Fails (or_else a b)
or_fails_second [] b f e = f e
or_fails_second (k ∷ ks) b f e = absurd (cc)

-- a word at which clap stops
pub stops : (w : Walk) (word : Text) (words : List Text) → Fails (turn_fault shape [] w word) → Fails (kinds_from w (word ∷ words))
unfolding walk_fault
stops w word words f = or_fails (or_else (turn_fault shape [] w word) (walk_fault shape [] (walked its [] w word) words)) _ (or_fails (turn_fault shape [] w word) _ f)

-- a word behind which it goes on
pub goes_on : (w next : Walk) (word : Text) (words : List Text) → turn_fault shape [] w word ≡ [] → walked its [] w word ≡ next
    → (kinds_from w (word ∷ words) ≡ kinds_from next words) × (rows_from w (word ∷ words) ≡ rows_from next words)
unfolding walk_fault
goes_on w next word words e n =
    let left : walk_fault shape [] w (word ∷ words) ≡ walk_fault shape [] next words = rw e (ap (λ (x : Walk). walk_fault shape [] x words) n) in
    let end : fold (walked its []) w (word ∷ words) ≡ fold (walked its []) next words = ap (λ (x : Walk). fold (walked its []) x words) n in (
      ap₂ (λ (a : Kinds) (x : Walk). or_else a (or_else [] (end_kinds x.held))) left end,
      ap (λ (x : Walk). finished its x.held) end,
    )

no_default : (b : Bool) (kinds : Kinds) → (if b || true then [] else kinds) ≡ []
no_default true kinds = refl
no_default false kinds = refl

same_either : {X : Type 0} (b : Bool) (x : X) → (if b then x else x) ≡ x
same_either true x = refl
same_either false x = refl

-- what is found at the end
abbrev rows_of : List Part → List Row
rows_of = map row_of

or_none : (a b : Kinds) → a ≡ [] → b ≡ [] → or_else a b ≡ []
or_none a b e f = rw (e, f) refl

fault_unroll : (rows : List Row) → default_fault rows (rule 0) ≡ []
fault_unroll rows = no_default (has_row (codes "unroll") rows) _

fault_narrow : (rows : List Row) → default_fault rows (rule 1) ≡ []
fault_narrow rows = no_default (has_row (codes "narrow") rows) _

fault_ramp : (rows : List Row) → default_fault rows (rule 2) ≡ []
fault_ramp rows = no_default (has_row (codes "ramp") rows) _

abbrev none : Kinds
none = []

either_none : (b : Bool) → (if b || false then [] else []) ≡ none
either_none true = refl
either_none false = refl

fault_state : (rows : List Row) → default_fault rows (rule 3) ≡ []
fault_state rows = either_none (has_row (codes "state") rows)

fault_file : (rows : List Row) → default_fault rows (rule 4) ≡ []
fault_file rows = no_default (has_row (codes "file") rows) _

defaults_none : (rows : List Row) → defaults_fault rows its ≡ []
unfolding defaults_fault
defaults_none rows =
    let one = with_default rows (rule 0) in
    let two = with_default one (rule 1) in
    let three = with_default two (rule 2) in
    or_none _ _ (fault_unroll rows) (or_none _ _ (fault_narrow one) (or_none _ _ (fault_ramp two) (or_none _ _ (fault_state three)
    (or_none _ _ (fault_file (with_default three (rule 3))) refl))))

finished_is : (all : List Part) → finished its (held all None) ≡ ending all
finished_is all =
    let rows = map row_of all in
    ap (λ (x : List Row). with_default (with_default (with_default (with_default x (rule 1)) (rule 2)) (rule 3)) (rule 4)) (same_either (has_row (codes "unroll") rows) rows)
    ∙ (ap (λ (x : List Row). with_default (with_default (with_default x (rule 2)) (rule 3)) (rule 4)) (same_either (has_row (codes "narrow") rows) rows)
    ∙ (ap (λ (x : List Row). with_default (with_default x (rule 3)) (rule 4)) (same_either (has_row (codes "ramp") rows) rows)
    ∙ same_either (has_row (codes "file") (with_default rows (rule 3))) (with_default rows (rule 3))))

end_new : (done : List Part) (own : Open) → again own done ≡ false → end_kinds (held done (pending own)) ≡ []
end_new done own h =
    rw (settle_new done own h) (subst (λ (s : Held). or_else (defaults_fault s.rows its) (check_fault shape (finished its s) false) ≡ []) (sym (settled_new done own h))
    (rw (defaults_none (map row_of (done ++ opened own))) refl))

end_rows : (done : List Part) (own : Open) → again own done ≡ false → finished its (held done (pending own)) ≡ ending (done ++ opened own)
end_rows done own h = ap (λ (s : Held). fold with_default s.rows its) (settled_new done own h) ∙ finished_is (done ++ opened own)

pub ends_new : (done : List Part) (own : Open) (place : ℕ) (trailing : Bool) → again own done ≡ false
    → (kinds_from (idle_at done own place trailing) [] ≡ []) × (rows_from (idle_at done own place trailing) [] ≡ ending (done ++ opened own))
unfolding walk_fault
ends_new done own place trailing h = (end_new done own h, end_rows done own h)

pub ends_again : (done : List Part) (own : Open) (place : ℕ) (trailing : Bool) → again own done ≡ true → Fails (kinds_from (idle_at done own place trailing) [])
unfolding walk_fault
ends_again done own place trailing h = or_fails (settle_fault its false (held done (pending own))) _ (settle_again done own h)
