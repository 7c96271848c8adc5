-- What is found in the rows of parts.
use Rattle.std.proofs.Common.{◌≡◌, refl, sym, ap, ◌∙◌, Bool, true, false, List, [], ◌∷◌, ◌++◌, map, Option, Some, None, codes}
use Rattle.std.specs.Str.{bytes_eq}
use Rattle.std.specs.Prelude.{String, string_bytes}
use Rattle.std.specs.declared.alloc.Global.{Global}
use Rattle.std.proofs.lemmas.Str.{IsUtf8-string_bytes}
use Rattle.clap.specs.Walk.{Row, Text, first_of, has_row, nothing_held, more_values, one_of, rows_of}
use Rattle.clap.specs.Simple.{built, matches_of}
use Rattle.clap.specs.Matches.{found_of}
use Rattle.clap.specs.Kinds.{IsAmong, Kinds}
use Rattle.clap.specs.Faults.{fault_of}
use Rattle.clap.specs.declared.error.kind.ErrorKind.{ErrorKind}
use Rattle.clap.specs.declared.parser.matches.ArgMatches.{ArgMatches}
use Rattle.clap.specs.declared.parser.matches.ValueSource.TheVariants.{DefaultValue}
use Rattle.clap.proofs.WalkLemmas.{first_value-rows, one_text-rows}
use Rattle.clap.proofs.FaultLemmas.{leaf_fault}
use Rattle.headline_words.specs.Command.{unroll, narrow, ramp, Part, value, state, file, are_apart, file_of, has_state, parts_of, value_of}
use Rattle.headline_words.specs.Parser.{Finds, Reads, ReadsNone, analyze_app}
use Rattle.headline_words.proofs.RowLemmas.{row_of, flag_reading, not_there}
use Rattle.headline_words.proofs.StepLemmas.{closed, ending, idle_at, kinds_from, rows_from}
use Rattle.headline_words.proofs.FaultLemmas.{AreTexts}
use Rattle.headline_words.proofs.FitLemmas.{Fits, apart_is}
use Rattle.headline_words.proofs.ParseLemmas.{words_fit}

-- ---- rows

file_found : (ps : List Part) → first_of (codes "file") (map row_of ps) ≡ file_of ps
file_found [] = refl
file_found (value unroll v ∷ ps) = file_found ps
file_found (value narrow v ∷ ps) = file_found ps
file_found (value ramp v ∷ ps) = file_found ps
file_found (state ∷ ps) = file_found ps
file_found (file w ∷ ps) = refl

unroll_found : (ps : List Part) → first_of (codes "unroll") (map row_of ps) ≡ value_of unroll ps
unroll_found [] = refl
unroll_found (value unroll v ∷ ps) = refl
unroll_found (value narrow v ∷ ps) = unroll_found ps
unroll_found (value ramp v ∷ ps) = unroll_found ps
unroll_found (state ∷ ps) = unroll_found ps
unroll_found (file w ∷ ps) = unroll_found ps

narrow_found : (ps : List Part) → first_of (codes "narrow") (map row_of ps) ≡ value_of narrow ps
narrow_found [] = refl
narrow_found (value unroll v ∷ ps) = narrow_found ps
narrow_found (value narrow v ∷ ps) = refl
narrow_found (value ramp v ∷ ps) = narrow_found ps
narrow_found (state ∷ ps) = narrow_found ps
narrow_found (file w ∷ ps) = narrow_found ps

ramp_found : (ps : List Part) → first_of (codes "ramp") (map row_of ps) ≡ value_of ramp ps
ramp_found [] = refl
ramp_found (value unroll v ∷ ps) = ramp_found ps
ramp_found (value narrow v ∷ ps) = ramp_found ps
ramp_found (value ramp v ∷ ps) = refl
ramp_found (state ∷ ps) = ramp_found ps
ramp_found (file w ∷ ps) = ramp_found ps

-- the row of `--state` where it is not among the parts
abbrev false_row : Row
false_row = record { id = codes "state"; values = codes "false" ∷ []; count = None; source = Some DefaultValue; reading = flag_reading }

last_at : (id : Text) (r : Row) (rs : List Row) (b : Bool) → bytes_eq r.id id ≡ b → first_of id (rs ++ false_row ∷ []) ≡ first_of id rs
    → first_of id ((r ∷ rs) ++ false_row ∷ []) ≡ first_of id (r ∷ rs)
last_at id r rs true e h = rw e refl
last_at id r rs false e h = rw e h

last_other : (id : Text) → bytes_eq (codes "state") id ≡ false → (rows : List Row) → first_of id (rows ++ false_row ∷ []) ≡ first_of id rows
last_other id h [] = rw h refl
last_other id h (r ∷ rs) = last_at id r rs (bytes_eq r.id id) refl (last_other id h rs)

state_there : (ps : List Part) → has_state ps ≡ true → one_of (codes "state") (map row_of ps) ≡ Some (codes "true")
state_there [] h = absurd (cc)
state_there (value unroll v ∷ ps) h = state_there ps h
state_there (value narrow v ∷ ps) h = state_there ps h
state_there (value ramp v ∷ ps) h = state_there ps h
state_there (state ∷ ps) h = refl
state_there (file w ∷ ps) h = state_there ps h

state_last : (ps : List Part) → has_state ps ≡ false → one_of (codes "state") (map row_of ps ++ false_row ∷ []) ≡ Some (codes "false")
state_last [] h = refl
state_last (value unroll v ∷ ps) h = state_last ps h
state_last (value narrow v ∷ ps) h = state_last ps h
state_last (value ramp v ∷ ps) h = state_last ps h
state_last (state ∷ ps) h = absurd (cc)
state_last (file w ∷ ps) h = state_last ps h

has_state_row : (ps : List Part) → has_row (codes "state") (map row_of ps) ≡ has_state ps
has_state_row [] = refl
has_state_row (value unroll v ∷ ps) = has_state_row ps
has_state_row (value narrow v ∷ ps) = has_state_row ps
has_state_row (value ramp v ∷ ps) = has_state_row ps
has_state_row (state ∷ ps) = refl
has_state_row (file w ∷ ps) = has_state_row ps

ending_there : (ps : List Part) → has_state ps ≡ true → ending ps ≡ map row_of ps
ending_there ps h = rw (has_state_row ps ∙ h) refl

ending_last : (ps : List Part) → has_state ps ≡ false → ending ps ≡ map row_of ps ++ false_row ∷ []
ending_last ps h = rw (has_state_row ps ∙ h) (not_there (codes "state") (more_values DefaultValue (codes "false" ∷ [])) (false_row ∷ []) (map row_of ps) (has_state_row ps ∙ h))

finds_at : (ps : List Part) (m : ArgMatches) → rows_of (found_of m) ≡ ending ps → (d : Bool) → has_state ps ≡ d → Finds ps m
finds_at ps m e true h =
    let rows = e ∙ ending_there ps h in
    record {
      file = first_value-rows (found_of m) (codes "file") ∙ (ap (first_of (codes "file")) rows ∙ file_found ps);
      unroll = first_value-rows (found_of m) (codes "unroll") ∙ (ap (first_of (codes "unroll")) rows ∙ unroll_found ps);
      narrow = first_value-rows (found_of m) (codes "narrow") ∙ (ap (first_of (codes "narrow")) rows ∙ narrow_found ps);
      ramp = first_value-rows (found_of m) (codes "ramp") ∙ (ap (first_of (codes "ramp")) rows ∙ ramp_found ps);
      state = one_text-rows (found_of m) (codes "state") ∙ (ap (one_of (codes "state")) rows ∙ (state_there ps h ∙ rw h refl));
    }
finds_at ps m e false h =
    let rows = e ∙ ending_last ps h in
    record {
      file = first_value-rows (found_of m) (codes "file") ∙ (ap (first_of (codes "file")) rows ∙ (last_other (codes "file") refl (map row_of ps) ∙ file_found ps));
      unroll = first_value-rows (found_of m) (codes "unroll") ∙ (ap (first_of (codes "unroll")) rows ∙ (last_other (codes "unroll") refl (map row_of ps) ∙ unroll_found ps));
      narrow = first_value-rows (found_of m) (codes "narrow") ∙ (ap (first_of (codes "narrow")) rows ∙ (last_other (codes "narrow") refl (map row_of ps) ∙ narrow_found ps));
      ramp = first_value-rows (found_of m) (codes "ramp") ∙ (ap (first_of (codes "ramp")) rows ∙ (last_other (codes "ramp") refl (map row_of ps) ∙ ramp_found ps));
      state = one_text-rows (found_of m) (codes "state") ∙ (ap (one_of (codes "state")) rows ∙ (state_last ps h ∙ rw h refl));
    }

-- ---- a whole command line

faults_are : (first : Text) (rest : List Text) → fault_of analyze_app (first ∷ rest) ≡ kinds_from (idle_at [] closed 1 false) rest
faults_are first rest = leaf_fault (built analyze_app) nothing_held rest refl

fits : (rest : List Text) → AreTexts rest → Fits (parts_of None rest) [] (kinds_from (idle_at [] closed 1 false) rest) (rows_from (idle_at [] closed 1 false) rest)
fits = words_fit

reads_at : (o : Option (List Part)) (kinds : Kinds) (rows : List Row) (m : ArgMatches) → Fits o [] kinds rows → kinds ≡ [] → rows_of (found_of m) ≡ rows → Reads o m
reads_at None kinds rows m f e r = f e
reads_at (Some ps) kinds rows m f e r = apart_at (are_apart ps) refl
  where
    apart_at : (b : Bool) → are_apart ps ≡ b → Reads (Some ps) m
    apart_at true h = (h, finds_at ps m (r ∙ (rw (apart_is ps ∙ h) at f).1) (has_state ps) refl)
    apart_at false h = absurd ((rw (apart_is ps ∙ h) at f) e)

none_at : (o : Option (List Part)) (kinds : Kinds) (rows : List Row) (k : ErrorKind) → Fits o [] kinds rows → IsAmong k kinds → ReadsNone o
none_at None kinds rows k f a = tt
none_at (Some ps) kinds rows k f a = apart_at (are_apart ps) refl
  where
    apart_at : (b : Bool) → are_apart ps ≡ b → ReadsNone (Some ps)
    apart_at true h = absurd (let g = rw (apart_is ps ∙ h) at f in rw g.0 at a)
    apart_at false h = h

pub reads_words : (first : Text) (rest : List Text) (m : ArgMatches) → AreTexts rest → fault_of analyze_app (first ∷ rest) ≡ []
    → rows_of (found_of m) ≡ matches_of analyze_app (first ∷ rest) → Reads (parts_of None rest) m
reads_words first rest m u e r = reads_at (parts_of None rest) _ _ m (fits rest u) (sym (faults_are first rest) ∙ e) r

pub refuses_words : (first : Text) (rest : List Text) (k : ErrorKind) → AreTexts rest → IsAmong k (fault_of analyze_app (first ∷ rest)) → ReadsNone (parts_of None rest)
refuses_words first rest k u a = none_at (parts_of None rest) _ _ k (fits rest u) (rw (faults_are first rest) at a)

pub strings_are_texts : (xs : List (String Global)) → AreTexts (map string_bytes xs)
strings_are_texts [] = tt
strings_are_texts (x ∷ xs) = (IsUtf8-string_bytes x, strings_are_texts xs)
