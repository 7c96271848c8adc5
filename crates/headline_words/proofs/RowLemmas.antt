-- The rows of parts: what clap finds.
use Rattle.std.proofs.Common.{◌≡◌, refl, sym, ap, ◌∙◌, Bool, true, false, List, [], ◌∷◌, ◌++◌, map}
use Rattle.std.proofs.Common.{Some, None, codes}
use Rattle.std.specs.Prelude.{◌||◌}
use Rattle.std.specs.List.{list_any}
use Rattle.std.specs.Str.{bytes_eq}
use Rattle.clap.specs.Values.{reading_of}
use Rattle.clap.specs.Walk.{Row, at_row, without, with_values, more_values, has_row, Text}
use Rattle.clap.specs.declared.builder.value_parser.Reading.{Reading}
use Rattle.clap.specs.declared.builder.value_parser.ValueParser.TheVariants as vp
use Rattle.clap.specs.declared.parser.matches.ValueSource.{ValueSource}
use Rattle.clap.specs.declared.parser.matches.ValueSource.TheVariants.{CommandLine}
use Rattle.headline_words.specs.Command.{Key, unroll, narrow, ramp, Part, value, state, file, is_like}
use Rattle.headline_words.proofs.WordLemmas.{name_of}

abbrev pub plain_reading : Reading
plain_reading = reading_of vp.String

abbrev pub flag_reading : Reading
flag_reading = reading_of vp.Bool

abbrev pub id_of : Part → Text
id_of (value k v) = name_of k
id_of state = codes "state"
id_of (file w) = codes "file"

abbrev pub row_of : Part → Row
row_of (value k v) = record { id = name_of k; values = v ∷ []; count = None; source = Some CommandLine; reading = plain_reading }
row_of state = record { id = codes "state"; values = codes "true" ∷ []; count = None; source = Some CommandLine; reading = flag_reading }
row_of (file w) = record { id = codes "file"; values = w ∷ []; count = None; source = Some CommandLine; reading = plain_reading }

-- ---- rows that are not there

or_first : (a b : Bool) → (a || b) ≡ false → a ≡ false
or_first true b h = absurd (cc)
or_first false b h = refl

or_second : (a b : Bool) → (a || b) ≡ false → b ≡ false
or_second true b h = absurd (cc)
or_second false b h = h

pub not_there : (id : Text) (change : Row → List Row) (missing rows : List Row) → has_row id rows ≡ false → at_row id change missing rows ≡ rows ++ missing
not_there id change missing [] h = refl
not_there id change missing (r ∷ rs) h =
    rw (or_first (bytes_eq r.id id) (has_row id rs) h) (ap (λ xs. r ∷ xs) (not_there id change missing rs (or_second (bytes_eq r.id id) (has_row id rs) h)))

append_none : (rows : List Row) → rows ++ [] ≡ rows
append_none [] = refl
append_none (r ∷ rs) = ap (λ xs. r ∷ xs) (append_none rs)

abbrev pub row_with : Text → Reading → ValueSource → List Text → Row
row_with id how s vs = record { id = id; values = vs; count = None; source = Some s; reading = how }

pub new_row : (id : Text) (how : Reading) (s : ValueSource) (vs : List Text) (rows : List Row) → has_row id rows ≡ false
    → with_values id how s vs (without id rows) ≡ rows ++ row_with id how s vs ∷ []
new_row id how s vs rows h =
    ap (with_values id how s vs) (not_there id (λ x. []) [] rows h ∙ append_none rows) ∙ not_there id (more_values s vs) (row_with id how s vs ∷ []) rows h

-- ---- whether a part is there already

like_id : (d p : Part) → bytes_eq (row_of d).id (id_of p) ≡ is_like d p
like_id (value unroll v) (value unroll w) = refl
like_id (value unroll v) (value narrow w) = refl
like_id (value unroll v) (value ramp w) = refl
like_id (value narrow v) (value unroll w) = refl
like_id (value narrow v) (value narrow w) = refl
like_id (value narrow v) (value ramp w) = refl
like_id (value ramp v) (value unroll w) = refl
like_id (value ramp v) (value narrow w) = refl
like_id (value ramp v) (value ramp w) = refl
like_id (value unroll v) state = refl
like_id (value narrow v) state = refl
like_id (value ramp v) state = refl
like_id (value unroll v) (file w) = refl
like_id (value narrow v) (file w) = refl
like_id (value ramp v) (file w) = refl
like_id state (value unroll w) = refl
like_id state (value narrow w) = refl
like_id state (value ramp w) = refl
like_id state state = refl
like_id state (file w) = refl
like_id (file v) (value unroll w) = refl
like_id (file v) (value narrow w) = refl
like_id (file v) (value ramp w) = refl
like_id (file v) state = refl
like_id (file v) (file w) = refl

abbrev pub stands : Part → List Part → Bool
stands p done = list_any (λ d. is_like d p) done

pub has_row_is : (p : Part) (done : List Part) → has_row (id_of p) (map row_of done) ≡ stands p done
has_row_is p [] = refl
has_row_is p (d ∷ ds) = rw (like_id d p, has_row_is p ds) refl

map_last : (done : List Part) (p : Part) → map row_of (done ++ p ∷ []) ≡ map row_of done ++ row_of p ∷ []
map_last [] p = refl
map_last (d ∷ ds) p = ap (λ xs. row_of d ∷ xs) (map_last ds p)

-- a part that is used for the first time
module _ (done : List Part) where
  last_row : (p : Part) → stands p done ≡ false → (how : Reading) (vs : List Text) → row_of p ≡ row_with (id_of p) how CommandLine vs
      → with_values (id_of p) how CommandLine vs (without (id_of p) (map row_of done)) ≡ map row_of (done ++ p ∷ [])
  last_row p h how vs e =
      new_row (id_of p) how CommandLine vs (map row_of done) (has_row_is p done ∙ h) ∙ (ap (λ (r : Row). map row_of done ++ r ∷ []) (sym e) ∙ sym (map_last done p))

  pub used_value : (k : Key) (v : Text) → stands (value k v) done ≡ false
      → with_values (name_of k) plain_reading CommandLine (v ∷ []) (without (name_of k) (map row_of done)) ≡ map row_of (done ++ value k v ∷ [])
  used_value k v h = last_row (value k v) h plain_reading (v ∷ []) refl

  pub used_state : stands state done ≡ false
      → with_values (codes "state") flag_reading CommandLine (codes "true" ∷ []) (without (codes "state") (map row_of done)) ≡ map row_of (done ++ state ∷ [])
  used_state h = last_row state h flag_reading (codes "true" ∷ []) refl

  pub used_file : (w : Text) → stands (file w) done ≡ false
      → with_values (codes "file") plain_reading CommandLine (w ∷ []) (without (codes "file") (map row_of done)) ≡ map row_of (done ++ file w ∷ [])
  used_file w h = last_row (file w) h plain_reading (w ∷ []) refl
