-- Words behind which clap goes on.
use Rattle.std.proofs.Common.{◌≡◌, refl, ap, ap₂, ◌∙◌, ℕ, Bool, true, false, List, [], ◌∷◌, ◌++◌, map}
use Rattle.std.proofs.Common.{Option, Some, None, codes}
use Rattle.clap.specs.Walk.{Row, Rule, Held, Walk, idle, option, value, next, Text, walked, arg_by_long, settled, reacted, used, word_met, long_word, positional_held, pushed, is_pending}
use Rattle.clap.specs.Faults.{settle_fault, turn_fault, word_fault, step_fault, long_fault, use_fault}
use Rattle.clap.specs.Kinds.{or_else}
use Rattle.headline_words.specs.Command.{Key, unroll, narrow, ramp, Part, state, file}
use Rattle.headline_words.specs.Command as command
use Rattle.headline_words.proofs.WordLemmas.{shape, its, rule, key_rule, name_of, IsLong, IsPlain}
use Rattle.headline_words.proofs.RowLemmas.{row_of, stands, has_row_is, used_value, used_state}
use Rattle.headline_words.proofs.StepLemmas.{Fails, Open, closed, of_key, of_file, opened, pending, again, held, idle_at, waits_at, settle_new, settled_new, or_fails, or_fails_second}
use Rattle.headline_words.proofs.FaultLemmas.{and_false, file_settles, plain_turn}

module _ (done : List Part) (own : Open) (new : again own done ≡ false) where
  abbrev pub all : List Part
  all = done ++ opened own

  abbrev h : Held
  h = held done (pending own)

  settled_rows : (settled its h).rows ≡ map row_of all
  settled_rows = ap (λ (x : Held). x.rows) (settled_new done own new)

  -- an option with its value
  use_key : (k : Key) (x : Text) → stands (command.value k x) all ≡ false → use_fault false (key_rule k) (x ∷ []) (settled its h).rows ≡ []
  use_key unroll x f = rw (settled_rows, has_row_is (command.value unroll x) all, f) refl
  use_key narrow x f = rw (settled_rows, has_row_is (command.value narrow x) all, f) refl
  use_key ramp x f = rw (settled_rows, has_row_is (command.value ramp x) all, f) refl

  use_key_again : (k : Key) (x : Text) → stands (command.value k x) all ≡ true → Fails (use_fault false (key_rule k) (x ∷ []) (settled its h).rows)
  use_key_again unroll x f = rw (settled_rows, has_row_is (command.value unroll x) all, f) (λ e. absurd (cc))
  use_key_again narrow x f = rw (settled_rows, has_row_is (command.value narrow x) all, f) (λ e. absurd (cc))
  use_key_again ramp x f = rw (settled_rows, has_row_is (command.value ramp x) all, f) (λ e. absurd (cc))

  reacts_key : (k : Key) (x : Text) → stands (command.value k x) all ≡ false → reacted its (key_rule k) (x ∷ []) h ≡ held (all ++ command.value k x ∷ []) None
  reacts_key unroll x f = ap (λ (rs : List Row). record { rows = rs; pending = None; skip = 0 }) (ap (used (key_rule unroll) (x ∷ [])) settled_rows ∙ used_value all unroll x f)
  reacts_key narrow x f = ap (λ (rs : List Row). record { rows = rs; pending = None; skip = 0 }) (ap (used (key_rule narrow) (x ∷ [])) settled_rows ∙ used_value all narrow x f)
  reacts_key ramp x f = ap (λ (rs : List Row). record { rows = rs; pending = None; skip = 0 }) (ap (used (key_rule ramp) (x ∷ [])) settled_rows ∙ used_value all ramp x f)

  fault_key : (k : Key) (x : Text) → stands (command.value k x) all ≡ false → long_fault its false (Some (key_rule k)) (Some x) h ≡ []
  fault_key unroll x f = ap₂ or_else (settle_new done own new) (use_key unroll x f)
  fault_key narrow x f = ap₂ or_else (settle_new done own new) (use_key narrow x f)
  fault_key ramp x f = ap₂ or_else (settle_new done own new) (use_key ramp x f)

  fails_key : (k : Key) (x : Text) → stands (command.value k x) all ≡ true → Fails (long_fault its false (Some (key_rule k)) (Some x) h)
  fails_key unroll x f = or_fails_second (settle_fault its false h) _ (use_key_again unroll x f)
  fails_key narrow x f = or_fails_second (settle_fault its false h) _ (use_key_again narrow x f)
  fails_key ramp x f = or_fails_second (settle_fault its false h) _ (use_key_again ramp x f)

  met_key : (k : Key) (x w name : Text) → arg_by_long its name ≡ Some (key_rule k) → long_word its idle w name (Some x) h ≡ (reacted its (key_rule k) (x ∷ []) h, next idle)
  met_key unroll x w name e = rw e refl
  met_key narrow x w name e = rw e refl
  met_key ramp x w name e = rw e refl

  abbrev start : ℕ → Walk
  start place = idle_at done own place false

  word_is : (place : ℕ) (w name : Text) (v : Option Text) → IsLong w name v → word_met its [] false idle place w h ≡ long_word its idle w name v h
  word_is place w name v i = rw (i.dashes, i.long) refl

  kinds_are : (w name : Text) (v : Option Text) → IsLong w name v → word_fault shape [] false idle w h ≡ long_fault its false (arg_by_long its name) v h
  kinds_are w name v i = rw (i.dashes, i.long) refl

  pub key_turn : (place : ℕ) (k : Key) (x w name : Text) → IsLong w name (Some x) → arg_by_long its name ≡ Some (key_rule k) → stands (command.value k x) all ≡ false
      → (turn_fault shape [] (start place) w ≡ []) × (walked its [] (start place) w ≡ idle_at (all ++ command.value k x ∷ []) closed place false)
  unfolding walked
  key_turn place k x w name i e f =
      let met : word_met its [] false idle place w h ≡ (held (all ++ command.value k x ∷ []) None, next idle) =
      word_is place w name (Some x) i ∙ (met_key k x w name e ∙ ap (λ (y : Held). (y, next idle)) (reacts_key k x f)) in
      let kinds : word_fault shape [] false idle w h ≡ [] = kinds_are w name (Some x) i ∙ (ap (λ (r : Option Rule). long_fault its false r (Some x) h) e ∙ fault_key k x f) in
      (rw (kinds, met) refl, rw met refl)

  pub key_stops : (place : ℕ) (k : Key) (x w name : Text) → IsLong w name (Some x) → arg_by_long its name ≡ Some (key_rule k) → stands (command.value k x) all ≡ true
      → Fails (turn_fault shape [] (start place) w)
  key_stops place k x w name i e f =
      or_fails (word_fault shape [] false idle w h) _
      (rw (kinds_are w name (Some x) i ∙ ap (λ (r : Option Rule). long_fault its false r (Some x) h) e) (fails_key k x f))

  -- an option whose value is the next word
  met_wait : (k : Key) (w name : Text) → arg_by_long its name ≡ Some (key_rule k)
      → long_word its idle w name None h ≡ (record (settled its h) { pending = Some (name_of k, []) }, next (option (name_of k)))
  met_wait unroll w name e = rw e refl
  met_wait narrow w name e = rw e refl
  met_wait ramp w name e = rw e refl

  fault_wait : (k : Key) → long_fault its false (Some (key_rule k)) None h ≡ settle_fault its false h
  fault_wait unroll = refl
  fault_wait narrow = refl
  fault_wait ramp = refl

  pub wait_turn : (place : ℕ) (k : Key) (w name : Text) → IsLong w name None → arg_by_long its name ≡ Some (key_rule k)
      → (turn_fault shape [] (start place) w ≡ []) × (walked its [] (start place) w ≡ waits_at all k place false)
  unfolding walked
  wait_turn place k w name i e =
      let met : word_met its [] false idle place w h ≡ (held all (Some (name_of k, [])), next (option (name_of k))) =
      word_is place w name None i ∙ (met_wait k w name e
      ∙ ap (λ (y : Held). (record y { pending = Some (name_of k, []) }, next (option (name_of k)))) (settled_new done own new)) in
      let kinds : word_fault shape [] false idle w h ≡ [] =
      kinds_are w name None i ∙ (ap (λ (r : Option Rule). long_fault its false r None h) e ∙ (fault_wait k ∙ settle_new done own new)) in
      (rw (kinds, met) refl, rw met refl)

  -- `--state`
  use_flag : stands state all ≡ false → use_fault false (rule 3) [] (settled its h).rows ≡ []
  use_flag f = rw (settled_rows, has_row_is state all, f) refl

  use_flag_again : stands state all ≡ true → Fails (use_fault false (rule 3) [] (settled its h).rows)
  use_flag_again f = rw (settled_rows, has_row_is state all, f) (λ e. absurd (cc))

  reacts_flag : stands state all ≡ false → reacted its (rule 3) [] h ≡ held (all ++ state ∷ []) None
  reacts_flag f = ap (λ (rs : List Row). record { rows = rs; pending = None; skip = 0 }) (ap (used (rule 3) []) settled_rows ∙ used_state all f)

  met_flag : (w name : Text) → arg_by_long its name ≡ Some (rule 3) → long_word its idle w name None h ≡ (reacted its (rule 3) [] h, next idle)
  met_flag w name e = rw e refl

  pub flag_turn : (place : ℕ) (w name : Text) → IsLong w name None → arg_by_long its name ≡ Some (rule 3) → stands state all ≡ false
      → (turn_fault shape [] (start place) w ≡ []) × (walked its [] (start place) w ≡ idle_at (all ++ state ∷ []) closed place false)
  unfolding walked
  flag_turn place w name i e f =
      let met : word_met its [] false idle place w h ≡ (held (all ++ state ∷ []) None, next idle) =
      word_is place w name None i ∙ (met_flag w name e ∙ ap (λ (y : Held). (y, next idle)) (reacts_flag f)) in
      let kinds : word_fault shape [] false idle w h ≡ [] =
      kinds_are w name None i ∙ (ap (λ (r : Option Rule). long_fault its false r None h) e ∙ ap₂ or_else (settle_new done own new) (use_flag f)) in
      (rw (kinds, met) refl, rw met refl)

  pub flag_stops : (place : ℕ) (w name : Text) → IsLong w name None → arg_by_long its name ≡ Some (rule 3) → stands state all ≡ true
      → Fails (turn_fault shape [] (start place) w)
  flag_stops place w name i e f =
      or_fails (word_fault shape [] false idle w h) _ (rw (kinds_are w name None i ∙ ap (λ (r : Option Rule). long_fault its false r None h) e)
      (or_fails_second (settle_fault its false h) _ (use_flag_again f)))

  -- a file
  fault_file : step_fault shape 1 h value ≡ []
  fault_file = file_settles (map row_of done) (pending own) ∙ settle_new done own new

  held_file : (w : Text) → positional_held its (rule 4) w h ≡ held all (Some (codes "file", w ∷ []))
  held_file w = rw (and_false (is_pending (rule 4) (pending own))) (ap (λ (x : Held). pushed (codes "file") w x) (settled_new done own new))

  abbrev file_at : Bool → Held → Walk
  file_at trailing x = record { held = x; waiting = idle; position = 2; is_trailing = trailing; stopped = None }

  pub file_turn : (w : Text) → IsPlain w → (turn_fault shape [] (start 1) w ≡ []) × (walked its [] (start 1) w ≡ idle_at all (of_file w) 2 false)
  unfolding walked
  file_turn w i =
      let met : word_met its [] false idle 1 w h ≡ (h, value) = rw (i.dashes, i.long, i.short) refl in
      (plain_turn (map row_of done) (pending own) 1 w i ∙ fault_file, rw met (ap (file_at false) (held_file w)))

  pub trailing_turn : (w : Text) → (turn_fault shape [] (idle_at done own 1 true) w ≡ []) × (walked its [] (idle_at done own 1 true) w ≡ idle_at all (of_file w) 2 true)
  unfolding walked
  trailing_turn w = (fault_file, ap (file_at true) (held_file w))

-- an option that waits gets its value
module _ (done : List Part) (k : Key) where
  pub value_turn : (place : ℕ) (w : Text) → IsPlain w → (turn_fault shape [] (waits_at done k place false) w ≡ [])
      × (walked its [] (waits_at done k place false) w ≡ idle_at done (of_key k w) place false)
  unfolding walked
  value_turn place w i = by_key k
    where
      by_key : (j : Key) → (turn_fault shape [] (waits_at done j place false) w ≡ [])
          × (walked its [] (waits_at done j place false) w ≡ idle_at done (of_key j w) place false)
      by_key unroll = (rw (i.dashes, i.long, i.short) refl, rw (i.dashes, i.long, i.short) refl)
      by_key narrow = (rw (i.dashes, i.long, i.short) refl, rw (i.dashes, i.long, i.short) refl)
      by_key ramp = (rw (i.dashes, i.long, i.short) refl, rw (i.dashes, i.long, i.short) refl)
