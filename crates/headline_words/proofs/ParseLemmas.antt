-- Clap reads the parts of the words.
use Rattle.std.proofs.Common.{◌≡◌, refl, sym, ap, subst, ◌∙◌, ℕ, Bool, true, false, List, [], ◌∷◌, ◌++◌, map}
use Rattle.std.proofs.Common.{Option, Some, None}
use Rattle.std.specs.Prelude.{◌||◌}
use Rattle.std.specs.Str.{bytes_eq, IsUtf8}
use Rattle.clap.specs.Walk.{Walk, idle, option, Text, walked, arg_by_long}
use Rattle.clap.specs.Faults.{turn_fault}
use Rattle.headline_words.specs.Command.{Key, Word, Part, value, state, file, is_like, with_part, parts_of, begun, valued, named, key, unknown}
use Rattle.headline_words.proofs.WordLemmas.{shape, its, rule, key_rule, name_of, IsLong, IsPlain, Looks, ends, long, short, other, looks, Names, an_option, the_flag, a_value, none, names}
use Rattle.headline_words.proofs.RowLemmas.{stands, row_of}
use Rattle.headline_words.proofs.StepLemmas.{Fails, Open, closed, of_key, of_file, opened, pending, again, ending, idle_at, waits_at, kinds_from, rows_from, stops, goes_on, settle_again, waits_fails, ends_new, ends_again, append_none}
use Rattle.headline_words.proofs.FaultLemmas as faults
use Rattle.headline_words.proofs.FaultLemmas.{AreTexts, Place, before, behind, end_fails, idle_fails, trailing_fails, ends_turn, second_fails, plain_turn, long_fails, unknown_fails, short_fails, file_settles}
use Rattle.headline_words.proofs.FitLemmas.{Fits, fits_with, fits_again, with_own, fits_own, fits_own_again}
use Rattle.headline_words.proofs.TurnLemmas.{key_turn, key_stops, wait_turn, flag_turn, flag_stops, file_turn, trailing_turn, value_turn}

-- which place of the file the parts lead to
pub data Leads (all : List Part) : ℕ → Type 0 where
  none_yet : ((w : Text) → stands (file w) all ≡ false) → Leads all 1
  one_there : ((w : Text) → stands (file w) all ≡ true) → Leads all 2

place_of : (all : List Part) (place : ℕ) → Leads all place → Place place
place_of all _ (none_yet f) = before
place_of all _ (one_there f) = behind

or_right : (b : Bool) → (b || false) ≡ b
or_right true = refl
or_right false = refl

stands_on : (p q : Part) (done : List Part) → is_like q p ≡ false → stands p (done ++ q ∷ []) ≡ stands p done
stands_on p q [] h = rw h refl
stands_on p q (d ∷ ds) h = rw (stands_on p q ds h) refl

stands_new : (p q : Part) (done : List Part) → is_like q p ≡ true → stands p (done ++ q ∷ []) ≡ true
stands_new p q [] h = rw h refl
stands_new p q (d ∷ ds) h = rw (stands_new p q ds h) (or_true (is_like d p))
  where
    or_true : (b : Bool) → (b || true) ≡ true
    or_true true = refl
    or_true false = refl

leads_on : (all : List Part) (place : ℕ) (q : Part) → ((w : Text) → is_like q (file w) ≡ false) → Leads all place → Leads (all ++ q ∷ []) place
leads_on all _ q h (none_yet f) = none_yet (λ w. stands_on (file w) q all (h w) ∙ f w)
leads_on all _ q h (one_there f) = one_there (λ w. stands_on (file w) q all (h w) ∙ f w)

leads_file : (all : List Part) (w : Text) → Leads (all ++ file w ∷ []) 2
leads_file all w = one_there (λ v. stands_new (file v) (file w) all refl)

abbrev FitsFrom : Option (List Part) → List Part → Walk → List Text → Type 0
FitsFrom o done w ws = Fits o done (kinds_from w ws) (rows_from w ws)

-- behind a word at which it goes on
fits_next : (o : Option (List Part)) (done : List Part) (w next : Walk) (word : Text) (ws : List Text)
    → (turn_fault shape [] w word ≡ []) × (walked its [] w word ≡ next) → FitsFrom o done next ws → FitsFrom o done w (word ∷ ws)
fits_next o done w next word ws t f = let g = goes_on w next word ws t.0 t.1 in rw (g.0, g.1) f

-- ---- behind `--`

-- at the end of the words
end_fits : (done : List Part) (own : Open) (place : ℕ) (trailing : Bool) → again own done ≡ false
    → FitsFrom (with_own [] [] own (Some [])) done (idle_at done own place trailing) []
end_fits done own place trailing h =
    let e = ends_new done own place trailing h in
    let w = idle_at done own place trailing in
    fits_own (kinds_from w []) (rows_from w []) own done (Some []) h (e.0, e.1 ∙ ap ending (sym (append_none (done ++ opened own))))

abbrev Trailing : List Text → Type 0
Trailing ws = (done : List Part) (own : Open) (place : ℕ) → Leads (done ++ opened own) place
    → FitsFrom (with_own [] [] own (Some (map file ws))) done (idle_at done own place true) ws

trailing_word : (w : Text) (ws : List Text) → Trailing ws → (done : List Part) (own : Open) (place : ℕ) → Leads (done ++ opened own) place → again own done ≡ false
    → FitsFrom (with_own [] [] own (Some (map file (w ∷ ws)))) done (idle_at done own place true) (w ∷ ws)
trailing_word w ws rec done own _ (none_yet f) h =
    fits_own _ _ own done (Some (map file (w ∷ ws))) h
    (fits_next (Some (map file (w ∷ ws))) (done ++ opened own) (idle_at done own 1 true) (idle_at (done ++ opened own) (of_file w) 2 true) w ws
    (trailing_turn done own h w) (rec (done ++ opened own) (of_file w) 2 (leads_file (done ++ opened own) w)))
trailing_word w ws rec done own _ (one_there f) h =
    fits_own _ _ own done (Some (map file (w ∷ ws))) h
    (fits_again _ _ (file w) (done ++ opened own) (Some (map file ws)) (f w)
    (stops (idle_at done own 2 true) w ws (second_fails (map row_of done) (pending own))))

trailing_at : (ws : List Text) → Trailing ws → (w : Text) (done : List Part) (own : Open) (place : ℕ) → Leads (done ++ opened own) place → (d : Bool) → again own done ≡ d
    → FitsFrom (with_own [] [] own (Some (map file (w ∷ ws)))) done (idle_at done own place true) (w ∷ ws)
trailing_at ws rec w done own place here true h =
    fits_own_again _ _ own done (Some (map file (w ∷ ws))) h
    (trailing_fails (map row_of done) (pending own) (w ∷ ws) idle place (place_of (done ++ opened own) place here) (settle_again done own h))
trailing_at ws rec w done own place here false h = trailing_word w ws rec done own place here h

trailing_end : (done : List Part) (own : Open) (place : ℕ) (trailing : Bool) (d : Bool) → again own done ≡ d
    → FitsFrom (with_own [] [] own (Some [])) done (idle_at done own place trailing) []
trailing_end done own place trailing true h = fits_own_again _ _ own done (Some []) h (ends_again done own place trailing h)
trailing_end done own place trailing false h = end_fits done own place trailing h

trailing_fits : (ws : List Text) → Trailing ws
trailing_fits [] done own place here = trailing_end done own place true (again own done) refl
trailing_fits (w ∷ ws) done own place here = trailing_at ws (trailing_fits ws) w done own place here (again own done) refl

-- ---- where options may stand

abbrev IdleFits : List Text → Type 0
IdleFits ws = (done : List Part) (own : Open) (place : ℕ) → Leads (done ++ opened own) place
    → FitsFrom (with_own [] [] own (parts_of None ws)) done (idle_at done own place false) ws

abbrev WaitsFit : List Text → Type 0
WaitsFit ws = (done : List Part) (k : Key) (place : ℕ) → Leads done place → FitsFrom (parts_of (Some k) ws) done (waits_at done k place false) ws

module _ (w : Text) (ws : List Text) (u : IsUtf8 w) (idles : IdleFits ws) (waits : WaitsFit ws) (done : List Part) (own : Open) (place : ℕ)
    (here : Leads (done ++ opened own) place) (new : again own done ≡ false) where
  abbrev all : List Part
  all = done ++ opened own

  abbrev start : Walk
  start = idle_at done own place false

  -- what the word and those behind it come to, with the parts before them
  abbrev Comes : Option (List Part) → Type 0
  Comes o = FitsFrom o all start (w ∷ ws)

  no_parts : (o : Option (List Part)) → o ≡ None → Fails (turn_fault shape [] start w) → Comes o
  no_parts o e f = rw e (stops start w ws f)

  -- behind a part that is used at once
  behind_part : (p : Part) → ((v : Text) → is_like p (file v) ≡ false) → FitsFrom (parts_of None ws) (all ++ p ∷ []) (idle_at (all ++ p ∷ []) closed place false) ws
  behind_part p f =
      idles (all ++ p ∷ []) closed place (subst (λ (xs : List Part). Leads xs place) (sym (append_none (all ++ p ∷ []))) (leads_on all place p f here))

  key_part : (k : Key) (x name : Text) → IsLong w name (Some x) → arg_by_long its name ≡ Some (key_rule k) → (d : Bool) → stands (value k x) all ≡ d
      → Comes (with_part (value k x) (parts_of None ws))
  key_part k x name i a true h = fits_again _ _ (value k x) all (parts_of None ws) h (stops start w ws (key_stops done own new place k x w name i a h))
  key_part k x name i a false h =
      fits_with _ _ (value k x) all (parts_of None ws) h
      (fits_next (parts_of None ws) (all ++ value k x ∷ []) start (idle_at (all ++ value k x ∷ []) closed place false) w ws (key_turn done own new place k x w name i a h)
      (behind_part (value k x) (λ v. refl)))

  state_part : (name : Text) → IsLong w name None → arg_by_long its name ≡ Some (rule 3) → (d : Bool) → stands state all ≡ d → Comes (with_part state (parts_of None ws))
  state_part name i a true h = fits_again _ _ state all (parts_of None ws) h (stops start w ws (flag_stops done own new place w name i a h))
  state_part name i a false h =
      fits_with _ _ state all (parts_of None ws) h
      (fits_next (parts_of None ws) (all ++ state ∷ []) start (idle_at (all ++ state ∷ []) closed place false) w ws (flag_turn done own new place w name i a h)
      (behind_part state (λ v. refl)))

  abbrev by_word : Word → Option (List Part)
  by_word word = begun word w ws (parts_of None ws) (λ k. parts_of (Some k) ws)

  option_part : (k : Key) (name : Text) (v : Option Text) → IsLong w name v → arg_by_long its name ≡ Some (key_rule k) → Comes (by_word (key k v))
  option_part k name None i a =
      fits_next (parts_of (Some k) ws) all start (waits_at all k place false) w ws (wait_turn done own new place k w name i a) (waits all k place here)
  option_part k name (Some x) i a = key_part k x name i a (stands (value k x) all) refl

  unknown_word : (word : Word) → word ≡ unknown → by_word word ≡ None
  unknown_word word e = rw e refl

  long_part : (name : Text) (v : Option Text) → IsLong w name v → Names name v → Comes (by_word (named name v))
  long_part name v i (an_option k n a) = rw n (option_part k name v i a)
  long_part name v i (the_flag n e a) = rw e (state_part name (subst (IsLong w name) n i) a (stands state all) refl)
  long_part name v i (a_value x n e a) =
      no_parts (by_word (named name v)) (unknown_word (named name v) e) (unknown_fails (map row_of done) (pending own) place w idle faults.nothing name v i e)
  long_part name v i (none e a) =
      no_parts (by_word (named name v)) (unknown_word (named name v) e) (unknown_fails (map row_of done) (pending own) place w idle faults.nothing name v i e)

  ends_part : bytes_eq w (45 ∷ 45 ∷ []) ≡ true → FitsFrom (with_own [] [] own (Some (map file ws))) done start (w ∷ ws)
  ends_part e =
      fits_next (with_own [] [] own (Some (map file ws))) done start (idle_at done own place true) w ws
      (ends_turn (map row_of done) (pending own) idle faults.nothing place w e) (trailing_fits ws done own place here)

  plain_at : (where_it_is : ℕ) → Leads all where_it_is → IsPlain w → FitsFrom (with_part (file w) (parts_of None ws)) all (idle_at done own where_it_is false) (w ∷ ws)
  plain_at _ (none_yet f) i =
      fits_next (with_part (file w) (parts_of None ws)) all (idle_at done own 1 false) (idle_at all (of_file w) 2 false) w ws (file_turn done own new w i)
      (idles all (of_file w) 2 (leads_file all w))
  plain_at _ (one_there f) i =
      fits_again _ _ (file w) all (parts_of None ws) (f w)
      (stops (idle_at done own 2 false) w ws (rw (plain_turn (map row_of done) (pending own) 2 w i) (second_fails (map row_of done) (pending own))))

  in_all : (o : Option (List Part)) → Comes o → FitsFrom (with_own [] [] own o) done start (w ∷ ws)
  in_all o f = fits_own _ _ own done o new f

  word_fits : Looks w → FitsFrom (with_own [] [] own (parts_of None (w ∷ ws))) done start (w ∷ ws)
  unfolding parts_of
  word_fits (ends e i) = rw e (ends_part i)
  word_fits (long name v n i) = rw n (in_all (by_word (named name v)) (long_part name v i (names name v)))
  word_fits (short flags n i) =
      rw n (in_all None (stops start w ws (short_fails (map row_of done) (pending own) place w idle faults.nothing flags i (subst IsUtf8 i.word u))))
  word_fits (other n i) = rw n (in_all (with_part (file w) (parts_of None ws)) (plain_at place here i))

idle_at_word : (w : Text) (ws : List Text) → AreTexts (w ∷ ws) → IdleFits ws → WaitsFit ws → (done : List Part) (own : Open) (place : ℕ) → Leads (done ++ opened own) place
    → (d : Bool) → again own done ≡ d → FitsFrom (with_own [] [] own (parts_of None (w ∷ ws))) done (idle_at done own place false) (w ∷ ws)
idle_at_word w ws u idles waits done own place here true h =
    fits_own_again _ _ own done (parts_of None (w ∷ ws)) h
    (idle_fails (map row_of done) (pending own) (w ∷ ws) place u (place_of (done ++ opened own) place here) (settle_again done own h))
idle_at_word w ws u idles waits done own place here false h = word_fits w ws u.0 idles waits done own place here h (looks w)

module _ (w : Text) (ws : List Text) (u : IsUtf8 w) (idles : IdleFits ws) (done : List Part) (k : Key) (place : ℕ) (here : Leads done place) where
  abbrev waiting : Walk
  waiting = waits_at done k place false

  fails_now : Fails (turn_fault shape [] waiting w) → Fails (kinds_from waiting (w ∷ ws))
  fails_now f = stops waiting w ws f

  not_valued : (name : Text) (v : Option Text) → Names name v → valued (named name v) k w (parts_of None ws) ≡ None
  not_valued name None (an_option j n a) = rw n refl
  not_valued name (Some x) (an_option j n a) = rw n refl
  not_valued name v (the_flag n e a) = rw e refl
  not_valued name v (a_value x n e a) = rw e refl
  not_valued name v (none e a) = rw e refl

  value_fits : Looks w → FitsFrom (parts_of (Some k) (w ∷ ws)) done waiting (w ∷ ws)
  unfolding parts_of
  value_fits (ends e i) =
      let t = ends_turn (map row_of done) (Some (name_of k, [])) (option (name_of k)) (faults.a_key (name_of k)) place w i in
      rw e (rw (goes_on waiting (waits_at done k place true) w ws t.0 t.1).0
      (trailing_fails (map row_of done) (Some (name_of k, [])) ws (option (name_of k)) place (place_of done place here) (waits_fails done k)))
  value_fits (long name v n i) =
      rw (n, not_valued name v (names name v))
      (fails_now (long_fails (map row_of done) (Some (name_of k, [])) place w (option (name_of k)) (faults.a_key (name_of k)) name v i (waits_fails done k)))
  value_fits (short flags n i) =
      rw n (fails_now (short_fails (map row_of done) (Some (name_of k, [])) place w (option (name_of k)) (faults.a_key (name_of k)) flags i (subst IsUtf8 i.word u)))
  value_fits (other n i) =
      rw n (fits_next (with_part (value k w) (parts_of None ws)) done waiting (idle_at done (of_key k w) place false) w ws (value_turn done k place w i)
      (idles done (of_key k w) place (leads_on done place (value k w) (λ v. refl) here)))

mutual
  unfolding parts_of

  pub idle_fits : (ws : List Text) → AreTexts ws → IdleFits ws
  idle_fits [] u done own place here = trailing_end done own place false (again own done) refl
  idle_fits (w ∷ ws) u done own place here = idle_at_word w ws u (idle_fits ws u.1) (waits_fits ws u.1) done own place here (again own done) refl

  waits_fits : (ws : List Text) → AreTexts ws → WaitsFit ws
  waits_fits [] u done k place here = end_fails (map row_of done) (Some (name_of k, [])) (option (name_of k)) place false (waits_fails done k)
  waits_fits (w ∷ ws) u done k place here = value_fits w ws u.0 (idle_fits ws u.1) done k place here (looks w)

-- what clap comes to, from the words behind `analyze`
pub words_fit : (ws : List Text) → AreTexts ws → FitsFrom (parts_of None ws) [] (idle_at [] closed 1 false) ws
words_fit ws u = idle_fits ws u [] closed 1 (none_yet (λ w. refl))
