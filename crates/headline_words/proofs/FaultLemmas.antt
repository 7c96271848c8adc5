-- Words at which clap stops.
use Rattle.std.proofs.Common.{◌≡◌, refl, sym, ap, subst, ◌∙◌, arith, ℕ, zero, suc, Bool, true, false, List, [], ◌∷◌}
use Rattle.std.proofs.Common.{Option, Some, None}
use Rattle.std.specs.Prelude.{◌&&◌, slice_get}
use Rattle.std.specs.Str.{bytes_eq, chars, IsAscii, IsUtf8}
use Rattle.std.proofs.lemmas.Str.{chars-append, chars_from_encodes, IsUtf8-from_ascii}
use lib.Utf8.{encode, encodes}
use Rattle.clap.specs.Walk.{Row, Held, Walk, Waiting, idle, option, value, is_pending, Text, walked, arg_by_long}
use Rattle.clap.specs.Faults.{settle_fault, walk_fault, turn_fault, word_fault, step_fault, long_fault, bundle_fault, flags_fault}
use Rattle.headline_words.specs.Command.{Key, unroll, narrow, ramp, key, flag, unknown, named}
use Rattle.headline_words.proofs.WordLemmas.{shape, its, rule, key_rule, IsLong, IsShort, IsPlain, Looks, ends, long, short, other, looks, Names, an_option, the_flag, a_value, none, names, two}
use Rattle.headline_words.proofs.StepLemmas.{Fails, kinds_from, or_fails, stops, goes_on}

-- where nothing is pending, or an option waits
abbrev pub in_state : Held → Waiting → ℕ → Bool → Walk
in_state h waiting place trailing = record { held = h; waiting = waiting; position = place; is_trailing = trailing; stopped = None }

-- what waits before a word that may be an option
pub data Open : Waiting → Type 0 where
  nothing : Open idle
  a_key : (id : Text) → Open (option id)

-- ---- texts

tail_is : (xs ys : List ℕ) → 45 ∷ xs ≡ 45 ∷ ys → xs ≡ ys
tail_is xs ys e = cc

dash_ascii : IsAscii (45 ∷ [])
dash_ascii zero = omega arith
dash_ascii (suc i) = omega arith

both_codes : (flags : Text) → IsUtf8 (45 ∷ flags) → encodes (chars flags) ≡ flags
unfolding chars encode
both_codes flags u =
    let all : chars (45 ∷ flags) ≡ 45 ∷ chars flags = chars-append (45 ∷ []) flags (IsUtf8-from_ascii (45 ∷ []) dash_ascii) in
    let cs : u.0 ≡ 45 ∷ chars flags = chars_from_encodes u.0 (45 ∷ flags) u u.1.1 ∙ all in
    tail_is (encodes (chars flags)) flags (subst (λ (xs : List ℕ). encodes xs ≡ 45 ∷ flags) cs u.1.1)

first_char : (cs flags : Text) → encodes cs ≡ flags → (b : ℕ) (bs : Text) → flags ≡ b ∷ bs → (x : ℕ) × (slice_get cs 0 ≡ Some x)
first_char [] flags e b bs f = absurd (cc)
first_char (c ∷ cs) flags e b bs f = (c, refl)

-- ---- one word

module _ (rows : List Row) (p : Option (Text × List Text)) (place : ℕ) (word : Text) where
  abbrev h : Held
  h = record { rows = rows; pending = p; skip = 0 }

  turn_fails : (waiting : Waiting) → Fails (word_fault shape [] false waiting word h) → Fails (turn_fault shape [] (in_state h waiting place false) word)
  turn_fails waiting f = or_fails (word_fault shape [] false waiting word h) _ f

  long_is : (waiting : Waiting) → Open waiting → (name : Text) (v : Option Text) → IsLong word name v
      → word_fault shape [] false waiting word h ≡ long_fault its false (arg_by_long its name) v h
  long_is _ nothing name v i = rw (i.dashes, i.long) refl
  long_is _ (a_key id) name v i = rw (i.dashes, i.long) refl

  short_is : (waiting : Waiting) → Open waiting → (flags : Text) → IsShort word flags → word_fault shape [] false waiting word h ≡ bundle_fault its false flags h
  short_is _ nothing flags i = rw (i.dashes, i.long, i.short) refl
  short_is _ (a_key id) flags i = rw (i.dashes, i.long, i.short) refl

  -- with an option, what is pending is used first
  long_settles : (k : Key) (v : Option Text) → Fails (settle_fault its false h) → Fails (long_fault its false (Some (key_rule k)) v h)
  long_settles unroll None f = f
  long_settles unroll (Some v) f = or_fails (settle_fault its false h) _ f
  long_settles narrow None f = f
  long_settles ramp None f = f
  long_settles narrow (Some v) f = or_fails (settle_fault its false h) _ f
  long_settles ramp (Some v) f = or_fails (settle_fault its false h) _ f

  flag_settles : Fails (settle_fault its false h) → Fails (long_fault its false (Some (rule 3)) None h)
  flag_settles f = or_fails (settle_fault its false h) _ f

  named_fails : (name : Text) (v : Option Text) → Fails (settle_fault its false h) → Names name v → Fails (long_fault its false (arg_by_long its name) v h)
  named_fails name v f (an_option k n e) = rw e (long_settles k v f)
  named_fails name v f (the_flag n e a) = rw (a, n) (flag_settles f)
  named_fails name v f (a_value w n e a) = rw (a, n) (λ x. absurd (cc))
  named_fails name v f (none n e) = rw e (λ x. absurd (cc))

  pub long_fails : (waiting : Waiting) → Open waiting → (name : Text) (v : Option Text) → IsLong word name v → Fails (settle_fault its false h)
      → Fails (turn_fault shape [] (in_state h waiting place false) word)
  long_fails waiting o name v i f = turn_fails waiting (rw (long_is waiting o name v i) (named_fails name v f (names name v)))

  not_known : (name : Text) (v : Option Text) → named name v ≡ unknown → Names name v → Fails (long_fault its false (arg_by_long its name) v h)
  not_known name v u (an_option k n e) = absurd (let x : key k v ≡ unknown = sym n ∙ u in cc)
  not_known name v u (the_flag n e a) = absurd (let x : flag ≡ unknown = sym e ∙ u in cc)
  not_known name v u (a_value w n e a) = rw (a, n) (λ x. absurd (cc))
  not_known name v u (none n e) = rw e (λ x. absurd (cc))

  pub unknown_fails : (waiting : Waiting) → Open waiting → (name : Text) (v : Option Text) → IsLong word name v → named name v ≡ unknown
      → Fails (turn_fault shape [] (in_state h waiting place false) word)
  unknown_fails waiting o name v i u = turn_fails waiting (rw (long_is waiting o name v i) (not_known name v u (names name v)))

  bundle_at : (b : ℕ) (bs : Text) (x : ℕ) → slice_get (chars (b ∷ bs)) 0 ≡ Some x → Fails (bundle_fault its false (b ∷ bs) h)
  unfolding flags_fault
  bundle_at b bs x e = rw e (λ y. absurd (cc))

  bundle_fails : (flags : Text) → (b : ℕ) (bs : Text) → flags ≡ b ∷ bs → IsUtf8 (45 ∷ flags) → Fails (bundle_fault its false flags h)
  bundle_fails flags b bs e u =
      let x = first_char (chars flags) flags (both_codes flags u) b bs e in
      let y : slice_get (chars (b ∷ bs)) 0 ≡ Some x.0 = ap (λ (f : Text). slice_get (chars f) 0) (sym e) ∙ x.1 in
      subst (λ (f : Text). Fails (bundle_fault its false f h)) (sym e) (bundle_at b bs x.0 y)

  pub short_fails : (waiting : Waiting) → Open waiting → (flags : Text) → IsShort word flags → IsUtf8 (45 ∷ flags)
      → Fails (turn_fault shape [] (in_state h waiting place false) word)
  short_fails waiting o flags i u = turn_fails waiting (rw (short_is waiting o flags i) (bundle_fails flags i.some.0 i.some.1 i.some.2 u))

-- ---- a part that cannot be used

-- the file is still to come, or stands before
pub data Place : ℕ → Type 0 where
  before : Place 1
  behind : Place 2

abbrev pub AreTexts : List Text → Type 0
AreTexts [] = Unit {0}
AreTexts (w ∷ ws) = IsUtf8 w × AreTexts ws

pub and_false : (a : Bool) → (a && false) ≡ false
and_false true = refl
and_false false = refl

module _ (rows : List Row) (p : Option (Text × List Text)) where
  abbrev its_held : Held
  its_held = record { rows = rows; pending = p; skip = 0 }

  -- where a word is no option, it is a file
  pub file_settles : step_fault shape 1 its_held value ≡ settle_fault its false its_held
  file_settles = rw (and_false (is_pending (rule 4) p)) refl

  pub second_fails : Fails (step_fault shape 2 its_held value)
  second_fails e = absurd (cc)

  file_fails : (place : ℕ) → Place place → Fails (settle_fault its false its_held) → Fails (step_fault shape place its_held value)
  file_fails _ before f = rw file_settles f
  file_fails _ behind f = second_fails

  pub plain_turn : (place : ℕ) (word : Text) → IsPlain word → turn_fault shape [] (in_state its_held idle place false) word ≡ step_fault shape place its_held value
  plain_turn place word i = rw (i.dashes, i.long, i.short) refl

  pub ends_turn : (waiting : Waiting) → Open waiting → (place : ℕ) (word : Text) → bytes_eq word two ≡ true
      → (turn_fault shape [] (in_state its_held waiting place false) word ≡ [])
      × (walked its [] (in_state its_held waiting place false) word ≡ in_state its_held waiting place true)
  unfolding walked
  ends_turn _ nothing place word i = (rw i refl, rw i refl)
  ends_turn _ (a_key id) place word i = (rw i refl, rw i refl)

  pub end_fails : (waiting : Waiting) (place : ℕ) (trailing : Bool) → Fails (settle_fault its false its_held) → Fails (kinds_from (in_state its_held waiting place trailing) [])
  unfolding walk_fault
  end_fails waiting place trailing f = or_fails (settle_fault its false its_held) _ f

  pub trailing_fails : (ws : List Text) (waiting : Waiting) (place : ℕ) → Place place → Fails (settle_fault its false its_held)
      → Fails (kinds_from (in_state its_held waiting place true) ws)
  trailing_fails [] waiting place here f = end_fails waiting place true f
  trailing_fails (w ∷ ws) waiting place here f = stops (in_state its_held waiting place true) w ws (file_fails place here f)

  word_fails : (w : Text) (ws : List Text) (place : ℕ) → IsUtf8 w → Place place → Fails (settle_fault its false its_held) → Looks w
      → Fails (kinds_from (in_state its_held idle place false) (w ∷ ws))
  word_fails w ws place u here f (ends e i) =
      let t = ends_turn idle nothing place w i in
      rw (goes_on (in_state its_held idle place false) (in_state its_held idle place true) w ws t.0 t.1).0 (trailing_fails ws idle place here f)
  word_fails w ws place u here f (long name v n i) = stops (in_state its_held idle place false) w ws (long_fails rows p place w idle nothing name v i f)
  word_fails w ws place u here f (short flags n i) =
      stops (in_state its_held idle place false) w ws (short_fails rows p place w idle nothing flags i (subst IsUtf8 i.word u))
  word_fails w ws place u here f (other n i) = stops (in_state its_held idle place false) w ws (rw (plain_turn place w i) (file_fails place here f))

  pub idle_fails : (ws : List Text) (place : ℕ) → AreTexts ws → Place place → Fails (settle_fault its false its_held)
      → Fails (kinds_from (in_state its_held idle place false) ws)
  idle_fails [] place u here f = end_fails idle place false f
  idle_fails (w ∷ ws) place u here f = word_fails w ws place u.0 here f (looks w)
