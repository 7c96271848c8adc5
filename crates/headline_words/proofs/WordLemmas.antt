-- How clap reads the words.
use Rattle.std.proofs.Common.{◌≡◌, refl, sym, subst, arith, ℕ, Bool, true, false, List, [], ◌∷◌}
use Rattle.std.proofs.Common.{Option, Some, None, codes}
use Rattle.std.specs.Prelude.{slice_index_or, ◌==◌}
use Rattle.std.specs.Str.{bytes_eq}
use Rattle.clap.specs.Lexer.{long_of, short_of, name_and_value}
use Rattle.clap.specs.Walk.{Rule, Text, arg_by_long}
use Rattle.clap.specs.Simple.{Shape, built}
use Rattle.headline_words.specs.Parser.{analyze_app, file_rule}
use Rattle.headline_words.specs.Command.{Key, unroll, narrow, ramp, dashes, flag, key, unknown, plain, named, word_of}

abbrev pub shape : Shape
shape = (built analyze_app).top

abbrev pub its : List Rule
its = (built analyze_app).top.rules

abbrev pub name_of : Key → Text
name_of unroll = codes "unroll"
name_of narrow = codes "narrow"
name_of ramp = codes "ramp"

-- ---- what a word looks like

abbrev pub two : Text
two = 45 ∷ 45 ∷ []

pub record IsPlain (w : Text) : Type 0 where
  pub dashes : bytes_eq w two ≡ false
  pub long : long_of w ≡ None
  pub short : short_of w ≡ None

pub record IsLong (w name : Text) (v : Option Text) : Type 0 where
  pub dashes : bytes_eq w two ≡ false
  pub long : long_of w ≡ Some (name, v)

pub record IsShort (w flags : Text) : Type 0 where
  pub dashes : bytes_eq w two ≡ false
  pub long : long_of w ≡ None
  pub short : short_of w ≡ Some flags
  pub some : (b : ℕ) × (bs : Text) × (flags ≡ b ∷ bs)
  pub word : w ≡ 45 ∷ flags

pub data Looks (w : Text) : Type 0 where
  ends : word_of w ≡ dashes → bytes_eq w two ≡ true → Looks w
  long : (name : Text) (v : Option Text) → word_of w ≡ named name v → IsLong w name v → Looks w
  short : (flags : Text) → word_of w ≡ unknown → IsShort w flags → Looks w
  other : word_of w ≡ plain → IsPlain w → Looks w

is_45 : (b : ℕ) → (b == 45) ≡ true → b ≡ 45
is_45 b h = search (arith, h)

looks_short : (c : ℕ) (cs : Text) → (c == 45) ≡ false → Looks (45 ∷ c ∷ cs)
looks_short c cs h = short (c ∷ cs) (rw h refl) (record { dashes = rw h refl; long = rw h refl; short = rw h refl; some = (c, cs, refl); word = refl })

looks_long : (cs : Text) → Looks (45 ∷ 45 ∷ cs)
looks_long [] = ends refl refl
looks_long (e ∷ es) = long (name_and_value (e ∷ es)).0 (name_and_value (e ∷ es)).1 refl (record { dashes = refl; long = refl })

looks_dash_at : (c : ℕ) (cs : Text) (d : Bool) → (c == 45) ≡ d → Looks (45 ∷ c ∷ cs)
looks_dash_at c cs true h = subst (λ (x : ℕ). Looks (45 ∷ x ∷ cs)) (sym (is_45 c h)) (looks_long cs)
looks_dash_at c cs false h = looks_short c cs h

looks_dash : (bs : Text) → Looks (45 ∷ bs)
looks_dash [] = other refl (record { dashes = refl; long = refl; short = refl })
looks_dash (c ∷ cs) = looks_dash_at c cs (c == 45) refl

looks_at : (b : ℕ) (bs : Text) (d : Bool) → (b == 45) ≡ d → Looks (b ∷ bs)
looks_at b bs true h = subst (λ (x : ℕ). Looks (x ∷ bs)) (sym (is_45 b h)) (looks_dash bs)
looks_at b bs false h = other (rw h refl) (record { dashes = rw h refl; long = rw h refl; short = rw h refl })

pub looks : (w : Text) → Looks w
looks [] = other refl (record { dashes = refl; long = refl; short = refl })
looks (b ∷ bs) = looks_at b bs (b == 45) refl

-- ---- the option of a name

abbrev pub rule : ℕ → Rule
rule k = slice_index_or its k file_rule

abbrev pub key_rule : Key → Rule
key_rule unroll = rule 0
key_rule narrow = rule 1
key_rule ramp = rule 2

pub data Names (name : Text) (v : Option Text) : Type 0 where
  an_option : (k : Key) → named name v ≡ key k v → arg_by_long its name ≡ Some (key_rule k) → Names name v
  the_flag : v ≡ None → named name v ≡ flag → arg_by_long its name ≡ Some (rule 3) → Names name v
  a_value : (w : Text) → v ≡ Some w → named name v ≡ unknown → arg_by_long its name ≡ Some (rule 3) → Names name v
  none : named name v ≡ unknown → arg_by_long its name ≡ None → Names name v

names_state : (name : Text) (v : Option Text) → bytes_eq (codes "unroll") name ≡ false → bytes_eq (codes "narrow") name ≡ false
    → bytes_eq (codes "ramp") name ≡ false → bytes_eq (codes "state") name ≡ true → Names name v
names_state name None u n r s = the_flag refl (rw (u, n, r, s) refl) (rw (u, n, r, s) refl)
names_state name (Some w) u n r s = a_value w refl (rw (u, n, r, s) refl) (rw (u, n, r, s) refl)

names_at : (name : Text) (v : Option Text) (u n r s : Bool) → bytes_eq (codes "unroll") name ≡ u → bytes_eq (codes "narrow") name ≡ n
    → bytes_eq (codes "ramp") name ≡ r → bytes_eq (codes "state") name ≡ s → Names name v
names_at name v true n r s hu hn hr hs = an_option unroll (rw hu refl) (rw hu refl)
names_at name v false true r s hu hn hr hs = an_option narrow (rw (hu, hn) refl) (rw (hu, hn) refl)
names_at name v false false true s hu hn hr hs = an_option ramp (rw (hu, hn, hr) refl) (rw (hu, hn, hr) refl)
names_at name v false false false true hu hn hr hs = names_state name v hu hn hr hs
names_at name v false false false false hu hn hr hs = none (rw (hu, hn, hr, hs) refl) (rw (hu, hn, hr, hs) refl)

pub names : (name : Text) (v : Option Text) → Names name v
names name v = names_at name v (bytes_eq (codes "unroll") name) (bytes_eq (codes "narrow") name) (bytes_eq (codes "ramp") name)
    (bytes_eq (codes "state") name) refl refl refl refl
