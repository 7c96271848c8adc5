-- How a descent that looks one token ahead, and two where it must, goes through the tokens. It is a step of
-- the proof: the grammar says what is right.
use Rattle.std.specs.Prelude.{◌≡◌, ℕ, ◌+◌, ◌<◌, ◌≤◌, nat_lt, Bool, true, false, ◌&&◌, if◌then◌else◌, List, [], ◌∷◌, Option, Some, None}
use Rattle.c_syntax_written.specs.declared.construct.Construct.{Construct}
use Rattle.c_syntax_written.specs.declared.token.Placed.{Placed}
use Rattle.c_grammar.specs.Parts.{Scene, Part, Value}
use Rattle.c_grammar.specs.declared.class.Class.{Class}
use Rattle.c_grammar.specs.Classes.{Fits}
use Rattle.c_grammar.specs.Process.{Process, give, token, part, only}
use Rattle.c_grammar.specs.Front.{a_part}
use Rattle.c_grammar.specs.Refused.{Why, Syntax, Unsupported, TooDeep, token_construct, part_construct, is_bracket, forms_begun, nesting_limit}
use Rattle.c_grammar.specs.Choice.{choose}

-- a value and the tokens behind it, or why and where the descent stops: the tokens from there on
pub data Outcome (A : Type 0) : Type 0 where
  Done : A → List Placed → Outcome A
  Stop : Why → List Placed → Outcome A

abbrev pub why_construct : Option Construct → Why
why_construct (Some c) = Unsupported c
why_construct None = Syntax

abbrev pub why_token : Bool → Option Construct → Why
why_token true c = TooDeep
why_token false c = why_construct c

-- why these tokens are refused where something else must come
abbrev pub refusal : Scene → ℕ → List Placed → Why
refusal w d [] = Syntax
refusal w d (t ∷ ts) = why_token (is_bracket t.token && nat_lt nesting_limit (d + 1)) (token_construct w t.token)

-- why a token is refused that bears a construct of its place
abbrev pub barred : Part → ℕ → Construct → List Placed → Why
barred p d c [] = Unsupported c
barred p d c (t ∷ ts) = if nat_lt nesting_limit (d + forms_begun (a_part p) t.token) then TooDeep else Unsupported c

-- the first token is not of the class
abbrev pub NotFits : Scene → Class → List Placed → Type 0
NotFits w c [] = Unit {0}
NotFits w c (t ∷ ts) = Fits w c t.token → ⊥

mutual
  -- With so many forms unfinished, the descent reads the part from the tokens with this outcome.
  pub data Goes : ℕ → Scene → (p : Part) → List Placed → Outcome (Value p) → Type 0 where
    is_barred : {d : ℕ} {w : Scene} {p : Part} {ts : List Placed} {c : Construct} → part_construct w p ts ≡ Some c → Goes d w p ts (Stop (barred p d c ts) ts)
    no_rule : {d : ℕ} {w : Scene} {p : Part} {ts : List Placed} → part_construct w p ts ≡ None → choose w p ts ≡ None → Goes d w p ts (Stop (refusal w d ts) ts)
    by_rule : {d : ℕ} {w : Scene} {p : Part} {ts : List Placed} {o : Outcome (Value p)} (q : Process (Value p)) (rule : _)
        → part_construct w p ts ≡ None → choose w p ts ≡ Some (q, rule) → Follows d w p q ts o → Goes d w p ts o

  -- So it reads what is left of a production of the part.
  pub data Follows : ℕ → Scene → (p : Part) → Process (Value p) → List Placed → Outcome (Value p) → Type 0 where
    is_done : {d : ℕ} {w : Scene} {p : Part} {v : Value p} {ts : List Placed} → Follows d w p (give v) ts (Done v ts)
    takes : {d : ℕ} {w : Scene} {p : Part} {n : ℕ} {c : Class} {k : Placed → Process (Value p)} {t : Placed} {ts : List Placed} {o : Outcome (Value p)}
        → Fits w c t.token → d + n ≤ nesting_limit → token_construct w t.token ≡ None → Follows d w p (k t) ts o
        → Follows d w p (token n c k) (t ∷ ts) o
    is_deep : {d : ℕ} {w : Scene} {p : Part} {n : ℕ} {c : Class} {k : Placed → Process (Value p)} {t : Placed} {ts : List Placed}
        → Fits w c t.token → nesting_limit < d + n → Follows d w p (token n c k) (t ∷ ts) (Stop TooDeep (t ∷ ts))
    is_borne : {d : ℕ} {w : Scene} {p : Part} {n : ℕ} {c : Class} {k : Placed → Process (Value p)} {t : Placed} {ts : List Placed} {b : Construct}
        → Fits w c t.token → d + n ≤ nesting_limit → token_construct w t.token ≡ Some b
        → Follows d w p (token n c k) (t ∷ ts) (Stop (Unsupported b) (t ∷ ts))
    is_left : {d : ℕ} {w : Scene} {p : Part} {n : ℕ} {c : Class} {k : Placed → Process (Value p)} {ts : List Placed} → NotFits w c ts
        → Follows d w p (token n c k) ts (Stop (refusal w d ts) ts)
    goes_on : {d : ℕ} {w s : Scene} {p i : Part} {n : ℕ} {k : Value i → Process (Value p)} {a : Value i} {ts mid : List Placed} {o : Outcome (Value p)}
        → Goes (d + n) s i ts (Done a mid) → Follows d w p (k a) mid o → Follows d w p (part n s i k) ts o
    stops : {d : ℕ} {w s : Scene} {p i : Part} {n : ℕ} {k : Value i → Process (Value p)} {ts rest : List Placed} {why : Why}
        → Goes (d + n) s i ts (Stop why rest) → Follows d w p (part n s i k) ts (Stop why rest)
    passes : {d : ℕ} {w : Scene} {p : Part} {f : List Placed → Bool} {q : Process (Value p)} {ts : List Placed} {o : Outcome (Value p)}
        → f ts ≡ true → Follows d w p q ts o → Follows d w p (only f q) ts o
    fails : {d : ℕ} {w : Scene} {p : Part} {f : List Placed → Bool} {q : Process (Value p)} {ts : List Placed} → f ts ≡ false
        → Follows d w p (only f q) ts (Stop (refusal w d ts) ts)
