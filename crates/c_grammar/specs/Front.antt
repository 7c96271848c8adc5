-- Which tokens begin a file, what may come behind them, and how many forms are unfinished there.
use Rattle.std.specs.Prelude.{◌≡◌, ℕ, ◌+◌, Bool, true, false, List, [], ◌∷◌, ◌++◌}
use Rattle.c_syntax_written.specs.declared.token.Placed.{Placed}
use Rattle.c_syntax_written.specs.WrittenFile.{FileTree}
use Rattle.c_grammar.specs.Parts.{Scene, Part, Outers, Value}
use Rattle.c_grammar.specs.declared.class.Class.{Class}
use Rattle.c_grammar.specs.Classes.{Fits}
use Rattle.c_grammar.specs.Process.{Process, give, token, part, only}
use Rattle.c_grammar.specs.Grammar.{Produces, Derives, at_start, IsTree}

-- what comes next at a place: a token, at which so many forms of its production are unfinished, a part, or
-- something else than what is there, which does not pass a test
pub data Next : Type 0 where
  a_token : ℕ → Class → Next
  a_part : Part → Next
  a_test : Next

-- a place in a file that is not whole: its scene, how many forms are unfinished, what comes next, and
-- whether something of the innermost production was read
pub record Place : Type 0 where
  pub scene : Scene
  pub count : ℕ
  pub next : Next
  pub begun : Bool

-- with more unfinished forms around it
abbrev pub deeper : ℕ → Place → Place
deeper n at = record { scene = at.scene; count = n + at.count; next = at.next; begun = at.begun }

mutual
  -- A part is read from the first tokens up to the second, and stands open at a place.
  pub data Front : Scene → Part → List Placed → List Placed → Place → Type 0 where
    in_part : {w : Scene} {p : Part} {q : Process (Value p)} {ts rest : List Placed} {at : Place} → Produces w p q → Reads false w p q ts rest at
        → Front w p ts rest at

  -- What is left of a production is read so: its tokens and parts are whole, in their order, up to one
  -- that is not there yet, or a part that itself stands open. The mark tells whether something of the
  -- production was read before.
  pub data Reads : Bool → Scene → (p : Part) → Process (Value p) → List Placed → List Placed → Place → Type 0 where
    at_token : {b : Bool} {w : Scene} {p : Part} {n : ℕ} {c : Class} {k : Placed → Process (Value p)} {ts : List Placed}
        → Reads b w p (token n c k) ts ts (record { scene = w; count = 0; next = a_token n c; begun = b })
    at_part : {b : Bool} {w s : Scene} {p i : Part} {n : ℕ} {k : Value i → Process (Value p)} {ts : List Placed}
        → Reads b w p (part n s i k) ts ts (record { scene = s; count = n; next = a_part i; begun = b })
    at_test : {b : Bool} {w : Scene} {p : Part} {f : List Placed → Bool} {q : Process (Value p)} {ts : List Placed} → f ts ≡ false
        → Reads b w p (only f q) ts ts (record { scene = w; count = 0; next = a_test; begun = b })
    behind_token : {b : Bool} {w : Scene} {p : Part} {n : ℕ} {c : Class} {k : Placed → Process (Value p)} {t : Placed} {ts rest : List Placed} {at : Place}
        → Fits w c t.token → Reads true w p (k t) ts rest at → Reads b w p (token n c k) (t ∷ ts) rest at
    inside : {b : Bool} {w s : Scene} {p i : Part} {n : ℕ} {k : Value i → Process (Value p)} {ts rest : List Placed} {at : Place}
        → Front s i ts rest at → Reads b w p (part n s i k) ts rest (deeper n at)
    behind_part : {b : Bool} {w s : Scene} {p i : Part} {n : ℕ} {k : Value i → Process (Value p)} {a : Value i} {ts mid rest : List Placed} {at : Place}
        → Derives s i ts mid a → Reads true w p (k a) mid rest at → Reads b w p (part n s i k) ts rest at
    where_so : {b : Bool} {w : Scene} {p : Part} {f : List Placed → Bool} {q : Process (Value p)} {ts rest : List Placed} {at : Place}
        → f ts ≡ true → Reads b w p q ts rest at → Reads b w p (only f q) ts rest at

-- A file is read from the first tokens up to the second, and stands open at the place.
abbrev pub StandsAt : List Placed → List Placed → Place → Type 0
StandsAt tokens rest at = Reads true at_start (Outers []) (part 0 at_start (Outers []) give) tokens rest at

-- The first tokens, with the second behind them, begin a file.
abbrev pub Starts : List Placed → List Placed → Type 0
Starts front rest = (at : Place) × StandsAt (front ++ rest) rest at

-- The tokens begin a file up to the first of the rest and not with it, or up to their end and are none.
abbrev pub StopsAt : List Placed → List Placed → Type 0
StopsAt front [] = Starts front [] × ((file : FileTree) → IsTree front file → ⊥)
StopsAt front (t ∷ rest) = Starts front (t ∷ rest) × (Starts (front ++ t ∷ []) rest → ⊥)
