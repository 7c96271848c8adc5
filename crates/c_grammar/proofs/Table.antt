-- What the descent's theory asks of the productions: facts that are read off their table, one production at a
-- time. The theory is over any such table.
use Rattle.std.specs.Prelude.{◌≡◌, ℕ, ◌≤◌, Bool, true, false, List, [], ◌∷◌, ◌++◌, Some, None}
use Rattle.c_syntax_written.specs.declared.construct.Construct.{Construct}
use Rattle.c_syntax_written.specs.declared.token.Placed.{Placed}
use Rattle.c_syntax_written.specs.declared.token.Token.{Token}
use Rattle.c_syntax_written.specs.WrittenFile.{OuterTree}
use Rattle.c_grammar.specs.Parts.{Scene, Part, AnOuter, Outer, Outers, Value}
use Rattle.c_grammar.specs.declared.class.Class.{Class}
use Rattle.c_grammar.specs.Classes.{Fits}
use Rattle.c_grammar.specs.Process.{Process, give, token, part, only}
use Rattle.c_grammar.specs.Ahead.{at_end}
use Rattle.c_grammar.specs.FileRules.{after_outer}
use Rattle.c_grammar.specs.Grammar.{Produces, Spells}
use Rattle.c_grammar.specs.Front.{a_part}
use Rattle.c_grammar.specs.Refused.{token_construct, part_construct, forms_begun, is_bracket, may_be_empty}
use Rattle.c_grammar.specs.Choice.{choose}

-- which tokens may be the first of a part
abbrev pub Begins : Type 0
Begins = Scene → Part → Token → Bool

-- which tokens may continue a part that could end with this value
abbrev pub Continues : Type 0
Continues = Scene → (p : Part) → Value p → Token → Bool

-- the first token cannot continue the part
abbrev pub Quiet : Continues → Scene → (p : Part) → Value p → List Placed → Type 0
Quiet continues w p v [] = Unit {0}
Quiet continues w p v (t ∷ ts) = continues w p v t.token ≡ false

-- The first token may be the first of what is left of a production, whose tests it passes.
pub data Leads (begins : Begins) : Scene → (p : Part) → Process (Value p) → List Placed → Type 0 where
  leads_token : {w : Scene} {p : Part} {n : ℕ} {c : Class} {k : Placed → Process (Value p)} {t : Placed} {ts : List Placed} → Fits w c t.token → Leads begins w p (token n c k) (t ∷ ts)
  leads_part : {w s : Scene} {p i : Part} {n : ℕ} {k : Value i → Process (Value p)} {t : Placed} {ts : List Placed} → begins s i t.token ≡ true → Leads begins w p (part n s i k) (t ∷ ts)
  leads_behind : {w s : Scene} {p i : Part} {n : ℕ} {k : Value i → Process (Value p)} {ts : List Placed} (a : Value i) → may_be_empty i ≡ true → Leads begins w p (k a) ts → Leads begins w p (part n s i k) ts
  leads_only : {w : Scene} {p : Part} {f : List Placed → Bool} {q : Process (Value p)} {ts : List Placed} → f ts ≡ true → Leads begins w p q ts → Leads begins w p (only f q) ts

-- the descent takes this production
abbrev pub IsChoice : Scene → (p : Part) → List Placed → Process (Value p) → Type 0
IsChoice w p ts q = (rule : Produces w p q) × (choose w p ts ≡ Some (q, rule))

-- How a production begins: with a token; with a part that has one, in the same scene and count; with a part
-- that may be empty, and then so may the whole, which is that part alone; or not at all.
pub data Shape (w : Scene) (p : Part) : Process (Value p) → Type 0 where
  shape_give : {v : Value p} → may_be_empty p ≡ true → Shape w p (give v)
  shape_end : {f : List Placed → Bool} {v : Value p} → ((t : Placed) (ts : List Placed) → f (t ∷ ts) ≡ false) → Shape w p (only f (give v))
  shape_token : {n : ℕ} {c : Class} {k : Placed → Process (Value p)} → Shape w p (token n c k)
  shape_part : {i : Part} {k : Value i → Process (Value p)} → may_be_empty i ≡ false → Shape w p (part 0 w i k)
  shape_chain : {i : Part} (make : Value i → Value p) → may_be_empty i ≡ may_be_empty p → Shape w p (part 0 w i (λ a. give (make a)))
  shape_only : {f : List Placed → Bool} {q : Process (Value p)} → Shape w p q → Shape w p (only f q)

-- the process may have no token where one follows
abbrev pub Empties : {A : Type 0} → Process A → Type 0
Empties (give v) = Unit {0}
Empties (token n c k) = ⊥
Empties (part n s i k) = may_be_empty i ≡ true
Empties (only f q) = Empties q

-- a part that comes next has no more unfinished forms at it than these
abbrev pub Lower : {A : Type 0} → ℕ → Process A → Type 0
Lower n (give v) = Unit {0}
Lower n (token m c k) = Unit {0}
Lower n (part m s i k) = m ≤ n
Lower n (only f q) = Lower n q

-- what comes first is a part, and the part is such
abbrev pub AtFirst : {A : Type 0} → (Part → Type 0) → Process A → Type 0
AtFirst test (give v) = ⊥
AtFirst test (token n c k) = ⊥
AtFirst test (part n s i k) = test i
AtFirst test (only f q) = AtFirst test q

-- how many forms the token begins at most, where it is the first of the process
abbrev pub FirstForms : {A : Type 0} → (Scene → Part → Token → ℕ) → Scene → Token → ℕ → Process A → Type 0
FirstForms forms w t m (give v) = Unit {0}
FirstForms forms w t m (token n c k) = Fits w c t → n ≤ m
FirstForms forms w t m (part n s i k) = forms w i t ≤ m
FirstForms forms w t m (only f q) = FirstForms forms w t m q

-- What the descent has chosen for a part that may be empty does not fail at its first token: it has none, or
-- the token fits, or it begins with a part that may be empty, or with one of which this holds.
pub data Sure : Scene → (p : Part) → Process (Value p) → List Placed → Type 0 where
  sure_give : {w : Scene} {p : Part} {v : Value p} {ts : List Placed} → Sure w p (give v) ts
  sure_token : {w : Scene} {p : Part} {n : ℕ} {c : Class} {k : Placed → Process (Value p)} {t : Placed} {ts : List Placed} → Fits w c t.token → Sure w p (token n c k) (t ∷ ts)
  sure_part : {w : Scene} {p i : Part} {n : ℕ} {k : Value i → Process (Value p)} {ts : List Placed} {q : Process (Value i)} (rule : Produces w i q) → choose w i ts ≡ Some (q, rule) → Sure w i q ts → Sure w p (part n w i k) ts
  sure_chain : {w s : Scene} {p i : Part} {n : ℕ} {k : Value i → Process (Value p)} {ts : List Placed} → may_be_empty i ≡ true → Sure w p (part n s i k) ts
  sure_only : {w : Scene} {p : Part} {f : List Placed → Bool} {q : Process (Value p)} {ts : List Placed} → f ts ≡ true → Sure w p q ts → Sure w p (only f q) ts

-- the two productions of the rest of a file
pub data FileShape (w : Scene) (before : List OuterTree) : Process (List OuterTree) → Type 0 where
  file_ends : FileShape w before (only at_end (give before))
  file_goes_on : FileShape w before (part 0 w (AnOuter Outer) (λ next. part 0 (after_outer w next) (Outers (before ++ next ∷ [])) give))

-- behind each part of a production, what may follow it there does not continue it
abbrev pub Follow : Begins → Continues → Scene → (p i : Part) → Scene → Value i → Process (Value p) → Type 0
Follow begins continues w p i s a q = ((ts : List Placed) → Leads begins w p q ts → Quiet continues s i a ts) × ((ts : List Placed) (v : Value p) → Spells w p q ts ts v → Quiet continues w p v ts → Quiet continues s i a ts)

pub data WellFollowed (begins : Begins) (continues : Continues) (w : Scene) (p : Part) : Process (Value p) → Type 0 where
  well_give : {v : Value p} → WellFollowed begins continues w p (give v)
  well_token : {n : ℕ} {c : Class} {k : Placed → Process (Value p)} → ((t : Placed) → Fits w c t.token → is_bracket t.token ≡ true → 1 ≤ n) → ((t : Placed) → Fits w c t.token → WellFollowed begins continues w p (k t)) → WellFollowed begins continues w p (token n c k)
  well_part : {i : Part} {s : Scene} {n : ℕ} {k : Value i → Process (Value p)} → ((a : Value i) → Follow begins continues w p i s a (k a)) → ((a : Value i) → Lower n (k a)) → ((a : Value i) → WellFollowed begins continues w p (k a)) → WellFollowed begins continues w p (part n s i k)
  well_only : {f : List Placed → Bool} {q : Process (Value p)} → WellFollowed begins continues w p q → WellFollowed begins continues w p (only f q)

pub record Table : Type 0 where
  pub begins : Begins
  pub continues : Continues
  -- what a production begins with, its part begins with
  pub rule_begins : {w : Scene} {p : Part} {q : Process (Value p)} → Produces w p q → (t : Placed) (ts : List Placed) → Leads begins w p q (t ∷ ts) → begins w p t.token ≡ true
  pub rule_shape : {w : Scene} {p : Part} {q : Process (Value p)} → Produces w p q → Shape w p q
  -- the descent takes the production whose first token comes
  pub predicts : {w : Scene} {p : Part} {q : Process (Value p)} → Produces w p q → (ts : List Placed) → Leads begins w p q ts → part_construct w p ts ≡ None → IsChoice w p ts q
  -- and one of no tokens where none that continues it comes
  pub predicts_empty : {w : Scene} {p : Part} {q : Process (Value p)} → Produces w p q → (ts : List Placed) (v : Value p) → Spells w p q ts ts v → Quiet continues w p v ts → part_construct w p ts ≡ None → IsChoice w p ts q
  pub rule_follows : {w : Scene} {p : Part} {q : Process (Value p)} → Produces w p q → WellFollowed begins continues w p q
  -- a token that bears a construct of a part counts as one that begins it
  pub construct_begins : (w : Scene) (p : Part) (t : Placed) (ts : List Placed) (c : Construct) → part_construct w p (t ∷ ts) ≡ Some c → begins w p t.token ≡ true
  -- no token bears a construct of itself and one of its place
  pub one_construct : (w s : Scene) (p : Part) (t : Placed) (ts : List Placed) (c : Construct) → part_construct w p (t ∷ ts) ≡ Some c → token_construct s t.token ≡ None
  -- a token that continues a part bears no construct of itself
  pub no_construct : (w s : Scene) (p : Part) (v : Value p) (t : Token) → continues w p v t ≡ true → token_construct s t ≡ None
  -- a token that bears a construct of a part without tokens counts as one that continues it
  pub construct_continues : {w : Scene} {p : Part} {q : Process (Value p)} → Produces w p q → (t : Placed) (ts : List Placed) (v : Value p) → Spells w p q (t ∷ ts) (t ∷ ts) v → (c : Construct) → part_construct w p (t ∷ ts) ≡ Some c → continues w p v t.token ≡ true
  -- the end bears no construct
  pub no_end_construct : (w : Scene) (p : Part) → part_construct w p [] ≡ None
  -- whether the tokens bear a construct of the part, or of one that may be the first in it; not both
  pub bears : Scene → Part → List Placed → Bool
  pub bears_own : (w : Scene) (p : Part) (ts : List Placed) (c : Construct) → part_construct w p ts ≡ Some c → bears w p ts ≡ true
  pub bears_first : {w : Scene} {p : Part} {q : Process (Value p)} → Produces w p q → (ts : List Placed) → AtFirst (λ i. bears w i ts ≡ true) q → (bears w p ts ≡ true) × (part_construct w p ts ≡ None)
  -- how many forms a token begins at most, where it is the first of a part
  pub forms : Scene → Part → Token → ℕ
  pub forms_first : {w : Scene} {p : Part} {q : Process (Value p)} → Produces w p q → (t : Token) → FirstForms forms w t (forms w p t) q
  pub forms_place : (w : Scene) (p : Part) (t : Placed) (ts : List Placed) (c : Construct) → part_construct w p (t ∷ ts) ≡ Some c → forms w p t.token ≤ forms_begun (a_part p) t.token
  -- at most one production of a part may have no token
  pub one_empty : {w : Scene} {p : Part} {q r : Process (Value p)} → Produces w p q → Produces w p r → Empties q → Empties r → q ≡ r
  -- the descent has a production for a part that may be empty, and that production does not fail at its first token
  pub no_choice : (w : Scene) (p : Part) (ts : List Placed) → choose w p ts ≡ None → may_be_empty p ≡ false
  pub sure : {w : Scene} {p : Part} {q : Process (Value p)} (ts : List Placed) (rule : Produces w p q) → may_be_empty p ≡ true → part_construct w p ts ≡ None → choose w p ts ≡ Some (q, rule) → Sure w p q ts
  -- the rest of a file ends with the tokens, and may always go on
  pub file_shape : {w : Scene} {before : List OuterTree} {q : Process (List OuterTree)} → Produces w (Outers before) q → FileShape w before q
