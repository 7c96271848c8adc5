-- Before each token that was read there is a place that reads it.
use Rattle.std.proofs.Common.{◌≡◌, ℕ, Bool, true, false, List, ◌∷◌, refl, inl, inr}
use Rattle.c_syntax_written.specs.declared.token.Placed.{Placed}
use Rattle.c_grammar.specs.Parts.{Scene, Part, Value}
use Rattle.c_grammar.specs.declared.class.Class.{Class}
use Rattle.c_grammar.specs.Classes.{Fits}
use Rattle.c_grammar.specs.Process.{Process, token, part, only}
use Rattle.c_grammar.specs.Grammar.{Produces, Derives, Spells, by, ended, token_then, part_then, where_so}
use Rattle.c_grammar.specs.Front.{Front, Reads, Place, a_token, deeper, in_part, at_token, at_part, at_test, behind_token, inside, behind_part}
use Rattle.c_grammar.specs.Front as fronts
use Rattle.c_grammar.proofs.Tails.{Tail, same, behind, past, past_inv, past_back, compare}
use Rattle.c_grammar.proofs.Seen.{derives_tail}

-- a part stands open at a place that reads the token
pub record FrontAt (w : Scene) (p : Part) (ts : List Placed) (t : Placed) (r : List Placed) : Type 0 where
  pub at : Place
  pub reads : Front w p ts (t ∷ r) at
  pub forms : ℕ
  pub class : Class
  pub next : at.next ≡ a_token forms class
  pub fits : Fits at.scene class t.token

-- what is left of a production does
pub record ReadsAt (b : Bool) (w : Scene) (p : Part) (q : Process (Value p)) (ts : List Placed) (t : Placed) (r : List Placed) : Type 0 where
  pub at : Place
  pub reads : Reads b w p q ts (t ∷ r) at
  pub forms : ℕ
  pub class : Class
  pub next : at.next ≡ a_token forms class
  pub fits : Fits at.scene class t.token

rule_back : {w : Scene} {p : Part} {q : Process (Value p)} {ts : List Placed} {t : Placed} {r : List Placed} → Produces w p q → ReadsAt false w p q ts t r → FrontAt w p ts t r
rule_back rule i = record { at = i.at; reads = in_part rule i.reads; forms = i.forms; class = i.class; next = i.next; fits = i.fits }

token_back : (b : Bool) {w : Scene} {p : Part} {n : ℕ} {c : Class} {k : Placed → Process (Value p)} {u : Placed} {us : List Placed} {t : Placed} {r : List Placed} → Fits w c u.token → Tail (t ∷ r) (u ∷ us) → (Tail (t ∷ r) us → ReadsAt true w p (k u) us t r) → ReadsAt b w p (token n c k) (u ∷ us) t r
token_back b {w} {p} {n} {c} f same h = record { at = record { scene = w; count = 0; next = a_token n c; begun = b }; reads = at_token; forms = n; class = c; next = refl; fits = f }
token_back b f (behind x) h = let i = h x in record { at = i.at; reads = behind_token f i.reads; forms = i.forms; class = i.class; next = i.next; fits = i.fits }

inside_back : (b : Bool) {w s : Scene} {p i : Part} {n : ℕ} {k : Value i → Process (Value p)} {ts : List Placed} {t : Placed} {r : List Placed} → FrontAt s i ts t r → ReadsAt b w p (part n s i k) ts t r
inside_back b {n = n} j = record { at = deeper n j.at; reads = inside j.reads; forms = j.forms; class = j.class; next = j.next; fits = j.fits }

behind_back : (b : Bool) {w s : Scene} {p i : Part} {n : ℕ} {k : Value i → Process (Value p)} {a : Value i} {ts mid : List Placed} {t : Placed} {r : List Placed} → Derives s i ts mid a → ReadsAt true w p (k a) mid t r → ReadsAt b w p (part n s i k) ts t r
behind_back b d j = record { at = j.at; reads = behind_part d j.reads; forms = j.forms; class = j.class; next = j.next; fits = j.fits }

only_back : (b : Bool) {w : Scene} {p : Part} {f : List Placed → Bool} {q : Process (Value p)} {ts : List Placed} {t : Placed} {r : List Placed} → f ts ≡ true → ReadsAt b w p q ts t r → ReadsAt b w p (only f q) ts t r
only_back b e j = record { at = j.at; reads = fronts.where_so e j.reads; forms = j.forms; class = j.class; next = j.next; fits = j.fits }

part_back : (b : Bool) {w s : Scene} {p i : Part} {n : ℕ} {k : Value i → Process (Value p)} {a : Value i} {ts mid : List Placed} {t : Placed} {r : List Placed} → Derives s i ts mid a → Tail (t ∷ r) ts → (Tail mid r → FrontAt s i ts t r) → (Tail (t ∷ r) mid → ReadsAt true w p (k a) mid t r) → ReadsAt b w p (part n s i k) ts t r
part_back b d x g h = elim (compare x (derives_tail d)) [ inl y ↦ behind_back b d (h y) | inr y ↦ inside_back b (g (past_inv y)) ]

mutual
  pub places : {w : Scene} {p : Part} {ts rest : List Placed} {v : Value p} → Derives w p ts rest v → (t : Placed) (r : List Placed) → Tail rest r → Tail (t ∷ r) ts → FrontAt w p ts t r
  places (by rule s) t r x y = rule_back rule (spells_back s false t r x y)

  pub spells_back : {w : Scene} {p : Part} {q : Process (Value p)} {ts rest : List Placed} {v : Value p} → Spells w p q ts rest v → (b : Bool) (t : Placed) (r : List Placed) → Tail rest r → Tail (t ∷ r) ts → ReadsAt b w p q ts t r
  spells_back ended b t r x y = absurd (past_back (past x) y)
  spells_back (token_then f s) b t r x y = token_back b f y (λ z. spells_back s true t r x z)
  spells_back (part_then d s) b t r x y = part_back b d y (λ z. places d t r z y) (λ z. spells_back s true t r x z)
  spells_back (where_so e s) b t r x y = only_back b e (spells_back s b t r x y)

mutual
  pub front_back : {w : Scene} {p : Part} {ts rest : List Placed} {at : Place} → Front w p ts rest at → (t : Placed) (r : List Placed) → Tail rest r → Tail (t ∷ r) ts → FrontAt w p ts t r
  front_back (in_part rule s) t r x y = rule_back rule (reads_back s t r x y)

  pub reads_back : {b : Bool} {w : Scene} {p : Part} {q : Process (Value p)} {ts rest : List Placed} {at : Place} → Reads b w p q ts rest at → (t : Placed) (r : List Placed) → Tail rest r → Tail (t ∷ r) ts → ReadsAt b w p q ts t r
  reads_back at_token t r x y = absurd (past_back (past x) y)
  reads_back at_part t r x y = absurd (past_back (past x) y)
  reads_back (at_test e) t r x y = absurd (past_back (past x) y)
  reads_back {b} (behind_token f s) t r x y = token_back b f y (λ z. reads_back s t r x z)
  reads_back {b} (inside f) t r x y = inside_back b (front_back f t r x y)
  reads_back {b} (behind_part d s) t r x y = part_back b d y (λ z. places d t r z y) (λ z. reads_back s t r x z)
  reads_back {b} (fronts.where_so e s) t r x y = only_back b e (reads_back s t r x y)
