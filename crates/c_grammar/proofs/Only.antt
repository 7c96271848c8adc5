-- Where a part is derived, and what follows cannot continue it, the descent ends with that part and its value, or
-- stops before its end.
use Rattle.std.proofs.Common.{◌≡◌, ℕ, Bool, true, List, [], ◌∷◌, Some, None, refl, subst, ◌⊎◌, inl, inr}
use Rattle.c_syntax_written.specs.declared.construct.Construct.{Construct}
use Rattle.c_syntax_written.specs.declared.token.Placed.{Placed}
use Rattle.c_grammar.specs.Parts.{Scene, Part, Value}
use Rattle.c_grammar.specs.declared.class.Class.{Class}
use Rattle.c_grammar.specs.Classes.{Fits}
use Rattle.c_grammar.specs.Process.{Process, give, token, part, only}
use Rattle.c_grammar.specs.Grammar.{Produces, Derives, Spells, by, ended, token_then, part_then, where_so}
use Rattle.c_grammar.specs.Refused.{part_construct}
use Rattle.c_grammar.specs.Descent.{Outcome, Done, Goes, Follows, is_done, takes, is_deep, is_borne, is_left, goes_on, stops, passes, fails}
use Rattle.c_grammar.proofs.Table.{Quiet, IsChoice, Follow, WellFollowed, well_token, well_part, well_only, Table}
use Rattle.c_grammar.proofs.Tails.{Tail, past, tail_past, tail_split}
use Rattle.c_grammar.proofs.Seen.{spells_tail}
use Rattle.c_grammar.proofs.Steps.{end_of, Early, Taken, bars, follows, taken}
use Rattle.c_grammar.proofs.Begins.{spells_leads}

-- it ends with this value and these tokens, or stopped before them
abbrev pub EndsSo : {A : Type 0} → A → List Placed → Outcome A → Type 0
EndsSo v rest o = (o ≡ Done v rest) ⊎ Early rest (end_of o)

-- so ends every descent over the tokens
abbrev pub Ends : (w : Scene) (p : Part) → List Placed → List Placed → Value p → Type 0
Ends w p ts rest v = (d : ℕ) (o : Outcome (Value p)) → Goes d w p ts o → EndsSo v rest o

abbrev pub RestEnds : (w : Scene) (p : Part) → Process (Value p) → List Placed → List Placed → Value p → Type 0
RestEnds w p q ts rest v = (d : ℕ) (o : Outcome (Value p)) → Follows d w p q ts o → EndsSo v rest o

token_ends : {w : Scene} {p : Part} {n : ℕ} {c : Class} {k : Placed → Process (Value p)} {t : Placed} {ts rest : List Placed} {v : Value p} → Fits w c t.token → Tail rest ts → RestEnds w p (k t) ts rest v → RestEnds w p (token n c k) (t ∷ ts) rest v
token_ends f x h d o (takes g l c k) = h d o k
token_ends f x h d o (is_deep g l) = inr (past x)
token_ends f x h d o (is_borne g l c) = inr (past x)
token_ends f x h d o (is_left g) = absurd (g f)

-- what is done is the value and the tokens
pub done_is : {A : Type 0} {a b : A} {r s : List Placed} → EndsSo a r (Done b s) → Done b s ≡ Done a r
done_is (inl e) = e
done_is (inr e) = absurd e

pub follows_at : {d : ℕ} {w : Scene} {p : Part} (i : Part) (k : Value i → Process (Value p)) {a b : Value i} {r s : List Placed} {o : Outcome (Value p)} → Done b s ≡ Done a r → Follows d w p (k b) s o → Follows d w p (k a) r o
follows_at {d} {w} {p} i k {a} {b} {r} {s} {o} e f =
    let x : b ≡ a = cc in
    let y : s ≡ r = cc in
    subst (λ v. Follows d w p (k v) r o) x (subst (λ v. Follows d w p (k b) v o) y f)

part_ends : {w s : Scene} {p i : Part} {n : ℕ} {k : Value i → Process (Value p)} {a : Value i} {ts mid rest : List Placed} {v : Value p} → Ends s i ts mid a → Tail rest mid → RestEnds w p (k a) mid rest v → RestEnds w p (part n s i k) ts rest v
part_ends h x g d o (goes_on {i = i} {k = k} y z) = g d o (follows_at i k (done_is (h _ _ y)) z)
part_ends h x g d o (stops y) = elim (h _ _ y) [ inl e ↦ absurd cc | inr z ↦ inr (tail_past x z) ]

only_ends : {w : Scene} {p : Part} {f : List Placed → Bool} {q : Process (Value p)} {ts rest : List Placed} {v : Value p} → f ts ≡ true → RestEnds w p q ts rest v → RestEnds w p (only f q) ts rest v
only_ends e h d o (passes g k) = h d o k
only_ends e h d o (fails g) = absurd cc

give_ends : {w : Scene} {p : Part} {ts : List Placed} {v : Value p} → RestEnds w p (give v) ts ts v
give_ends d o is_done = inl refl

-- nothing is read, so no construct of the part is there
no_bar : (table : Table) {w : Scene} {p : Part} {q : Process (Value p)} {v : Value p} {c : Construct} (ts : List Placed) → Produces w p q → Spells w p q ts ts v → Quiet table.continues w p v ts → part_construct w p ts ≡ Some c → ⊥
no_bar table {w} {p} [] rule s quiet e = let g = table.no_end_construct w p in cc
no_bar table {v = v} {c = c} (t ∷ ts) rule s quiet e = let g = table.construct_continues rule t ts v s c e in cc

spells_here : {w : Scene} {p : Part} {q : Process (Value p)} {ts rest : List Placed} {v : Value p} → rest ≡ ts → Spells w p q ts rest v → Spells w p q ts ts v
spells_here {w} {p} {q} {ts} {rest} {v} e s = subst (λ r. Spells w p q ts r v) e s

quiet_at : (table : Table) (w : Scene) (p : Part) (v : Value p) {ts rest : List Placed} → rest ≡ ts → Quiet table.continues w p v rest → Quiet table.continues w p v ts
quiet_at table w p v e h = subst (λ r. Quiet table.continues w p v r) e h

is_choice : (table : Table) {w : Scene} {p : Part} {q : Process (Value p)} {ts rest : List Placed} {v : Value p} → Produces w p q → Spells w p q ts rest v → Quiet table.continues w p v rest → part_construct w p ts ≡ None → IsChoice w p ts q
is_choice table {w} {p} {q} {ts} {rest} {v} rule s quiet e =
    elim (tail_split (spells_tail s)) [ inl g ↦ table.predicts_empty rule ts v (spells_here g s) (quiet_at table w p v g quiet) e | inr x ↦ table.predicts rule ts (spells_leads table s x) e ]

taken_ends : (table : Table) {w : Scene} {p : Part} {q : Process (Value p)} {ts rest : List Placed} {v : Value p} {d : ℕ} {o : Outcome (Value p)} → Produces w p q → Spells w p q ts rest v → Quiet table.continues w p v rest → RestEnds w p q ts rest v → Taken d w p q ts o → EndsSo v rest o
taken_ends table {w} {p} {q} {ts} {rest} {v} rule s quiet h (bars e) =
    elim (tail_split (spells_tail s)) [ inl g ↦ absurd (no_bar table ts rule (spells_here g s) (quiet_at table w p v g quiet) e) | inr x ↦ inr x ]
taken_ends table rule s quiet h (follows e f) = h _ _ f

-- behind a part of a production, what is read there does not continue it
pub quiet_inside : (table : Table) {w s : Scene} {p i : Part} {q : Process (Value p)} (a : Value i) {mid rest : List Placed} {v : Value p} → Follow table.begins table.continues w p i s a q → Spells w p q mid rest v → Quiet table.continues w p v rest → Quiet table.continues s i a mid
quiet_inside table {w} {s = scene} {p} {i} {q} a {mid} {rest} {v} h s quiet =
    elim (tail_split (spells_tail s)) [ inl g ↦ h.1 mid v (spells_here g s) (quiet_at table w p v g quiet) | inr x ↦ h.0 mid (spells_leads table s x) ]

mutual
  pub only_outcome : (table : Table) {w : Scene} {p : Part} {ts rest : List Placed} {v : Value p} → Derives w p ts rest v → Quiet table.continues w p v rest → Ends w p ts rest v
  only_outcome table (by rule s) quiet d o g = taken_ends table rule s quiet (only_spells table s (table.rule_follows rule) quiet) (taken (is_choice table rule s quiet) g)

  pub only_spells : (table : Table) {w : Scene} {p : Part} {q : Process (Value p)} {ts rest : List Placed} {v : Value p} → Spells w p q ts rest v → WellFollowed table.begins table.continues w p q → Quiet table.continues w p v rest → RestEnds w p q ts rest v
  only_spells table ended well quiet = give_ends
  only_spells table (token_then f s) (well_token h g) quiet = token_ends f (spells_tail s) (only_spells table s (g _ f) quiet)
  only_spells table (part_then {a = a} d s) (well_part h l g) quiet = part_ends (only_outcome table d (quiet_inside table a (h a) s quiet)) (spells_tail s) (only_spells table s (g a) quiet)
  only_spells table (where_so e s) (well_only g) quiet = only_ends e (only_spells table s g quiet)
