-- How the descent goes into a part whose production it takes, and how it ends, whatever it read.
use Rattle.std.proofs.Common.{◌≡◌, ℕ, List, Option, Some, None, sym, ap, ◌∙◌, subst}
use Rattle.c_syntax_written.specs.declared.construct.Construct.{Construct}
use Rattle.c_syntax_written.specs.declared.token.Placed.{Placed}
use Rattle.c_grammar.specs.Parts.{Scene, Part, Value}
use Rattle.c_grammar.specs.Process.{Process}
use Rattle.c_grammar.specs.Grammar.{Produces}
use Rattle.c_grammar.specs.Refused.{Why, part_construct}
use Rattle.c_grammar.specs.Choice.{choose, ARule}
use Rattle.c_grammar.specs.Descent.{Outcome, Done, Stop, barred, Goes, is_barred, no_rule, by_rule, Follows}
use Rattle.c_grammar.proofs.Table.{IsChoice}
use Rattle.c_grammar.proofs.Tails.{Past}

-- how it ends, without the value
pub data End : Type 0 where
  finishes : List Placed → End
  halts : Why → List Placed → End

abbrev pub end_of : {A : Type 0} → Outcome A → End
end_of (Done v rest) = finishes rest
end_of (Stop why rest) = halts why rest

-- it stopped before these tokens
abbrev pub Early : List Placed → End → Type 0
Early rest (finishes r) = ⊥
Early rest (halts why r) = Past rest r

-- it stops at a construct of the part, or goes on with the production
pub data Taken (d : ℕ) (w : Scene) (p : Part) (q : Process (Value p)) (ts : List Placed) : Outcome (Value p) → Type 0 where
  bars : {c : Construct} → part_construct w p ts ≡ Some c → Taken d w p q ts (Stop (barred p d c ts) ts)
  follows : {o : Outcome (Value p)} → part_construct w p ts ≡ None → Follows d w p q ts o → Taken d w p q ts o

process_of : {w : Scene} {p : Part} → Process (Value p) → Option (ARule w p) → Process (Value p)
process_of q None = q
process_of q (Some r) = r.0

pub same_choice : {w : Scene} {p : Part} {q r : Process (Value p)} (x : Option (ARule w p)) (rule : Produces w p q) (other : Produces w p r) → x ≡ Some (q, rule) → x ≡ Some (r, other) → q ≡ r
unfolding process_of
same_choice {w} {p} {q} x rule other e f = ap (process_of {w = w} {p = p} q) (sym e ∙ f)

follows_choice : {d : ℕ} {w : Scene} {p : Part} {q r : Process (Value p)} {ts : List Placed} {o : Outcome (Value p)} (rule : Produces w p r) → IsChoice w p ts q → choose w p ts ≡ Some (r, rule) → Follows d w p r ts o → Follows d w p q ts o
follows_choice {d} {w} {p} {q} {r} {ts} {o} rule i e f = subst (λ v. Follows d w p v ts o) (same_choice (choose w p ts) rule i.0 e i.1) f

choice_is : {w : Scene} {p : Part} {q : Process (Value p)} (ts : List Placed) → IsChoice w p ts q → choose w p ts ≡ None → ⊥
choice_is ts i e = let f = i.1 in cc

pub taken : {d : ℕ} {w : Scene} {p : Part} {q : Process (Value p)} {ts : List Placed} {o : Outcome (Value p)} → (part_construct w p ts ≡ None → IsChoice w p ts q) → Goes d w p ts o → Taken d w p q ts o
taken h (is_barred e) = bars e
taken h (no_rule {ts = ts} e c) = absurd (choice_is ts (h e) c)
taken h (by_rule q rule e c f) = follows e (follows_choice rule (h e) c f)

-- a construct of the part stops it
pub barred_only : {d : ℕ} {w : Scene} {p : Part} {ts : List Placed} {c : Construct} {o : Outcome (Value p)} → part_construct w p ts ≡ Some c → Goes d w p ts o → o ≡ Stop (barred p d c ts) ts
barred_only {d} {w} {p} {ts} {c} e (is_barred {c = b} f) = let g : b ≡ c = cc in ap (λ v. Stop (barred p d v ts) ts) g
barred_only e (no_rule f c) = cc
barred_only e (by_rule q rule f c g) = cc
