-- The descent has an outcome on all tokens: each part that comes before a token is read is of a lower rank.
use Rattle.std.proofs.Common.{◌≡◌, ℕ, zero, suc, ◌+◌, ◌<◌, ◌≤◌, Bool, true, List, [], ◌∷◌, Option, Some, None, refl, sym, subst, inl, inr, arith}
use Rattle.std.proofs.lemmas.Bool.{cases_Bool, cases_lt}
use Rattle.c_syntax_written.specs.declared.construct.Construct.{Construct}
use Rattle.c_syntax_written.specs.declared.token.Placed.{Placed}
use Rattle.c_grammar.specs.Parts.{Scene, Part, Value}
use Rattle.c_grammar.specs.declared.class.Class.{Class}
use Rattle.c_grammar.specs.Classes.{Fits}
use Rattle.c_grammar.specs.Process.{Process, give, token, part, only}
use Rattle.c_grammar.specs.Grammar.{Produces, Derives, Spells, by, ended, token_then, part_then, where_so}
use Rattle.c_grammar.specs.Refused.{token_construct, part_construct, nesting_limit}
use Rattle.c_grammar.specs.Choice.{choose, ARule}
use Rattle.c_grammar.specs.Descent.{Outcome, Done, Stop, Goes, is_barred, no_rule, by_rule, Follows, is_done, takes, is_deep, is_borne, is_left, goes_on, stops, passes, fails}
use Rattle.c_grammar.proofs.Tails.{past, tail_split, tail_between, past_same, size, tail_size, past_size}
use Rattle.c_grammar.proofs.Seen.{derives_tail, spells_tail, seen}
use Rattle.c_grammar.proofs.FitsOrNot.{fits}

-- the process may have no token
abbrev pub MayEnd : (Part → Bool) → {A : Type 0} → Process A → Type 0
MayEnd ends (give v) = Unit {0}
MayEnd ends (token n c k) = ⊥
MayEnd ends (part n s i k) = ends i ≡ true
MayEnd ends (only f q) = MayEnd ends q

-- the parts that come before a token is read are of a lower rank
abbrev pub Ranked : (Part → Bool) → (Part → ℕ) → ℕ → {A : Type 0} → Process A → Type 0
Ranked ends rank m (give v) = Unit {0}
Ranked ends rank m (token n c k) = Unit {0}
Ranked ends rank m (part n s i k) = (rank i < m) × ((a : Value i) → ends i ≡ true → Ranked ends rank m (k a))
Ranked ends rank m (only f q) = Ranked ends rank m q

pub record Ranks : Type 0 where
  pub ends : Part → Bool
  pub rank : Part → ℕ
  pub rule_ends : {w : Scene} {p : Part} {q : Process (Value p)} → Produces w p q → MayEnd ends q → ends p ≡ true
  pub ranked : {w : Scene} {p : Part} {q : Process (Value p)} → Produces w p q → Ranked ends rank (rank p) q

mutual
  ends_derives : (ranks : Ranks) {w : Scene} {p : Part} {ts rest : List Placed} {v : Value p} → Derives w p ts rest v → ts ≡ rest → ranks.ends p ≡ true
  ends_derives ranks (by rule s) e = ranks.rule_ends rule (ends_spells ranks s e)

  ends_spells : (ranks : Ranks) {w : Scene} {p : Part} {q : Process (Value p)} {ts rest : List Placed} {v : Value p} → Spells w p q ts rest v → ts ≡ rest → MayEnd ranks.ends q
  ends_spells ranks ended e = tt
  ends_spells ranks (token_then f s) e = absurd (past_same (past (spells_tail s)) (sym e))
  ends_spells ranks (part_then d s) e = ends_derives ranks d (sym (tail_between (spells_tail s) (derives_tail d) e))
  ends_spells ranks (where_so g s) e = ends_spells ranks s e

pub record Runs (d : ℕ) (w : Scene) (p : Part) (ts : List Placed) : Type 0 where
  pub outcome : Outcome (Value p)
  pub goes : Goes d w p ts outcome

record RestRuns (d : ℕ) (w : Scene) (p : Part) (q : Process (Value p)) (ts : List Placed) : Type 0 where
  outcome : Outcome (Value p)
  follows : Follows d w p q ts outcome

-- all parts have an outcome on fewer tokens than these
abbrev Short : ℕ → Type 0
Short n = (ts : List Placed) → size ts < n → (d : ℕ) (w : Scene) (p : Part) → Runs d w p ts

construct_runs : {d : ℕ} {w : Scene} {p : Part} {n : ℕ} {c : Class} {k : Placed → Process (Value p)} {t : Placed} {ts : List Placed} → Fits w c t.token → d + n ≤ nesting_limit → (o : Option Construct) → token_construct w t.token ≡ o → RestRuns d w p (k t) ts → RestRuns d w p (token n c k) (t ∷ ts)
construct_runs f l None e r = record { outcome = r.outcome; follows = takes f l e r.follows }
construct_runs f l (Some b) e r = record { outcome = _; follows = is_borne f l e }

fit_runs : {d : ℕ} {w : Scene} {p : Part} {n : ℕ} {c : Class} {k : Placed → Process (Value p)} {t : Placed} {ts : List Placed} → Fits w c t.token → RestRuns d w p (k t) ts → RestRuns d w p (token n c k) (t ∷ ts)
fit_runs {d} {w} {n = n} {t = t} f r = elim (cases_lt nesting_limit (d + n)) [ inl l ↦ record { outcome = _; follows = is_deep f l } | inr l ↦ construct_runs f l (token_construct w t.token) refl r ]

token_runs : {d : ℕ} {w : Scene} {p : Part} {n : ℕ} {c : Class} {k : Placed → Process (Value p)} (t : Placed) (ts : List Placed) → RestRuns d w p (k t) ts → RestRuns d w p (token n c k) (t ∷ ts)
token_runs {w = w} {c = c} t ts r = elim (fits w c t.token) [ inl f ↦ fit_runs f r | inr f ↦ record { outcome = _; follows = is_left f } ]

stop_runs : {d : ℕ} {w s : Scene} {p i : Part} {n : ℕ} {k : Value i → Process (Value p)} {ts : List Placed} (o : Outcome (Value i)) → Goes (d + n) s i ts o → ((a : Value i) (mid : List Placed) → Goes (d + n) s i ts (Done a mid) → RestRuns d w p (k a) mid) → RestRuns d w p (part n s i k) ts
stop_runs (Done a mid) g h = let r = h a mid g in record { outcome = r.outcome; follows = goes_on g r.follows }
stop_runs (Stop why rest) g h = record { outcome = Stop why rest; follows = stops g }

only_runs : {d : ℕ} {w : Scene} {p : Part} (f : List Placed → Bool) {q : Process (Value p)} (ts : List Placed) → RestRuns d w p q ts → RestRuns d w p (only f q) ts
only_runs f ts r = elim (cases_Bool (f ts)) [ inl e ↦ record { outcome = r.outcome; follows = passes e r.follows } | inr e ↦ record { outcome = _; follows = fails e } ]

-- behind a token that was read
behind_runs : {n : ℕ} → Short n → (d : ℕ) (w : Scene) (p : Part) (q : Process (Value p)) (ts : List Placed) → size ts < n → RestRuns d w p q ts
behind_runs short d w p (give v) ts l = record { outcome = Done v ts; follows = is_done }
behind_runs short d w p (token m c k) [] l = record { outcome = _; follows = is_left tt }
behind_runs short d w p (token m c k) (t ∷ ts) l = token_runs t ts (behind_runs short d w p (k t) ts (omega arith))
behind_runs short d w p (part m s i k) ts l =
    let r = short ts l (d + m) s i in
    stop_runs r.outcome r.goes (λ a mid g. let x = tail_size (derives_tail (seen g)) in behind_runs short d w p (k a) mid (omega arith))
behind_runs short d w p (only f q) ts l = only_runs f ts (behind_runs short d w p q ts l)

-- the parts of a lower rank have an outcome on these tokens
abbrev Lower : Ranks → ℕ → List Placed → Type 0
Lower ranks m ts = (i : Part) → ranks.rank i < m → (d : ℕ) (w : Scene) → Runs d w i ts

rest_at : {d : ℕ} {w : Scene} {p : Part} {q : Process (Value p)} {x y : List Placed} → x ≡ y → RestRuns d w p q x → RestRuns d w p q y
rest_at {d} {w} {p} {q} e r = subst (λ v. RestRuns d w p q v) e r

-- where nothing was read
here_runs : (ranks : Ranks) {n : ℕ} → Short n → (d : ℕ) (w : Scene) (p : Part) (m : ℕ) (q : Process (Value p)) (ts : List Placed) → size ts ≤ n → Ranked ranks.ends ranks.rank m q → Lower ranks m ts → RestRuns d w p q ts
here_runs ranks short d w p m (give v) ts l h low = record { outcome = Done v ts; follows = is_done }
here_runs ranks short d w p m (token j c k) [] l h low = record { outcome = _; follows = is_left tt }
here_runs ranks short d w p m (token j c k) (t ∷ ts) l h low = token_runs t ts (behind_runs short d w p (k t) ts (omega arith))
here_runs ranks short d w p m (part j s i k) ts l h low =
    let r = low i h.0 (d + j) s in
    stop_runs r.outcome r.goes (λ a mid g.
    elim (tail_split (derives_tail (seen g))) [
      | inl e ↦ rest_at (sym e) (here_runs ranks short d w p m (k a) ts l (h.1 a (ends_derives ranks (seen g) (sym e))) low)
      | inr x ↦ let y = past_size x in behind_runs short d w p (k a) mid (omega arith)
    ])
here_runs ranks short d w p m (only f q) ts l h low = only_runs f ts (here_runs ranks short d w p m q ts l h low)

choice_runs : (ranks : Ranks) {n : ℕ} → Short n → (d : ℕ) (w : Scene) (p : Part) (ts : List Placed) → size ts ≤ n → Lower ranks (ranks.rank p) ts → part_construct w p ts ≡ None → (o : Option (ARule w p)) → choose w p ts ≡ o → Runs d w p ts
choice_runs ranks short d w p ts l low e None f = record { outcome = _; goes = no_rule e f }
choice_runs ranks short d w p ts l low e (Some r) f = let x = here_runs ranks short d w p (ranks.rank p) r.0 ts l (ranks.ranked r.1) low in record { outcome = x.outcome; goes = by_rule r.0 r.1 e f x.follows }

part_runs : (ranks : Ranks) {n : ℕ} → Short n → (d : ℕ) (w : Scene) (p : Part) (ts : List Placed) → size ts ≤ n → Lower ranks (ranks.rank p) ts → (o : Option Construct) → part_construct w p ts ≡ o → Runs d w p ts
part_runs ranks short d w p ts l low (Some c) e = record { outcome = _; goes = is_barred e }
part_runs ranks short d w p ts l low None e = choice_runs ranks short d w p ts l low e (choose w p ts) refl

lower_runs : (ranks : Ranks) {n : ℕ} → Short n → (ts : List Placed) → size ts ≤ n → (m : ℕ) → Lower ranks m ts
lower_runs ranks short ts l zero i h d w = absurd (omega arith)
lower_runs ranks short ts l (suc m) i h d w = part_runs ranks short d w i ts l (λ j x. lower_runs ranks short ts l m j (omega arith)) (part_construct w i ts) refl

short_runs : (ranks : Ranks) (n : ℕ) → Short n
short_runs ranks zero ts l d w p = absurd (omega arith)
short_runs ranks (suc n) ts l d w p = lower_runs ranks (short_runs ranks n) ts (omega arith) (suc (ranks.rank p)) p (omega arith) d w

pub runs : (ranks : Ranks) (d : ℕ) (w : Scene) (p : Part) (ts : List Placed) → Runs d w p ts
runs ranks d w p ts = short_runs ranks (suc (size ts)) ts (omega arith) d w p
