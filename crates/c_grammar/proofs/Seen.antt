-- What the descent has read is derived, and readings go forward. Views of the descent's steps, by the process.
use Rattle.std.proofs.Common.{◌≡◌, ℕ, Bool, true, List, ◌∷◌}
use Rattle.c_syntax_written.specs.declared.token.Placed.{Placed}
use Rattle.c_grammar.specs.Parts.{Scene, Part, Value}
use Rattle.c_grammar.specs.declared.class.Class.{Class}
use Rattle.c_grammar.specs.Classes.{Fits}
use Rattle.c_grammar.specs.Process.{Process, token, part, only}
use Rattle.c_grammar.specs.Grammar.{Produces, Derives, Spells, by, ended, token_then, part_then, where_so}
use Rattle.c_grammar.specs.Front.{Front, Reads, Place, in_part, at_token, at_part, at_test, behind_token, inside, behind_part}
use Rattle.c_grammar.specs.Front as fronts
use Rattle.c_grammar.specs.Refused.{Why}
use Rattle.c_grammar.specs.Descent.{Outcome, Done, Stop, Goes, is_barred, no_rule, by_rule, Follows, is_done, takes, is_deep, is_borne, is_left, goes_on, stops, passes, fails}
use Rattle.c_grammar.proofs.Tails.{Tail, same, behind, tail_trans}

mutual
  pub derives_tail : {w : Scene} {p : Part} {ts rest : List Placed} {v : Value p} → Derives w p ts rest v → Tail rest ts
  derives_tail (by rule s) = spells_tail s

  pub spells_tail : {w : Scene} {p : Part} {q : Process (Value p)} {ts rest : List Placed} {v : Value p} → Spells w p q ts rest v → Tail rest ts
  spells_tail ended = same
  spells_tail (token_then f s) = behind (spells_tail s)
  spells_tail (part_then d s) = tail_trans (spells_tail s) (derives_tail d)
  spells_tail (where_so e s) = spells_tail s

mutual
  pub front_tail : {w : Scene} {p : Part} {ts rest : List Placed} {at : Place} → Front w p ts rest at → Tail rest ts
  front_tail (in_part rule r) = reads_tail r

  pub reads_tail : {b : Bool} {w : Scene} {p : Part} {q : Process (Value p)} {ts rest : List Placed} {at : Place} → Reads b w p q ts rest at → Tail rest ts
  reads_tail at_token = same
  reads_tail at_part = same
  reads_tail (at_test e) = same
  reads_tail (behind_token f r) = behind (reads_tail r)
  reads_tail (inside f) = front_tail f
  reads_tail (behind_part d r) = tail_trans (reads_tail r) (derives_tail d)
  reads_tail (fronts.where_so e r) = reads_tail r

abbrev pub rest_of : {A : Type 0} → Outcome A → List Placed
rest_of (Done v rest) = rest
rest_of (Stop why rest) = rest

mutual
  pub goes_tail : {d : ℕ} {w : Scene} {p : Part} {ts : List Placed} {o : Outcome (Value p)} → Goes d w p ts o → Tail (rest_of o) ts
  goes_tail (is_barred e) = same
  goes_tail (no_rule e c) = same
  goes_tail (by_rule q rule e c f) = follows_tail f

  pub follows_tail : {d : ℕ} {w : Scene} {p : Part} {q : Process (Value p)} {ts : List Placed} {o : Outcome (Value p)} → Follows d w p q ts o → Tail (rest_of o) ts
  follows_tail is_done = same
  follows_tail (takes f l c g) = behind (follows_tail g)
  follows_tail (is_deep f l) = same
  follows_tail (is_borne f l c) = same
  follows_tail (is_left f) = same
  follows_tail (goes_on g f) = tail_trans (follows_tail f) (goes_tail g)
  follows_tail (stops g) = goes_tail g
  follows_tail (passes e f) = follows_tail f
  follows_tail (fails e) = same

-- what the outcome tells of the part, and of what is left of a production
pub data GoesMeans : (w : Scene) (p : Part) → List Placed → Outcome (Value p) → Type 0 where
  derived : {w : Scene} {p : Part} {ts rest : List Placed} {v : Value p} → Derives w p ts rest v → GoesMeans w p ts (Done v rest)
  stopped : {w : Scene} {p : Part} {ts rest : List Placed} {why : Why} → GoesMeans w p ts (Stop why rest)

pub data FollowsMeans : (w : Scene) (p : Part) → Process (Value p) → List Placed → Outcome (Value p) → Type 0 where
  spelled : {w : Scene} {p : Part} {q : Process (Value p)} {ts rest : List Placed} {v : Value p} → Spells w p q ts rest v → FollowsMeans w p q ts (Done v rest)
  halted : {w : Scene} {p : Part} {q : Process (Value p)} {ts rest : List Placed} {why : Why} → FollowsMeans w p q ts (Stop why rest)

by_means : {w : Scene} {p : Part} {q : Process (Value p)} {ts : List Placed} {o : Outcome (Value p)} → Produces w p q → FollowsMeans w p q ts o → GoesMeans w p ts o
by_means rule (spelled m) = derived (by rule m)
by_means rule halted = stopped

token_means : {w : Scene} {p : Part} {n : ℕ} {c : Class} {k : Placed → Process (Value p)} {t : Placed} {ts : List Placed} {o : Outcome (Value p)} → Fits w c t.token → FollowsMeans w p (k t) ts o → FollowsMeans w p (token n c k) (t ∷ ts) o
token_means f (spelled m) = spelled (token_then f m)
token_means f halted = halted

part_means : {w s : Scene} {p i : Part} {n : ℕ} {k : Value i → Process (Value p)} {a : Value i} {ts mid : List Placed} {o : Outcome (Value p)} → GoesMeans s i ts (Done a mid) → FollowsMeans w p (k a) mid o → FollowsMeans w p (part n s i k) ts o
part_means (derived d) (spelled m) = spelled (part_then d m)
part_means (derived d) halted = halted

only_means : {w : Scene} {p : Part} {f : List Placed → Bool} {q : Process (Value p)} {ts : List Placed} {o : Outcome (Value p)} → f ts ≡ true → FollowsMeans w p q ts o → FollowsMeans w p (only f q) ts o
only_means e (spelled m) = spelled (where_so e m)
only_means e halted = halted

mutual
  pub goes_means : {d : ℕ} {w : Scene} {p : Part} {ts : List Placed} {o : Outcome (Value p)} → Goes d w p ts o → GoesMeans w p ts o
  goes_means (is_barred e) = stopped
  goes_means (no_rule e c) = stopped
  goes_means (by_rule q rule e c f) = by_means rule (follows_means f)

  pub follows_means : {d : ℕ} {w : Scene} {p : Part} {q : Process (Value p)} {ts : List Placed} {o : Outcome (Value p)} → Follows d w p q ts o → FollowsMeans w p q ts o
  follows_means is_done = spelled ended
  follows_means (takes f l c g) = token_means f (follows_means g)
  follows_means (is_deep f l) = halted
  follows_means (is_borne f l c) = halted
  follows_means (is_left f) = halted
  follows_means (goes_on g f) = part_means (goes_means g) (follows_means f)
  follows_means (stops g) = halted
  follows_means (passes e f) = only_means e (follows_means f)
  follows_means (fails e) = halted

derived_at : {w : Scene} {p : Part} {ts rest : List Placed} {v : Value p} → GoesMeans w p ts (Done v rest) → Derives w p ts rest v
derived_at (derived d) = d

spelled_at : {w : Scene} {p : Part} {q : Process (Value p)} {ts rest : List Placed} {v : Value p} → FollowsMeans w p q ts (Done v rest) → Spells w p q ts rest v
spelled_at (spelled s) = s

pub seen : {d : ℕ} {w : Scene} {p : Part} {ts rest : List Placed} {v : Value p} → Goes d w p ts (Done v rest) → Derives w p ts rest v
seen g = derived_at (goes_means g)

pub seen_rest : {d : ℕ} {w : Scene} {p : Part} {q : Process (Value p)} {ts rest : List Placed} {v : Value p} → Follows d w p q ts (Done v rest) → Spells w p q ts rest v
seen_rest f = spelled_at (follows_means f)
