-- A place at which nothing of its part is read: it is what comes first in the part, or in the first of its parts.
use Rattle.std.proofs.Common.{◌≡◌, ℕ, ◌≤◌, Bool, true, false, List, refl, sym, ◌∙◌, subst, arith}
use Rattle.c_syntax_written.specs.declared.token.Placed.{Placed}
use Rattle.c_syntax_written.specs.declared.token.Token.{Token}
use Rattle.c_grammar.specs.Parts.{Scene, Part, Value}
use Rattle.c_grammar.specs.declared.class.Class.{Class}
use Rattle.c_grammar.specs.Classes.{Fits}
use Rattle.c_grammar.specs.Process.{Process, give, token, part, only}
use Rattle.c_grammar.specs.Grammar.{Produces}
use Rattle.c_grammar.specs.Front.{Front, Reads, Place, Next, a_token, a_part, a_test, in_part, at_token, at_part, at_test, behind_token, inside, behind_part}
use Rattle.c_grammar.specs.Front as fronts
use Rattle.c_grammar.proofs.Table.{AtFirst, FirstForms, Shape, shape_end, shape_part, shape_chain, shape_only, Lower, WellFollowed, well_part, well_only, Table}
use Rattle.c_grammar.proofs.Tails.{past, Nonempty, tail_between, past_same}
use Rattle.c_grammar.proofs.Seen.{derives_tail, reads_tail}
use Rattle.c_grammar.proofs.Begins.{empty_derives}

-- what may come first in what is left of a production
pub data FirstOf (w : Scene) : (p : Part) → Process (Value p) → Next → Type 0 where
  first_token : {p : Part} {n : ℕ} {c : Class} {k : Placed → Process (Value p)} → FirstOf w p (token n c k) (a_token n c)
  first_part : {p i : Part} {n : ℕ} {k : Value i → Process (Value p)} → FirstOf w p (part n w i k) (a_part i)
  first_test : {p : Part} {f : List Placed → Bool} {q : Process (Value p)} → FirstOf w p (only f q) a_test
  first_in : {p i : Part} {n : ℕ} {k : Value i → Process (Value p)} {q : Process (Value i)} {x : Next} → Produces w i q → FirstOf w i q x → FirstOf w p (part n w i k) x
  first_only : {p : Part} {f : List Placed → Bool} {q : Process (Value p)} {x : Next} → FirstOf w p q x → FirstOf w p (only f q) x

pub record Fresh (w : Scene) (p : Part) (q : Process (Value p)) (at : Place) : Type 0 where
  pub scene : at.scene ≡ w
  pub count : at.count ≡ 0
  pub begun : at.begun ≡ false
  pub first : FirstOf w p q at.next

-- the same of a part
pub record FreshIn (w : Scene) (p : Part) (at : Place) : Type 0 where
  pub process : Process (Value p)
  pub rule : Produces w p process
  pub scene : at.scene ≡ w
  pub count : at.count ≡ 0
  pub begun : at.begun ≡ false
  pub first : FirstOf w p process at.next

no_reads : {b : Bool} {w : Scene} {p : Part} {v : Value p} {ts rest : List Placed} {at : Place} → Reads b w p (give v) ts rest at → ⊥
no_reads r = elim r [ ]

fresh_in : {w : Scene} {p : Part} {q : Process (Value p)} {at : Place} → Produces w p q → Fresh w p q at → FreshIn w p at
fresh_in {q = q} rule f = record { process = q; rule = rule; scene = f.scene; count = f.count; begun = f.begun; first = f.first }

fresh_part : {w : Scene} {p i : Part} {k : Value i → Process (Value p)} {at : Place} → FreshIn w i at → Fresh w p (part 0 w i k) (fronts.deeper 0 at)
fresh_part f = let e = f.count in record { scene = f.scene; count = omega arith; begun = f.begun; first = first_in f.rule f.first }

fresh_only : {w : Scene} {p : Part} {f : List Placed → Bool} {q : Process (Value p)} {at : Place} → Fresh w p q at → Fresh w p (only f q) at
fresh_only f = record { scene = f.scene; count = f.count; begun = f.begun; first = first_only f.first }

mutual
  pub fresh_front : (table : Table) {w : Scene} {p : Part} {ts rest : List Placed} {at : Place} → Front w p ts rest at → ts ≡ rest → Nonempty ts → FreshIn w p at
  fresh_front table (in_part rule r) e n = fresh_in rule (fresh_reads table r e n refl (table.rule_shape rule))

  pub fresh_reads : (table : Table) {b : Bool} {w : Scene} {p : Part} {q : Process (Value p)} {ts rest : List Placed} {at : Place} → Reads b w p q ts rest at → ts ≡ rest → Nonempty ts → b ≡ false → Shape w p q → Fresh w p q at
  fresh_reads table at_token e n h shape = record { scene = refl; count = refl; begun = h; first = first_token }
  fresh_reads table at_part e n h (shape_part i) = record { scene = refl; count = refl; begun = h; first = first_part }
  fresh_reads table at_part e n h (shape_chain make i) = record { scene = refl; count = refl; begun = h; first = first_part }
  fresh_reads table (at_test g) e n h shape = record { scene = refl; count = refl; begun = h; first = first_test }
  fresh_reads table (behind_token f r) e n h shape = absurd (past_same (past (reads_tail r)) (sym e))
  fresh_reads table (inside f) e n h (shape_part i) = fresh_part (fresh_front table f e n)
  fresh_reads table (inside f) e n h (shape_chain make i) = fresh_part (fresh_front table f e n)
  fresh_reads table (behind_part d r) e n h (shape_part i) = let g = empty_derives table d (sym (tail_between (reads_tail r) (derives_tail d) e)) n in absurd cc
  fresh_reads table (behind_part d r) e n h (shape_chain make i) = absurd (no_reads r)
  fresh_reads table (fronts.where_so g r) e n h (shape_end i) = absurd (no_reads r)
  fresh_reads table (fronts.where_so g r) e n h (shape_only i) = fresh_only (fresh_reads table r e n h i)

-- the part that comes next bears a construct, or one in it
abbrev pub BearsNext : Table → Scene → Next → List Placed → Type 0
BearsNext table w (a_token n c) ts = ⊥
BearsNext table w (a_part i) ts = table.bears w i ts ≡ true
BearsNext table w a_test ts = ⊥

pub first_bears : (table : Table) {w : Scene} {p : Part} {q : Process (Value p)} {x : Next} (ts : List Placed) → FirstOf w p q x → BearsNext table w x ts → AtFirst (λ i. table.bears w i ts ≡ true) q
first_bears table ts first_token h = absurd h
first_bears table ts first_part h = h
first_bears table ts first_test h = absurd h
first_bears table ts (first_in rule f) h = (table.bears_first rule ts (first_bears table ts f h)).0
first_bears table ts (first_only f) h = first_bears table ts f h

-- the token is the one that comes next, and begins so many forms
abbrev pub FitsNext : Scene → Next → Token → ℕ → Type 0
FitsNext w (a_token m c) t n = (n ≡ m) × Fits w c t
FitsNext w (a_part i) t n = ⊥
FitsNext w a_test t n = ⊥

pub first_forms : (table : Table) {w : Scene} {p : Part} {q : Process (Value p)} {x : Next} (t : Token) (n m : ℕ) → FirstOf w p q x → FitsNext w x t n → FirstForms table.forms w t m q → n ≤ m
first_forms table t n m first_token h g = let e = h.0 in let l = g h.1 in omega arith
first_forms table t n m first_part h g = absurd h
first_forms table t n m first_test h g = absurd h
first_forms table {w} t n m (first_in {i = i} rule f) h g = let l = first_forms table t n (table.forms w i t) f h (table.forms_first rule t) in omega arith
first_forms table t n m (first_only f) h g = first_forms table t n m f h g

-- behind a part, at a place where something was begun, no more forms are unfinished than in it
pub lower_reads : (table : Table) {b : Bool} {w : Scene} {p : Part} {q : Process (Value p)} {ts rest : List Placed} {at : Place} → Reads b w p q ts rest at → ts ≡ rest → Nonempty ts → WellFollowed table.begins table.continues w p q → at.begun ≡ true → (n : ℕ) → Lower n q → at.count ≤ n
lower_reads table at_token e h well g n l = omega arith
lower_reads table at_part e h well g n l = l
lower_reads table (at_test i) e h well g n l = omega arith
lower_reads table (behind_token f r) e h well g n l = absurd (past_same (past (reads_tail r)) (sym e))
lower_reads table (inside f) e h well g n l = let i = (fresh_front table f e h).begun in absurd cc
lower_reads table (behind_part {n = m} {a = a} d r) e h (well_part i j k) g n l =
    let x = tail_between (reads_tail r) (derives_tail d) e in
    let y = lower_reads table r (x ∙ e) (subst (λ v. Nonempty v) (sym x) h) (k a) g m (j a) in
    omega arith
lower_reads table (fronts.where_so g' r) e h (well_only i) g n l = lower_reads table r e h i g n l
