-- Where the tokens stand at a place, the descent stops before, or comes there and answers what is asked.
use Rattle.std.proofs.Common.{◌≡◌, ℕ, ◌+◌, ◌≤◌, Bool, true, false, if◌then◌else◌, List, [], ◌∷◌, Some, None, refl, sym, ap, ◌∙◌, subst, ◌⊎◌, inl, inr, arith}
use Rattle.std.proofs.lemmas.Bool.{cases_Bool, cases_lt, lt-ltb, le-ltb}
use Rattle.c_syntax_written.specs.declared.construct.Construct.{Construct}
use Rattle.c_syntax_written.specs.declared.token.Placed.{Placed}
use Rattle.c_grammar.specs.Parts.{Scene, Part, Value}
use Rattle.c_grammar.specs.declared.class.Class.{Class}
use Rattle.c_grammar.specs.Classes.{Fits}
use Rattle.c_grammar.specs.Process.{Process, token, part, only}
use Rattle.c_grammar.specs.Grammar.{Produces, Derives}
use Rattle.c_grammar.specs.Front.{Next, a_token, a_part, a_test, Place, Front, Reads, in_part, at_token, at_part, at_test, behind_token, inside, behind_part}
use Rattle.c_grammar.specs.Front as fronts
use Rattle.c_grammar.specs.Refused.{Unsupported, TooDeep, forms_begun, part_construct, nesting_limit}
use Rattle.c_grammar.specs.Descent.{Outcome, Done, Stop, barred, Goes, Follows, takes, is_deep, is_borne, is_left, goes_on, stops, passes, fails}
use Rattle.c_grammar.proofs.Table.{Begins, Leads, leads_token, leads_behind, leads_only, Quiet, WellFollowed, well_token, well_part, well_only, Table}
use Rattle.c_grammar.proofs.Tails.{Tail, Past, past, tail_past, tail_split, tail_between, Nonempty}
use Rattle.c_grammar.proofs.Seen.{derives_tail, reads_tail, follows_tail}
use Rattle.c_grammar.proofs.Steps.{End, finishes, halts, end_of, Early, Taken, bars, follows, taken}
use Rattle.c_grammar.proofs.Begins.{Opens, empty_derives, leads_opens, rule_opens, reads_leads}
use Rattle.c_grammar.proofs.Only.{EndsSo, done_is, follows_at, only_outcome}
use Rattle.c_grammar.proofs.Here.{Bearing, no_bar_borne}
use Rattle.c_grammar.proofs.Bracket.{bracket_behind}
use Rattle.c_grammar.proofs.Fresh.{FirstOf, fresh_reads, first_bears, first_forms, lower_reads}
use Rattle.c_grammar.proofs.Asks.{FitsFirst, Asks, ask_place, ask_token, ask_construct, ask_bracket, end_rest, end_tail, TokenAnswer, Answer, Judged, asks_nonempty, token_answer, part_answer, test_answer}

-- what comes next may begin with the first token
abbrev OpensNext : Begins → Scene → Next → List Placed → Type 0
OpensNext begins w (a_token n c) ts = FitsFirst w c ts
OpensNext begins w (a_part i) ts = Opens begins w i ts
OpensNext begins w a_test ts = ⊥

-- what is asked tells that it does
abbrev Tells : {w : Scene} {x : Next} {b : Bool} {d : ℕ} {ts : List Placed} → Asks w x b d ts → Type 0
Tells (ask_place e) = Unit {0}
Tells (ask_token f) = Unit {0}
Tells (ask_construct c m h) = ⊥
Tells (ask_bracket m b l) = ⊥

place_opens : (table : Table) (w : Scene) (i : Part) (c : Construct) (ts : List Placed) → part_construct w i ts ≡ Some c → Opens table.begins w i ts
place_opens table w i c [] e = let g = table.no_end_construct w i in cc
place_opens table w i c (t ∷ ts) e = table.construct_begins w i t ts c e

asks_open : (table : Table) {w : Scene} {x : Next} {b : Bool} {d : ℕ} {ts : List Placed} (a : Asks w x b d ts) → Tells a → OpensNext table.begins w x ts
asks_open table {w} {ts = ts} (ask_place {i = i} {c = c} e) h = place_opens table w i c ts e
asks_open table (ask_token f) h = f
asks_open table (ask_construct c m g) h = absurd h
asks_open table (ask_bracket m b l) h = absurd h

leads_fits : {begins : Begins} {w : Scene} {p : Part} {n : ℕ} {c : Class} {k : Placed → Process (Value p)} (ts : List Placed) → FitsFirst w c ts → Leads begins w p (token n c k) ts
leads_fits [] f = absurd f
leads_fits (t ∷ ts) f = leads_token f

leads_at : (table : Table) {w : Scene} {p : Part} {q : Process (Value p)} {x y : List Placed} → x ≡ y → Leads table.begins w p q x → Leads table.begins w p q y
leads_at table {w} {p} {q} e h = subst (λ v. Leads table.begins w p q v) e h

mutual
  tell_front : (table : Table) {w : Scene} {p : Part} {ts rest : List Placed} {at : Place} → Front w p ts rest at → ts ≡ rest → Nonempty ts → OpensNext table.begins at.scene at.next ts → Opens table.begins w p ts
  tell_front table (in_part {ts = ts} rule r) e n h = rule_opens table ts rule n (tell_reads table r e n h)

  tell_reads : (table : Table) {b : Bool} {w : Scene} {p : Part} {q : Process (Value p)} {ts rest : List Placed} {at : Place} → Reads b w p q ts rest at → ts ≡ rest → Nonempty ts → OpensNext table.begins at.scene at.next ts → Leads table.begins w p q ts
  tell_reads table (at_token {ts = ts}) e n h = leads_fits ts h
  tell_reads table (at_part {ts = ts}) e n h = leads_opens ts h
  tell_reads table (at_test g) e n h = absurd h
  tell_reads table (behind_token f r) e n h = leads_token f
  tell_reads table (inside {ts = ts} f) e n h = leads_opens ts (tell_front table f e n h)
  tell_reads table (behind_part {a = a} {at = at} d r) e n h =
      let x = tail_between (reads_tail r) (derives_tail d) e in
      leads_behind a (empty_derives table d (sym x) n) (leads_at table x (tell_reads table r (x ∙ e) (subst (λ v. Nonempty v) (sym x) n) (subst (λ v. OpensNext table.begins at.scene at.next v) (sym x) h)))
  tell_reads table (fronts.where_so g r) e n h = leads_only g (tell_reads table r e n h)

quiet_borne : (table : Table) (w s : Scene) (i : Part) (a : Value i) (c : Construct) (ts : List Placed) → Bearing w c ts → Quiet table.continues s i a ts
quiet_borne table w s i a c [] h = absurd h
quiet_borne table w s i a c (t ∷ ts) h = elim (cases_Bool (table.continues s i a t.token)) [ inl e ↦ let g = table.no_construct s w i a t.token e in absurd cc | inr e ↦ e ]

-- a part that bars the tokens, before a token in it that fits
barred_token : (table : Table) (d : ℕ) (w v : Scene) (p : Part) (q : Process (Value p)) (c : Construct) (n m : ℕ) (k : Class) (ts : List Placed) → Produces w p q → FirstOf w p q (a_token n k) → v ≡ w → m ≡ d → part_construct w p ts ≡ Some c → FitsFirst v k ts → TokenAnswer v n m ts (halts (barred p d c ts) ts)
barred_token table d w v p q c n m k [] rule first e h i f = absurd f
barred_token table d w v p q c n m k (t ∷ ts) rule first e h i f =
    let x = first_forms table t.token n (table.forms w p t.token) first (refl, subst (λ z. Fits z k t.token) e f) (table.forms_first rule t.token) in
    let y = table.forms_place w p t ts c i in
    elim (cases_lt nesting_limit (d + forms_begun (a_part p) t.token)) [
      | inl l ↦ inl (ap (λ z. halts (if z then TooDeep else Unsupported c) (t ∷ ts)) (lt-ltb nesting_limit (d + forms_begun (a_part p) t.token) l))
      | inr l ↦ inr (omega arith, inr (c, ap (λ z. halts (if z then TooDeep else Unsupported c) (t ∷ ts)) (le-ltb nesting_limit (d + forms_begun (a_part p) t.token) l), λ b j. absurd (no_bar_borne table w v p c b (t ∷ ts) i j)))
    ]

not_barred : {d : ℕ} {w : Scene} {p : Part} {q : Process (Value p)} {ts : List Placed} {o : Outcome (Value p)} → part_construct w p ts ≡ None → Taken d w p q ts o → Follows d w p q ts o
not_barred e (bars f) = absurd cc
not_barred e (follows f g) = g

token_taken : (table : Table) {d : ℕ} {w : Scene} {p : Part} {q : Process (Value p)} {ts : List Placed} {o : Outcome (Value p)} (v : Scene) (n : ℕ) (k : Class) (m : ℕ) → Produces w p q → FitsFirst v k ts → FirstOf w p q (a_token n k) → v ≡ w → m ≡ d → Taken d w p q ts o → (Follows d w p q ts o → Early ts (end_of o) ⊎ TokenAnswer v n m ts (end_of o)) → Early ts (end_of o) ⊎ TokenAnswer v n m ts (end_of o)
token_taken table {d} {w} {p} {q} {ts} v n k m rule f first e h (bars {c} i) rec = inr (barred_token table d w v p q c n m k ts rule first e h i f)
token_taken table v n k m rule f first e h (follows i g) rec = rec g

-- a place at which nothing of the part is read
here_judged : (table : Table) {d : ℕ} {w : Scene} {p : Part} {q : Process (Value p)} {o : Outcome (Value p)} {v : Scene} {x : Next} {b : Bool} {m : ℕ} {ts : List Placed} (a : Asks v x b m ts) → Produces w p q → FirstOf w p q x → v ≡ w → b ≡ false → m ≡ d → (Tells a → Leads table.begins w p q ts) → Goes d w p ts o → (Follows d w p q ts o → Judged a (end_of o)) → Judged a (end_of o)
here_judged table {w = w} {v = v} {ts = ts} (ask_place {i = i} {c = c} e) rule first ev eb em leads g rec =
    let x = table.bears_first rule ts (first_bears table ts first (table.bears_own w i ts c (subst (λ z. part_construct z i ts ≡ Some c) ev e))) in
    rec (not_barred x.1 (taken (table.predicts rule ts (leads tt)) g))
here_judged table {v = v} {m = m} {ts = ts} (ask_token {n = n} {c = k} f) rule first ev eb em leads g rec = token_taken table v n k m rule f first ev em (taken (table.predicts rule ts (leads tt)) g) rec
here_judged table (ask_construct c m h) rule first ev eb em leads g rec = absurd cc
here_judged table (ask_bracket m h l) rule first ev eb em leads g rec = absurd cc

past_judged : {d : ℕ} {w : Scene} {p : Part} {q : Process (Value p)} {ts : List Placed} {o : Outcome (Value p)} {v : Scene} {x : Next} {b : Bool} {m : ℕ} {rest : List Placed} (a : Asks v x b m rest) → Past rest ts → Taken d w p q ts o → (Follows d w p q ts o → Judged a (end_of o)) → Judged a (end_of o)
past_judged a x (bars e) rec = inl x
past_judged a x (follows e f) rec = rec f

rule_judged : (table : Table) {d : ℕ} {w : Scene} {p : Part} {q : Process (Value p)} {ts rest : List Placed} {at : Place} {o : Outcome (Value p)} {m : ℕ} (a : Asks at.scene at.next at.begun m rest) → Produces w p q → Reads false w p q ts rest at → m ≡ d + at.count → Goes d w p ts o → (Follows d w p q ts o → Judged a (end_of o)) → Judged a (end_of o)
rule_judged table {d} {w} {p} {q} {ts} {rest} {at} {o} {m} a rule r em g rec =
    elim (tail_split (reads_tail r)) [
      | inl e ↦
          let n = asks_nonempty table rest a in
          let k : Nonempty ts = subst (λ v. Nonempty v) e n in
          let f = fresh_reads table r (sym e) k refl (table.rule_shape rule) in
          let z = f.count in
          here_judged table a rule f.first f.scene f.begun (omega arith) (λ h. leads_at table (sym e) (tell_reads table r (sym e) k (subst (λ v. OpensNext table.begins at.scene at.next v) e (asks_open table a h)))) (subst (λ v. Goes d w p v o) (sym e) g) (λ h. rec (subst (λ v. Follows d w p q v o) e h))
      | inr x ↦ past_judged a x (taken (table.predicts rule ts (reads_leads table r x)) g) rec
    ]

token_judged : {d : ℕ} {w : Scene} {p : Part} {n : ℕ} {c : Class} {k : Placed → Process (Value p)} {t : Placed} {ts : List Placed} {o : Outcome (Value p)} {v : Scene} {x : Next} {b : Bool} {m : ℕ} {rest : List Placed} (a : Asks v x b m rest) → Fits w c t.token → Tail rest ts → Follows d w p (token n c k) (t ∷ ts) o → (Follows d w p (k t) ts o → Judged a (end_of o)) → Judged a (end_of o)
token_judged a i x (takes f l e g) rec = rec g
token_judged a i x (is_deep f l) rec = inl (past x)
token_judged a i x (is_borne f l e) rec = inl (past x)
token_judged a i x (is_left f) rec = absurd (f i)

-- it was read inside of a part, which is done
answer_on : {v : Scene} {x : Next} {b : Bool} {m : ℕ} {rest : List Placed} (a : Asks v x b m rest) (mid : List Placed) (e : End) → Answer a (finishes mid) → Tail (end_rest e) mid → Answer a e
answer_on (ask_place i) mid e h x = absurd cc
answer_on (ask_token f) mid e (inl h) x = absurd cc
answer_on (ask_token f) mid e (inr (l, inl (y, z))) x = inr (l, inl (tail_past x y, z))
answer_on (ask_token f) mid e (inr (l, inr (c, y, z))) x = absurd cc
answer_on (ask_construct c i j) mid e (inl h) x = absurd cc
answer_on (ask_construct c i j) mid e (inr h) x = absurd cc
answer_on (ask_bracket i j l) mid e h x = absurd cc

done_judged : {v : Scene} {x : Next} {b : Bool} {m : ℕ} {rest : List Placed} (a : Asks v x b m rest) (mid : List Placed) (e : End) → Judged a (finishes mid) → Tail (end_rest e) mid → Judged a e
done_judged a mid e (inl h) x = absurd h
done_judged a mid e (inr h) x = inr (answer_on a mid e h x)

inside_judged : {d : ℕ} {w s : Scene} {p i : Part} {n : ℕ} {k : Value i → Process (Value p)} {ts : List Placed} {o : Outcome (Value p)} {v : Scene} {x : Next} {b : Bool} {m : ℕ} {rest : List Placed} (a : Asks v x b m rest) → Follows d w p (part n s i k) ts o → ((o' : Outcome (Value i)) → Goes (d + n) s i ts o' → Judged a (end_of o')) → Judged a (end_of o)
inside_judged a (goes_on {a = y} {mid = mid} {o = o} g f) rec = done_judged a mid (end_of o) (rec (Done y mid) g) (end_tail o (follows_tail f))
inside_judged a (stops {rest = r} {why = why} g) rec = rec (Stop why r) g

only_judged : {d : ℕ} {w : Scene} {p : Part} {f : List Placed → Bool} {q : Process (Value p)} {ts : List Placed} {o : Outcome (Value p)} {v : Scene} {x : Next} {b : Bool} {m : ℕ} {rest : List Placed} (a : Asks v x b m rest) → f ts ≡ true → Follows d w p (only f q) ts o → (Follows d w p q ts o → Judged a (end_of o)) → Judged a (end_of o)
only_judged a i (passes e f) rec = rec f
only_judged a i (fails e) rec = absurd cc

-- behind a whole part it ends so, or stops as too deep where that is the answer
abbrev BehindSo : {v : Scene} {x : Next} {b : Bool} {m : ℕ} {rest : List Placed} → Asks v x b m rest → {A : Type 0} → A → List Placed → Outcome A → Type 0
BehindSo {rest = rest} a y mid o = EndsSo y mid o ⊎ ((end_of o ≡ halts TooDeep rest) × Answer a (halts TooDeep rest))

behind_done : {v : Scene} {x : Next} {b : Bool} {m : ℕ} {rest : List Placed} (a : Asks v x b m rest) {A : Type 0} {y z : A} {r mid : List Placed} → BehindSo a y mid (Done z r) → Done z r ≡ Done y mid
behind_done a (inl h) = done_is h
behind_done a (inr h) = let e = h.0 in absurd cc

behind_stop : {v : Scene} {x : Next} {b : Bool} {m : ℕ} {rest : List Placed} (a : Asks v x b m rest) {A : Type 0} {y : A} {mid : List Placed} (o : Outcome A) → BehindSo a y mid o → Tail rest mid → (o ≡ Done y mid → ⊥) → Judged a (end_of o)
behind_stop a o (inl (inl e)) x h = absurd (h e)
behind_stop a (Done z r) (inl (inr e)) x h = absurd e
behind_stop a (Stop why r) (inl (inr e)) x h = inl (tail_past x e)
behind_stop a o (inr g) x h = inr (subst (λ z. Answer a z) (sym g.0) g.1)

behind_judged : {d : ℕ} {w s : Scene} {p i : Part} {n : ℕ} {k : Value i → Process (Value p)} {ts mid : List Placed} {o : Outcome (Value p)} {v : Scene} {x : Next} {b : Bool} {m : ℕ} {rest : List Placed} (a : Asks v x b m rest) (y : Value i) → ((o' : Outcome (Value i)) → Goes (d + n) s i ts o' → BehindSo a y mid o') → Tail rest mid → Follows d w p (part n s i k) ts o → (Follows d w p (k y) mid o → Judged a (end_of o)) → Judged a (end_of o)
behind_judged a y h x (goes_on {i = i} {k = k} g f) rec = rec (follows_at i k (behind_done a (h _ g)) f)
behind_judged a y h x (stops {rest = r} {why = why} g) rec = behind_stop a (Stop why r) (h (Stop why r) g) x (λ e. cc)

behind_here : (table : Table) {s : Scene} {p i : Part} {w : Scene} {q : Process (Value p)} {y : Value i} {ts : List Placed} {v : Scene} {x : Next} {b : Bool} {m : ℕ} {rest : List Placed} (a : Asks v x b m rest) → Derives s i ts rest y → (Tells a → Leads table.begins w p q rest) → ((us : List Placed) → Leads table.begins w p q us → Quiet table.continues s i y us) → (e : ℕ) → (b ≡ true → m ≤ e) → (o : Outcome (Value i)) → Goes e s i ts o → BehindSo a y rest o
behind_here table {rest = rest} (ask_place f) d leads h e l o g = inl (only_outcome table d (h rest (leads tt)) e o g)
behind_here table {rest = rest} (ask_token f) d leads h e l o g = inl (only_outcome table d (h rest (leads tt)) e o g)
behind_here table {s} {p} {i} {y = y} {v = v} {rest = rest} (ask_construct c j k) d leads h e l o g = inl (only_outcome table d (quiet_borne table v s i y c rest k) e o g)
behind_here table (ask_bracket j k z) d leads h e l o g =
    let u = l refl in
    elim (bracket_behind table d k e o (omega arith) g) [ inl f ↦ inl f | inr f ↦ inr (f, refl) ]

derives_to : {s : Scene} {i : Part} {y : Value i} {ts mid rest : List Placed} → mid ≡ rest → Derives s i ts mid y → Derives s i ts rest y
derives_to {s} {i} {y} {ts} e d = subst (λ v. Derives s i ts v y) e d

behind_ends : (table : Table) {s : Scene} {p i : Part} {w : Scene} {q : Process (Value p)} {y : Value i} {ts mid rest : List Placed} {at : Place} {m : ℕ} (a : Asks at.scene at.next at.begun m rest) → Derives s i ts mid y → Reads true w p q mid rest at → ((us : List Placed) → Leads table.begins w p q us → Quiet table.continues s i y us) → WellFollowed table.begins table.continues w p q → (e : ℕ) → (at.begun ≡ true → mid ≡ rest → m ≤ e) → (o : Outcome (Value i)) → Goes e s i ts o → BehindSo a y mid o
behind_ends table {s} {p} {i} {w} {q} {y} {ts} {mid} {rest} {at} {m} a d r h well e k o g =
    elim (tail_split (reads_tail r)) [
      | inl f ↦
          let n : Nonempty mid = subst (λ v. Nonempty v) f (asks_nonempty table rest a) in
          subst (λ v. BehindSo a y v o) f (behind_here table a (derives_to (sym f) d) (λ t. leads_at table (sym f) (tell_reads table r (sym f) n (subst (λ v. OpensNext table.begins at.scene at.next v) f (asks_open table a t)))) h e (λ b. k b (sym f)) o g)
      | inr x ↦ inl (only_outcome table d (h mid (reads_leads table r x)) e o g)
    ]

mutual
  pub judged : (table : Table) {w : Scene} {p : Part} {ts rest : List Placed} {at : Place} → Front w p ts rest at → (d : ℕ) (o : Outcome (Value p)) → Goes d w p ts o → (m : ℕ) → m ≡ d + at.count → (a : Asks at.scene at.next at.begun m rest) → Judged a (end_of o)
  judged table (in_part rule r) d o g m e a = rule_judged table a rule r e g (λ f. judged_reads table r (table.rule_follows rule) d o f m e a)

  pub judged_reads : (table : Table) {b : Bool} {w : Scene} {p : Part} {q : Process (Value p)} {ts rest : List Placed} {at : Place} → Reads b w p q ts rest at → WellFollowed table.begins table.continues w p q → (d : ℕ) (o : Outcome (Value p)) → Follows d w p q ts o → (m : ℕ) → m ≡ d + at.count → (a : Asks at.scene at.next at.begun m rest) → Judged a (end_of o)
  judged_reads table (at_token {b}) well d o f m e a = inr (token_answer table f well b m e a)
  judged_reads table (at_part {b}) well d o f m e a = inr (part_answer table f b m e a)
  judged_reads table (at_test {b} i) well d o f m e a = inr (test_answer table i f b m e a)
  judged_reads table (behind_token i r) (well_token h g) d o f m e a = token_judged a i (reads_tail r) f (λ x. judged_reads table r (g _ i) d o x m e a)
  judged_reads table (inside {n = n} i) well d o f m e a = inside_judged a f (λ x y. judged table i (d + n) x y m (omega arith) a)
  judged_reads table (behind_part {n = n} {a = y} {at = at} z r) (well_part h l g) d o f m e a =
      behind_judged a y (behind_ends table a z r (h y).0 (g y) (d + n) (λ i j. let k = lower_reads table r j (subst (λ v. Nonempty v) (sym j) (asks_nonempty table _ a)) (g y) i n (l y) in omega arith)) (reads_tail r) f (λ x. judged_reads table r (g y) d o x m e a)
  judged_reads table (fronts.where_so i r) (well_only g) d o f m e a = only_judged a i f (λ x. judged_reads table r g d o x m e a)
