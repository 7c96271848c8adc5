-- What is read of a part begins with a token that begins the part; where nothing is read, the part may be empty.
use Rattle.std.proofs.Common.{◌≡◌, ℕ, Bool, true, false, List, [], ◌∷◌, refl, sym, ◌∙◌, subst, inl, inr}
use Rattle.c_syntax_written.specs.declared.token.Placed.{Placed}
use Rattle.c_grammar.specs.Parts.{Scene, Part, Value}
use Rattle.c_grammar.specs.Process.{Process, part}
use Rattle.c_grammar.specs.Grammar.{Produces, Derives, Spells, by, ended, token_then, part_then, where_so}
use Rattle.c_grammar.specs.Front.{Front, Reads, Place, in_part, at_token, at_part, at_test, behind_token, inside, behind_part}
use Rattle.c_grammar.specs.Front as fronts
use Rattle.c_grammar.specs.Refused.{may_be_empty}
use Rattle.c_grammar.proofs.Table.{Begins, Leads, leads_token, leads_part, leads_behind, leads_only, Shape, shape_give, shape_end, shape_token, shape_part, shape_chain, shape_only, Table}
use Rattle.c_grammar.proofs.Tails.{Past, past, Nonempty, past_same, past_nonempty, tail_split, tail_between}
use Rattle.c_grammar.proofs.Seen.{derives_tail, spells_tail}

pub ends_clash : (f : List Placed → Bool) (ts : List Placed) → ((t : Placed) (s : List Placed) → f (t ∷ s) ≡ false) → Nonempty ts → f ts ≡ true → ⊥
ends_clash f [] h n e = absurd n
ends_clash f (t ∷ ts) h n e = let g = h t ts in cc

mutual
  pub empty_derives : (table : Table) {w : Scene} {p : Part} {ts rest : List Placed} {v : Value p} → Derives w p ts rest v → ts ≡ rest → Nonempty ts → may_be_empty p ≡ true
  empty_derives table (by rule s) e n = empty_spells table s e n (table.rule_shape rule)

  pub empty_spells : (table : Table) {w : Scene} {p : Part} {q : Process (Value p)} {ts rest : List Placed} {v : Value p} → Spells w p q ts rest v → ts ≡ rest → Nonempty ts → Shape w p q → may_be_empty p ≡ true
  empty_spells table ended e n (shape_give h) = h
  empty_spells table (token_then f s) e n shape_token = absurd (past_same (past (spells_tail s)) (sym e))
  empty_spells table (part_then d s) e n (shape_part h) = let g = empty_derives table d (sym (tail_between (spells_tail s) (derives_tail d) e)) n in cc
  empty_spells table (part_then d s) e n (shape_chain make h) = sym h ∙ empty_derives table d (sym (tail_between (spells_tail s) (derives_tail d) e)) n
  empty_spells table (where_so {f = f} {ts = ts} g s) e n (shape_end h) = absurd (ends_clash f ts h n g)
  empty_spells table (where_so g s) e n (shape_only shape) = empty_spells table s e n shape

-- the first token begins the part
abbrev pub Opens : Begins → Scene → Part → List Placed → Type 0
Opens begins w p [] = ⊥
Opens begins w p (t ∷ ts) = begins w p t.token ≡ true

pub leads_opens : {begins : Begins} {w s : Scene} {p i : Part} {n : ℕ} {k : Value i → Process (Value p)} (ts : List Placed) → Opens begins s i ts → Leads begins w p (part n s i k) ts
leads_opens [] h = absurd h
leads_opens (t ∷ ts) h = leads_part h

pub rule_opens : (table : Table) {w : Scene} {p : Part} {q : Process (Value p)} (ts : List Placed) → Produces w p q → Nonempty ts → Leads table.begins w p q ts → Opens table.begins w p ts
rule_opens table [] rule n h = absurd n
rule_opens table (t ∷ ts) rule n h = table.rule_begins rule t ts h

part_leads : (table : Table) {w s : Scene} {p i : Part} {n : ℕ} {k : Value i → Process (Value p)} {a : Value i} {ts mid rest : List Placed} → Derives s i ts mid a → Past rest ts → (Past mid ts → Opens table.begins s i ts) → (Past rest mid → Leads table.begins w p (k a) mid) → Leads table.begins w p (part n s i k) ts
part_leads table {w} {s} {p} {i} {n} {k} {a} {ts} {mid} {rest} d x g h =
    elim (tail_split (derives_tail d)) [
      | inl e ↦ leads_behind a (empty_derives table d (sym e) (past_nonempty x)) (subst (λ v. Leads table.begins w p (k a) v) e (h (subst (λ v. Past rest v) (sym e) x)))
      | inr y ↦ leads_opens ts (g y)
    ]

mutual
  pub begins_it : (table : Table) {w : Scene} {p : Part} {ts rest : List Placed} {v : Value p} → Derives w p ts rest v → Past rest ts → Opens table.begins w p ts
  begins_it table (by {ts = ts} rule s) x = rule_opens table ts rule (past_nonempty x) (spells_leads table s x)

  pub spells_leads : (table : Table) {w : Scene} {p : Part} {q : Process (Value p)} {ts rest : List Placed} {v : Value p} → Spells w p q ts rest v → Past rest ts → Leads table.begins w p q ts
  spells_leads table ended x = absurd (past_same x refl)
  spells_leads table (token_then f s) x = leads_token f
  spells_leads table (part_then d s) x = part_leads table d x (λ y. begins_it table d y) (λ y. spells_leads table s y)
  spells_leads table (where_so e s) x = leads_only e (spells_leads table s x)

mutual
  pub front_opens : (table : Table) {w : Scene} {p : Part} {ts rest : List Placed} {at : Place} → Front w p ts rest at → Past rest ts → Opens table.begins w p ts
  front_opens table (in_part {ts = ts} rule r) x = rule_opens table ts rule (past_nonempty x) (reads_leads table r x)

  pub reads_leads : (table : Table) {b : Bool} {w : Scene} {p : Part} {q : Process (Value p)} {ts rest : List Placed} {at : Place} → Reads b w p q ts rest at → Past rest ts → Leads table.begins w p q ts
  reads_leads table at_token x = absurd (past_same x refl)
  reads_leads table at_part x = absurd (past_same x refl)
  reads_leads table (at_test e) x = absurd (past_same x refl)
  reads_leads table (behind_token f r) x = leads_token f
  reads_leads table (inside {ts = ts} f) x = leads_opens ts (front_opens table f x)
  reads_leads table (behind_part d r) x = part_leads table d x (λ y. begins_it table d y) (λ y. reads_leads table r y)
  reads_leads table (fronts.where_so e r) x = leads_only e (reads_leads table r x)
