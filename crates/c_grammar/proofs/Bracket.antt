-- Behind a whole part, at a bracket that is one too many, the descent is done with the part, or stops.
use Rattle.std.proofs.Common.{◌≡◌, ℕ, ◌+◌, ◌<◌, Bool, true, List, ◌∷◌, refl, sym, ap, ◌∙◌, subst, ◌⊎◌, inl, inr, arith}
use Rattle.c_syntax_written.specs.declared.token.Placed.{Placed}
use Rattle.c_grammar.specs.Parts.{Scene, Part, Value}
use Rattle.c_grammar.specs.declared.class.Class.{Class}
use Rattle.c_grammar.specs.Classes.{Fits}
use Rattle.c_grammar.specs.Process.{Process, give, token, part, only}
use Rattle.c_grammar.specs.Grammar.{Produces, Derives, Spells, by, ended, token_then, part_then, where_so}
use Rattle.c_grammar.specs.Refused.{TooDeep, nesting_limit}
use Rattle.c_grammar.specs.Descent.{Outcome, Done, Stop, Goes, Follows, is_done, takes, is_deep, is_borne, is_left, goes_on, stops, passes, fails}
use Rattle.c_grammar.proofs.Table.{Empties, WellFollowed, well_token, well_part, well_only, Table}
use Rattle.c_grammar.proofs.Tails.{Tail, Past, past, Nonempty, tail_past, tail_split, tail_between, past_same}
use Rattle.c_grammar.proofs.Seen.{derives_tail, spells_tail, seen}
use Rattle.c_grammar.proofs.Steps.{halts, end_of, Early, Taken, bars, follows, taken}
use Rattle.c_grammar.proofs.Begins.{empty_derives, spells_leads}
use Rattle.c_grammar.proofs.Only.{EndsSo, Ends, done_is, follows_at, only_outcome}
use Rattle.c_grammar.proofs.Here.{Bracketed, bracketed_nonempty, StaysDeep, bracket_here}

-- a production that reads nothing may be empty
empty_process : (table : Table) {w : Scene} {p : Part} {q : Process (Value p)} {ts rest : List Placed} {v : Value p} → Spells w p q ts rest v → ts ≡ rest → Nonempty ts → Empties q
empty_process table ended e n = tt
empty_process table (token_then f s) e n = absurd (past_same (past (spells_tail s)) (sym e))
empty_process table (part_then d s) e n = empty_derives table d (sym (tail_between (spells_tail s) (derives_tail d) e)) n
empty_process table (where_so f s) e n = empty_process table s e n

spells_as : {w : Scene} {p : Part} {q r : Process (Value p)} {ts rest : List Placed} {v : Value p} → r ≡ q → Spells w p r ts rest v → Spells w p q ts rest v
spells_as {w} {p} {q} {r} {ts} {rest} {v} e s = subst (λ x. Spells w p x ts rest v) e s

spells_from : {w : Scene} {p : Part} (i : Part) (k : Value i → Process (Value p)) {a b : Value i} {x y rest : List Placed} {v : Value p} → b ≡ a → y ≡ x → Spells w p (k b) y rest v → Spells w p (k a) x rest v
spells_from {w} {p} i k {a} {b} {x} {y} {rest} {v} e f s = subst (λ z. Spells w p (k z) x rest v) e (subst (λ z. Spells w p (k b) z rest v) f s)

-- where nothing is read, the value is one
mutual
  pub one_value : (table : Table) {w : Scene} {p : Part} {ts rest : List Placed} {v : Value p} → Derives w p ts rest v → ts ≡ rest → Nonempty ts → (other : List Placed) (u : Value p) → Derives w p ts other u → ts ≡ other → v ≡ u
  one_value table (by rule s) e n other u (by rule' s') f =
      one_spelled table s e n other u (spells_as (table.one_empty rule' rule (empty_process table s' f n) (empty_process table s e n)) s') f

  one_spelled : (table : Table) {w : Scene} {p : Part} {q : Process (Value p)} {ts rest : List Placed} {v : Value p} → Spells w p q ts rest v → ts ≡ rest → Nonempty ts → (other : List Placed) (u : Value p) → Spells w p q ts other u → ts ≡ other → v ≡ u
  one_spelled table ended e n other u ended f = refl
  one_spelled table (token_then g s) e n other u s' f = absurd (past_same (past (spells_tail s)) (sym e))
  one_spelled table (part_then {i = i} {k = k} {a = a} d s) e n other u (part_then {a = b} d' s') f =
      let x = tail_between (spells_tail s) (derives_tail d) e in
      let y = tail_between (spells_tail s') (derives_tail d') f in
      let z : a ≡ b = one_value table d (sym x) n _ b d' (sym y) in
      one_spelled table s (x ∙ e) (subst (λ v. Nonempty v) (sym x) n) other u (spells_from i k (sym z) (y ∙ sym x) s') (x ∙ f)
  one_spelled table (where_so g s) e n other u (where_so g' s') f = one_spelled table s e n other u s' f

-- it ends with this value and these tokens, or stopped before them, or at them as too deep
abbrev pub EndsDeep : {A : Type 0} → A → List Placed → Outcome A → Type 0
EndsDeep v rest o = EndsSo v rest o ⊎ (end_of o ≡ halts TooDeep rest)

abbrev pub DeepEnds : (w : Scene) (p : Part) → List Placed → List Placed → Value p → Type 0
DeepEnds w p ts rest v = (d : ℕ) (o : Outcome (Value p)) → nesting_limit < d + 1 → Goes d w p ts o → EndsDeep v rest o

abbrev pub RestDeep : (w : Scene) (p : Part) → Process (Value p) → List Placed → List Placed → Value p → Type 0
RestDeep w p q ts rest v = (d : ℕ) (o : Outcome (Value p)) → nesting_limit < d + 1 → Follows d w p q ts o → EndsDeep v rest o

token_deep : {w : Scene} {p : Part} {n : ℕ} {c : Class} {k : Placed → Process (Value p)} {t : Placed} {ts rest : List Placed} {v : Value p} → Fits w c t.token → Tail rest ts → RestDeep w p (k t) ts rest v → RestDeep w p (token n c k) (t ∷ ts) rest v
token_deep f x h d o b (takes g l c k) = h d o b k
token_deep f x h d o b (is_deep g l) = inl (inr (past x))
token_deep f x h d o b (is_borne g l c) = inl (inr (past x))
token_deep f x h d o b (is_left g) = absurd (g f)

deep_is : {A : Type 0} {a b : A} {r s : List Placed} → EndsDeep a r (Done b s) → Done b s ≡ Done a r
deep_is (inl e) = done_is e
deep_is (inr e) = absurd cc

stop_deep : {A B : Type 0} {a : A} {v : B} {mid rest : List Placed} (o : Outcome A) (x : Outcome B) → end_of o ≡ end_of x → EndsDeep a mid o → Tail rest mid → (o ≡ Done a mid → ⊥) → EndsDeep v rest x
stop_deep {A} {B} {a} {v} {mid} {rest} o x e (inl (inl f)) y h = absurd (h f)
stop_deep {A} {B} {a} {v} {mid} {rest} (Done b r) x e (inl (inr f)) y h = absurd f
stop_deep {A} {B} {a} {v} {mid} {rest} (Stop why r) x e (inl (inr f)) y h = inl (inr (subst (λ z. Early rest z) e (tail_past y f)))
stop_deep {A} {B} {a} {v} {mid} {rest} o x e (inr f) y h =
    elim (tail_split y) [ inl g ↦ inr (sym e ∙ f ∙ ap (λ z. halts TooDeep z) (sym g)) | inr g ↦ inl (inr (subst (λ z. Early rest z) (sym f ∙ e) g)) ]

part_deep : {w s : Scene} {p i : Part} {n : ℕ} {k : Value i → Process (Value p)} {a : Value i} {ts mid rest : List Placed} {v : Value p} → DeepEnds s i ts mid a → Tail rest mid → RestDeep w p (k a) mid rest v → RestDeep w p (part n s i k) ts rest v
part_deep h x g d o b (goes_on {i = i} {k = k} y z) = g d o b (follows_at i k (deep_is (h _ _ (omega arith) y)) z)
part_deep {p = p} {i = i} h x g d o b (stops {rest = r} {why = why} y) = stop_deep (Stop why r) (Stop why r) refl (h _ (Stop why r) (omega arith) y) x (λ e. cc)

only_deep : {w : Scene} {p : Part} {f : List Placed → Bool} {q : Process (Value p)} {ts rest : List Placed} {v : Value p} → f ts ≡ true → RestDeep w p q ts rest v → RestDeep w p (only f q) ts rest v
only_deep e h d o b (passes g k) = h d o b k
only_deep e h d o b (fails g) = absurd cc

give_deep : {w : Scene} {p : Part} {ts : List Placed} {v : Value p} → RestDeep w p (give v) ts ts v
give_deep d o b is_done = inl (inl refl)

-- nothing is read: what the descent is done with is the value
here_deep : (table : Table) {w : Scene} {p : Part} {ts rest : List Placed} {v : Value p} → Derives w p ts rest v → rest ≡ ts → Nonempty ts → (d : ℕ) (o : Outcome (Value p)) → Goes d w p ts o → StaysDeep ts (end_of o) → EndsDeep v rest o
here_deep table x e n d o g (inl f) = inr (f ∙ ap (λ z. halts TooDeep z) (sym e))
here_deep table {ts = ts} {rest = rest} {v = v} x e n d (Done u r) g (inr f) =
    let y : r ≡ ts = cc in
    let z : v ≡ u = one_value table x (sym e) n r u (seen g) (sym y) in
    inl (inl cc)
here_deep table x e n d (Stop why r) g (inr f) = absurd cc

taken_deep : (table : Table) {w : Scene} {p : Part} {q : Process (Value p)} {ts rest : List Placed} {v : Value p} {d : ℕ} {o : Outcome (Value p)} → Past rest ts → RestDeep w p q ts rest v → nesting_limit < d + 1 → Taken d w p q ts o → EndsDeep v rest o
taken_deep table x h b (bars e) = inl (inr x)
taken_deep table x h b (follows e f) = h _ _ b f

rule_deep : (table : Table) {w : Scene} {p : Part} {q : Process (Value p)} {ts rest : List Placed} {v : Value p} → Produces w p q → Spells w p q ts rest v → Bracketed rest → RestDeep w p q ts rest v → DeepEnds w p ts rest v
rule_deep table {ts = ts} {rest = rest} rule s c h d o b g =
    elim (tail_split (spells_tail s)) [
      | inl e ↦ here_deep table (by rule s) e (bracketed_nonempty ts (subst (λ z. Bracketed z) e c)) d o g (bracket_here table g (subst (λ z. Bracketed z) e c) b)
      | inr x ↦ taken_deep table x h b (taken (table.predicts rule ts (spells_leads table s x)) g)
    ]

inner_deep : (table : Table) {w s : Scene} {p i : Part} {q : Process (Value p)} {a : Value i} {ts mid rest : List Placed} {v : Value p} → Spells w p q mid rest v → Bracketed rest → (Past rest mid → Ends s i ts mid a) → (Bracketed mid → DeepEnds s i ts mid a) → DeepEnds s i ts mid a
inner_deep table s c g h d o b x = elim (tail_split (spells_tail s)) [ inl e ↦ h (subst (λ z. Bracketed z) e c) d o b x | inr y ↦ inl (g y d o x) ]

mutual
  pub bracket_behind : (table : Table) {w : Scene} {p : Part} {ts rest : List Placed} {v : Value p} → Derives w p ts rest v → Bracketed rest → DeepEnds w p ts rest v
  bracket_behind table (by rule s) c = rule_deep table rule s c (bracket_spells table s (table.rule_follows rule) c)

  pub bracket_spells : (table : Table) {w : Scene} {p : Part} {q : Process (Value p)} {ts rest : List Placed} {v : Value p} → Spells w p q ts rest v → WellFollowed table.begins table.continues w p q → Bracketed rest → RestDeep w p q ts rest v
  bracket_spells table ended well c = give_deep
  bracket_spells table (token_then f s) (well_token h g) c = token_deep f (spells_tail s) (bracket_spells table s (g _ f) c)
  bracket_spells table (part_then {a = a} {mid = mid} d s) (well_part h l g) c = part_deep (inner_deep table s c (λ y. only_outcome table d ((h a).0 mid (spells_leads table s y))) (bracket_behind table d)) (spells_tail s) (bracket_spells table s (g a) c)
  bracket_spells table (where_so e s) (well_only g) c = only_deep e (bracket_spells table s g c)
