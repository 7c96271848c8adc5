-- Where the descent stops, and why: at a place that the tokens stand at, with a reason that is the place's.
use Rattle.std.proofs.Common.{◌≡◌, ℕ, ◌+◌, ◌<◌, Bool, true, false, ◌&&◌, if◌then◌else◌, nat_lt, List, [], ◌∷◌, Option, Some, None, refl, sym, subst, inl, inr, arith}
use Rattle.std.proofs.lemmas.Bool.{cases_Bool, ltb-true, and_parts}
use Rattle.c_syntax_written.specs.declared.construct.Construct.{Construct}
use Rattle.c_syntax_written.specs.declared.token.Placed.{Placed}
use Rattle.c_grammar.specs.Parts.{Scene, Part, Value}
use Rattle.c_grammar.specs.declared.class.Class.{Class}
use Rattle.c_grammar.specs.Classes.{Fits}
use Rattle.c_grammar.specs.Process.{Process, give, token, part, only}
use Rattle.c_grammar.specs.Grammar.{Produces, Derives}
use Rattle.c_grammar.specs.Front.{Next, a_token, a_part, a_test, Place, deeper, Front, Reads, in_part, at_token, at_part, at_test, behind_token, inside, behind_part}
use Rattle.c_grammar.specs.Front as fronts
use Rattle.c_grammar.specs.Refused.{Why, Syntax, Unsupported, TooDeep, MustCome, forms_begun, token_construct, part_construct, is_bracket, may_be_empty, nesting_limit}
use Rattle.c_grammar.specs.Choice.{choose}
use Rattle.c_grammar.specs.Descent.{Outcome, Done, Stop, why_token, why_construct, refusal, barred, NotFits, Goes, is_barred, no_rule, by_rule, Follows, is_done, takes, is_deep, is_borne, is_left, goes_on, stops, passes, fails}
use Rattle.c_grammar.proofs.Table.{Shape, shape_give, shape_end, shape_token, shape_part, shape_chain, shape_only, Sure, sure_token, sure_part, sure_chain, sure_only, Table}
use Rattle.c_grammar.proofs.Seen.{seen}
use Rattle.c_grammar.proofs.Steps.{same_choice}

-- why the first token is refused at a place: of its scene, what comes next, whether something was begun, and how
-- many forms are unfinished
pub data Reason : Scene → Next → Bool → ℕ → List Placed → Why → Type 0 where
  for_syntax : {w : Scene} {x : Next} {b : Bool} {m : ℕ} {ts : List Placed} → Reason w x b m ts Syntax
  for_depth : {w : Scene} {n : ℕ} {c : Class} {b : Bool} {m : ℕ} {t : Placed} {ts : List Placed} → Fits w c t.token → nesting_limit < m + n → Reason w (a_token n c) b m (t ∷ ts) TooDeep
  for_bracket : {w : Scene} {x : Next} {m : ℕ} {t : Placed} {ts : List Placed} → MustCome x → is_bracket t.token ≡ true → nesting_limit < m + 1 → Reason w x true m (t ∷ ts) TooDeep
  for_place_depth : {w : Scene} {i : Part} {b : Bool} {m : ℕ} {t : Placed} {ts : List Placed} {c : Construct} → part_construct w i (t ∷ ts) ≡ Some c → nesting_limit < m + forms_begun (a_part i) t.token → Reason w (a_part i) b m (t ∷ ts) TooDeep
  for_construct : {w : Scene} {x : Next} {m : ℕ} {t : Placed} {ts : List Placed} {c : Construct} → MustCome x → token_construct w t.token ≡ Some c → Reason w x true m (t ∷ ts) (Unsupported c)
  for_read : {w : Scene} {n : ℕ} {k : Class} {b : Bool} {m : ℕ} {t : Placed} {ts : List Placed} {c : Construct} → Fits w k t.token → token_construct w t.token ≡ Some c → Reason w (a_token n k) b m (t ∷ ts) (Unsupported c)
  for_place : {w : Scene} {i : Part} {b : Bool} {m : ℕ} {t : Placed} {ts : List Placed} {c : Construct} → part_construct w i (t ∷ ts) ≡ Some c → Reason w (a_part i) b m (t ∷ ts) (Unsupported c)

pub record StopsIn (b : Bool) (d : ℕ) (w : Scene) (p : Part) (q : Process (Value p)) (ts rest : List Placed) (why : Why) : Type 0 where
  pub at : Place
  pub reads : Reads b w p q ts rest at
  pub forms : ℕ
  pub count : forms ≡ d + at.count
  pub reason : Reason at.scene at.next at.begun forms rest why

pub record StopsInPart (d : ℕ) (w : Scene) (p : Part) (ts rest : List Placed) (why : Why) : Type 0 where
  pub at : Place
  pub reads : Front w p ts rest at
  pub forms : ℕ
  pub count : forms ≡ d + at.count
  pub reason : Reason at.scene at.next at.begun forms rest why

-- it stops inside, or the part bars its tokens, or refuses its first where it may not be empty
data PartStop : ℕ → (w : Scene) (p : Part) → List Placed → Outcome (Value p) → Type 0 where
  part_done : {d : ℕ} {w : Scene} {p : Part} {ts rest : List Placed} {v : Value p} → PartStop d w p ts (Done v rest)
  part_inside : {d : ℕ} {w : Scene} {p : Part} {ts rest : List Placed} {why : Why} → StopsInPart d w p ts rest why → PartStop d w p ts (Stop why rest)
  part_bars : {d : ℕ} {w : Scene} {p : Part} {ts : List Placed} {c : Construct} → part_construct w p ts ≡ Some c → PartStop d w p ts (Stop (barred p d c ts) ts)
  part_refuses : {d : ℕ} {w : Scene} {p : Part} {ts : List Placed} → may_be_empty p ≡ false → ((q : Process (Value p)) (rule : Produces w p q) → choose w p ts ≡ Some (q, rule) → Sure w p q ts → ⊥) → PartStop d w p ts (Stop (refusal w d ts) ts)

-- so does what is left of a production, where nothing of it was read before
data RestStop : Bool → ℕ → (w : Scene) (p : Part) → Process (Value p) → List Placed → Outcome (Value p) → Type 0 where
  rest_done : {b : Bool} {d : ℕ} {w : Scene} {p : Part} {q : Process (Value p)} {ts rest : List Placed} {v : Value p} → RestStop b d w p q ts (Done v rest)
  rest_inside : {b : Bool} {d : ℕ} {w : Scene} {p : Part} {q : Process (Value p)} {ts rest : List Placed} {why : Why} → StopsIn b d w p q ts rest why → RestStop b d w p q ts (Stop why rest)
  rest_refuses : {d : ℕ} {w : Scene} {p : Part} {q : Process (Value p)} {ts : List Placed} → (Sure w p q ts → ⊥) → RestStop false d w p q ts (Stop (refusal w d ts) ts)

-- the first part is in the scene and counts none
abbrev FirstHere : (w : Scene) {A : Type 0} → Process A → Type 0
FirstHere w (give v) = Unit {0}
FirstHere w (token n c k) = Unit {0}
FirstHere w (part n s i k) = (n ≡ 0) × (s ≡ w)
FirstHere w (only f q) = FirstHere w q

shape_here : {w : Scene} {p : Part} {q : Process (Value p)} → Shape w p q → FirstHere w q
shape_here (shape_give e) = tt
shape_here (shape_end e) = tt
shape_here shape_token = tt
shape_here (shape_part e) = (refl, refl)
shape_here (shape_chain make e) = (refl, refl)
shape_here (shape_only s) = shape_here s

construct_reason : {w : Scene} {x : Next} {m : ℕ} (t : Placed) (ts : List Placed) → MustCome x → (o : Option Construct) → token_construct w t.token ≡ o → Reason w x true m (t ∷ ts) (why_construct o)
construct_reason t ts m None e = for_syntax
construct_reason t ts m (Some c) e = for_construct m e

bracket_reason : {w : Scene} {x : Next} {m : ℕ} (t : Placed) (ts : List Placed) → MustCome x → (z : Bool) → (is_bracket t.token && nat_lt nesting_limit (m + 1)) ≡ z → Reason w x true m (t ∷ ts) (why_token z (token_construct w t.token))
bracket_reason {m = m} t ts h true e =
    let y = and_parts (is_bracket t.token) (nat_lt nesting_limit (m + 1)) e in
    for_bracket h y.0 (ltb-true nesting_limit (m + 1) y.1)
bracket_reason {w} t ts h false e = construct_reason t ts h (token_construct w t.token) refl

refusal_reason : {w : Scene} {x : Next} (m : ℕ) (ts : List Placed) → MustCome x → Reason w x true m ts (refusal w m ts)
refusal_reason m [] h = for_syntax
refusal_reason m (t ∷ ts) h = bracket_reason t ts h (is_bracket t.token && nat_lt nesting_limit (m + 1)) refl

barred_reason : {w : Scene} {i : Part} {b : Bool} (m : ℕ) (c : Construct) (t : Placed) (ts : List Placed) → part_construct w i (t ∷ ts) ≡ Some c → (z : Bool) → nat_lt nesting_limit (m + forms_begun (a_part i) t.token) ≡ z → Reason w (a_part i) b m (t ∷ ts) (if z then TooDeep else Unsupported c)
barred_reason {i = i} m c t ts e true h = for_place_depth e (ltb-true nesting_limit (m + forms_begun (a_part i) t.token) h)
barred_reason m c t ts e false h = for_place e

place_reason : (table : Table) {w : Scene} {i : Part} {b : Bool} (m : ℕ) (c : Construct) (ts : List Placed) → part_construct w i ts ≡ Some c → Reason w (a_part i) b m ts (barred i m c ts)
place_reason table {w} {i} m c [] e = let g = table.no_end_construct w i in absurd cc
place_reason table {i = i} m c (t ∷ ts) e = barred_reason m c t ts e (nat_lt nesting_limit (m + forms_begun (a_part i) t.token)) refl

not_sure : (w : Scene) (p : Part) {n : ℕ} (c : Class) {k : Placed → Process (Value p)} (ts : List Placed) → NotFits w c ts → Sure w p (token n c k) ts → ⊥
not_sure w p c (t ∷ ts) f (sure_token g) = f g
not_sure w p c [] f s = elim s [ ]

left_stop : (b : Bool) {d : ℕ} {w : Scene} {p : Part} {n : ℕ} {c : Class} {k : Placed → Process (Value p)} {ts : List Placed} → NotFits w c ts → RestStop b d w p (token n c k) ts (Stop (refusal w d ts) ts)
left_stop true {d} {w} {p} {n} {c} {k} {ts} f = rest_inside (record { at = record { scene = w; count = 0; next = a_token n c; begun = true }; reads = at_token; forms = d; count = omega arith; reason = refusal_reason d ts tt })
left_stop false {d} {w} {p} {n} {c} {k} {ts} f = rest_refuses (λ s. not_sure w p c ts f s)

test_sure : {w : Scene} {p : Part} {f : List Placed → Bool} {q : Process (Value p)} {ts : List Placed} → f ts ≡ false → Sure w p (only f q) ts → ⊥
test_sure e (sure_only g s) = cc

fails_stop : (b : Bool) {d : ℕ} {w : Scene} {p : Part} {f : List Placed → Bool} {q : Process (Value p)} {ts : List Placed} → f ts ≡ false → RestStop b d w p (only f q) ts (Stop (refusal w d ts) ts)
fails_stop true {d} {w} {p} {f} {q} {ts} e = rest_inside (record { at = record { scene = w; count = 0; next = a_test; begun = true }; reads = at_test e; forms = d; count = omega arith; reason = refusal_reason d ts tt })
fails_stop false {d} {w} {p} {f} {q} {ts} e = rest_refuses (λ s. test_sure e s)

token_stop : (b : Bool) {d : ℕ} {w : Scene} {p : Part} {n : ℕ} {c : Class} {k : Placed → Process (Value p)} {t : Placed} {ts : List Placed} {o : Outcome (Value p)} → Fits w c t.token → RestStop true d w p (k t) ts o → RestStop b d w p (token n c k) (t ∷ ts) o
token_stop b f rest_done = rest_done
token_stop b f (rest_inside i) = rest_inside (record { at = i.at; reads = behind_token f i.reads; forms = i.forms; count = i.count; reason = i.reason })

behind_stop : (b : Bool) {d : ℕ} {w s : Scene} {p i : Part} {n : ℕ} {k : Value i → Process (Value p)} {a : Value i} {ts mid : List Placed} {o : Outcome (Value p)} → Derives s i ts mid a → RestStop true d w p (k a) mid o → RestStop b d w p (part n s i k) ts o
behind_stop b x rest_done = rest_done
behind_stop b x (rest_inside i) = rest_inside (record { at = i.at; reads = behind_part x i.reads; forms = i.forms; count = i.count; reason = i.reason })

sure_test : {w : Scene} {p : Part} {f : List Placed → Bool} {q : Process (Value p)} {ts : List Placed} → Sure w p (only f q) ts → Sure w p q ts
sure_test (sure_only e s) = s

only_stop : (b : Bool) {d : ℕ} {w : Scene} {p : Part} {f : List Placed → Bool} {q : Process (Value p)} {ts : List Placed} {o : Outcome (Value p)} → f ts ≡ true → RestStop b d w p q ts o → RestStop b d w p (only f q) ts o
only_stop b e rest_done = rest_done
only_stop b e (rest_inside i) = rest_inside (record { at = i.at; reads = fronts.where_so e i.reads; forms = i.forms; count = i.count; reason = i.reason })
only_stop false e (rest_refuses h) = rest_refuses (λ s. h (sure_test s))

first_stop : {d : ℕ} {w s : Scene} {p i : Part} {n : ℕ} {k : Value i → Process (Value p)} {ts : List Placed} → n ≡ 0 → s ≡ w → (Sure w p (part n s i k) ts → ⊥) → RestStop false d w p (part n s i k) ts (Stop (refusal s (d + n) ts) ts)
first_stop {d} {w} {s} {p} {i} {n} {k} {ts} e f h =
    let g : d ≡ d + n = omega arith in
    subst (λ z. RestStop false d w p (part n s i k) ts (Stop (refusal z (d + n) ts) ts)) (sym f) (subst (λ z. RestStop false d w p (part n s i k) ts (Stop (refusal w z ts) ts)) g (rest_refuses h))

first_sure : {w s : Scene} {p i : Part} {n : ℕ} {k : Value i → Process (Value p)} {ts : List Placed} → may_be_empty i ≡ false → ((q : Process (Value i)) (rule : Produces s i q) → choose s i ts ≡ Some (q, rule) → Sure s i q ts → ⊥) → Sure w p (part n s i k) ts → ⊥
first_sure e h (sure_part rule c s) = h _ rule c s
first_sure e h (sure_chain f) = cc

refuses_stop : (b : Bool) {d : ℕ} {w s : Scene} {p i : Part} {n : ℕ} {k : Value i → Process (Value p)} {ts : List Placed} → (b ≡ false → (n ≡ 0) × (s ≡ w)) → may_be_empty i ≡ false → ((q : Process (Value i)) (rule : Produces s i q) → choose s i ts ≡ Some (q, rule) → Sure s i q ts → ⊥) → RestStop b d w p (part n s i k) ts (Stop (refusal s (d + n) ts) ts)
refuses_stop true {d} {w} {s} {p} {i} {n} {k} {ts} f e h = rest_inside (record { at = record { scene = s; count = n; next = a_part i; begun = true }; reads = at_part; forms = d + n; count = refl; reason = refusal_reason (d + n) ts e })
refuses_stop false f e h = let g = f refl in first_stop g.0 g.1 (λ s. first_sure e h s)

part_stop : (table : Table) (b : Bool) {d : ℕ} {w s : Scene} {p i : Part} {n : ℕ} {k : Value i → Process (Value p)} {ts rest : List Placed} {why : Why} → (b ≡ false → (n ≡ 0) × (s ≡ w)) → PartStop (d + n) s i ts (Stop why rest) → RestStop b d w p (part n s i k) ts (Stop why rest)
part_stop table b {n = n} f (part_inside j) = let e = j.count in rest_inside (record { at = deeper n j.at; reads = inside j.reads; forms = j.forms; count = omega arith; reason = j.reason })
part_stop table b {d} {w} {s} {p} {i} {n} {k} {ts} f (part_bars {c = c} e) = rest_inside (record { at = record { scene = s; count = n; next = a_part i; begun = b }; reads = at_part; forms = d + n; count = refl; reason = place_reason table (d + n) c ts e })
part_stop table b f (part_refuses e h) = refuses_stop b f e h

sure_as : {w : Scene} {p : Part} {q r : Process (Value p)} {ts : List Placed} → r ≡ q → Sure w p r ts → Sure w p q ts
sure_as {w} {p} {q} {r} {ts} e s = subst (λ z. Sure w p z ts) e s

rule_stop : (table : Table) {d : ℕ} {w : Scene} {p : Part} {q : Process (Value p)} {ts : List Placed} {o : Outcome (Value p)} (rule : Produces w p q) → part_construct w p ts ≡ None → choose w p ts ≡ Some (q, rule) → RestStop false d w p q ts o → PartStop d w p ts o
rule_stop table rule e c rest_done = part_done
rule_stop table rule e c (rest_inside i) = part_inside (record { at = i.at; reads = in_part rule i.reads; forms = i.forms; count = i.count; reason = i.reason })
rule_stop table {w = w} {p = p} {ts = ts} rule e c (rest_refuses h) =
    elim (cases_Bool (may_be_empty p)) [
      | inl m ↦ absurd (h (table.sure ts rule m e c))
      | inr m ↦ part_refuses m (λ r other f s. h (sure_as (same_choice (choose w p ts) other rule f c) s))
    ]

mutual
  goes_stop : (table : Table) {d : ℕ} {w : Scene} {p : Part} {ts : List Placed} {o : Outcome (Value p)} → Goes d w p ts o → PartStop d w p ts o
  goes_stop table (is_barred e) = part_bars e
  goes_stop table (no_rule {w = w} {p = p} {ts = ts} e c) = part_refuses (table.no_choice w p ts c) (λ q rule f s. cc)
  goes_stop table (by_rule q rule e c f) = rule_stop table rule e c (follows_stop table f false (λ h. shape_here (table.rule_shape rule)))

  follows_stop : (table : Table) {d : ℕ} {w : Scene} {p : Part} {q : Process (Value p)} {ts : List Placed} {o : Outcome (Value p)} → Follows d w p q ts o → (b : Bool) → (b ≡ false → FirstHere w q) → RestStop b d w p q ts o
  follows_stop table is_done b h = rest_done
  follows_stop table (takes f l e g) b h = token_stop b f (follows_stop table g true (λ e. absurd cc))
  follows_stop table (is_deep {d} {w} {n = n} {c = c} f l) b h = rest_inside (record { at = record { scene = w; count = 0; next = a_token n c; begun = b }; reads = at_token; forms = d; count = omega arith; reason = for_depth f l })
  follows_stop table (is_borne {d} {w} {n = n} {c = c} f l e) b h = rest_inside (record { at = record { scene = w; count = 0; next = a_token n c; begun = b }; reads = at_token; forms = d; count = omega arith; reason = for_read f e })
  follows_stop table (is_left f) b h = left_stop b f
  follows_stop table (goes_on g f) b h = behind_stop b (seen g) (follows_stop table f true (λ e. absurd cc))
  follows_stop table (stops g) b h = part_stop table b h (goes_stop table g)
  follows_stop table (passes e f) b h = only_stop b e (follows_stop table f b h)
  follows_stop table (fails e) b h = fails_stop b e

at_stop : {d : ℕ} {w : Scene} {p : Part} {q : Process (Value p)} {ts rest : List Placed} {why : Why} → RestStop true d w p q ts (Stop why rest) → StopsIn true d w p q ts rest why
at_stop (rest_inside i) = i

-- behind what was read of a production
pub stops_at : (table : Table) {d : ℕ} {w : Scene} {p : Part} {q : Process (Value p)} {ts rest : List Placed} {why : Why} → Follows d w p q ts (Stop why rest) → StopsIn true d w p q ts rest why
stops_at table f = at_stop (follows_stop table f true (λ e. absurd cc))
