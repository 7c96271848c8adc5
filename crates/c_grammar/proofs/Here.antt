-- What the descent does at its first token, where that is a bracket too many or bears a construct of itself.
use Rattle.std.proofs.Common.{◌≡◌, ℕ, ◌+◌, ◌<◌, ◌≤◌, Bool, true, false, ◌&&◌, if◌then◌else◌, nat_lt, List, [], ◌∷◌, Some, refl, sym, ap, ◌∙◌, subst, ◌⊎◌, inl, inr, arith}
use Rattle.std.proofs.lemmas.Bool.{lt-ltb, and_from}
use Rattle.c_syntax_written.specs.declared.construct.Construct.{Construct}
use Rattle.c_syntax_written.specs.declared.token.Placed.{Placed}
use Rattle.c_syntax_written.specs.declared.token.Token.{Token}
use Rattle.c_grammar.specs.Parts.{Scene, AnExpr, Suffixes, Part, Value}
use Rattle.c_grammar.specs.Process.{Process, give}
use Rattle.c_grammar.specs.Front.{a_part}
use Rattle.c_grammar.specs.Refused.{Unsupported, TooDeep, token_construct, part_construct, is_bracket, forms_of_bracket, forms_begun, nesting_limit}
use Rattle.c_grammar.specs.Descent.{Outcome, why_token, refusal, barred, Goes, is_barred, no_rule, by_rule, Follows, is_done, takes, is_deep, is_borne, is_left, goes_on, stops, passes, fails}
use Rattle.c_grammar.proofs.Table.{Shape, shape_end, shape_part, shape_chain, shape_only, WellFollowed, well_token, well_part, well_only, Table}
use Rattle.c_grammar.proofs.Tails.{Nonempty}
use Rattle.c_grammar.proofs.Seen.{seen}
use Rattle.c_grammar.proofs.Steps.{End, finishes, halts, end_of}
use Rattle.c_grammar.proofs.Begins.{empty_derives}

-- the first token is a bracket
abbrev pub Bracketed : List Placed → Type 0
Bracketed [] = ⊥
Bracketed (t ∷ ts) = is_bracket t.token ≡ true

pub bracketed_nonempty : (ts : List Placed) → Bracketed ts → Nonempty ts
bracketed_nonempty [] h = h
bracketed_nonempty (t ∷ ts) h = tt

-- it stops here as too deep, or reads nothing
abbrev pub StaysDeep : List Placed → End → Type 0
StaysDeep ts e = (e ≡ halts TooDeep ts) ⊎ (e ≡ finishes ts)

bracket_forms : (p : Part) (t : Token) → is_bracket t ≡ true → 1 ≤ forms_begun (a_part p) t
bracket_forms (AnExpr (Suffixes base)) t e = omega arith
bracket_forms p t e = subst (λ b. 1 ≤ forms_of_bracket b) (sym e) (omega arith)

pub refusal_deep : (w : Scene) (d : ℕ) (ts : List Placed) → Bracketed ts → nesting_limit < d + 1 → refusal w d ts ≡ TooDeep
refusal_deep w d [] b h = absurd b
refusal_deep w d (t ∷ ts) b h = ap (λ v. why_token v (token_construct w t.token)) (and_from (is_bracket t.token) (nat_lt nesting_limit (d + 1)) b (lt-ltb nesting_limit (d + 1) h))

pub barred_deep : (p : Part) (d : ℕ) (c : Construct) (ts : List Placed) → Bracketed ts → nesting_limit < d + 1 → barred p d c ts ≡ TooDeep
barred_deep p d c [] b h = absurd b
barred_deep p d c (t ∷ ts) b h =
    let g = bracket_forms p t.token b in
    ap (λ v. if v then TooDeep else Unsupported c) (lt-ltb nesting_limit (d + forms_begun (a_part p) t.token) (omega arith))

deep_on : {ts mid : List Placed} {e : End} → StaysDeep ts (finishes mid) → Bracketed ts → (Bracketed mid → StaysDeep mid e) → StaysDeep ts e
deep_on {ts} {mid} {e} (inl g) b h = absurd cc
deep_on {ts} {mid} {e} (inr g) b h = let i : mid ≡ ts = cc in subst (λ v. StaysDeep v e) i (h (subst (λ v. Bracketed v) (sym i) b))

mutual
  pub bracket_here : (table : Table) {d : ℕ} {w : Scene} {p : Part} {ts : List Placed} {o : Outcome (Value p)} → Goes d w p ts o → Bracketed ts → nesting_limit < d + 1 → StaysDeep ts (end_of o)
  bracket_here table (is_barred {d} {w} {p} {ts} {c} e) b h = inl (ap (λ v. halts v ts) (barred_deep p d c ts b h))
  bracket_here table (no_rule {d} {w} {p} {ts} e c) b h = inl (ap (λ v. halts v ts) (refusal_deep w d ts b h))
  bracket_here table (by_rule q rule e c f) b h = bracket_follows table f b h (table.rule_follows rule)

  pub bracket_follows : (table : Table) {d : ℕ} {w : Scene} {p : Part} {q : Process (Value p)} {ts : List Placed} {o : Outcome (Value p)} → Follows d w p q ts o → Bracketed ts → nesting_limit < d + 1 → WellFollowed table.begins table.continues w p q → StaysDeep ts (end_of o)
  bracket_follows table is_done b h well = inr refl
  bracket_follows table (takes {t = t} f l c g) b h (well_token i j) = let x = i t f b in absurd (omega arith)
  bracket_follows table (is_deep f l) b h well = inl refl
  bracket_follows table (is_borne {t = t} f l c) b h (well_token i j) = let x = i t f b in absurd (omega arith)
  bracket_follows table (is_left {d} {w} {ts = ts} f) b h well = inl (ap (λ v. halts v ts) (refusal_deep w d ts b h))
  bracket_follows table (goes_on {a = a} g f) b h (well_part i l j) = deep_on (bracket_here table g b (omega arith)) b (λ c. bracket_follows table f c h (j a))
  bracket_follows table (stops g) b h (well_part i l j) = bracket_here table g b (omega arith)
  bracket_follows table (passes e f) b h (well_only i) = bracket_follows table f b h i
  bracket_follows table (fails {d} {w} {ts = ts} e) b h well = inl (ap (λ v. halts v ts) (refusal_deep w d ts b h))

-- the first token bears the construct
abbrev pub Bearing : Scene → Construct → List Placed → Type 0
Bearing w c [] = ⊥
Bearing w c (t ∷ ts) = token_construct w t.token ≡ Some c

-- it stops here, as too deep or for the construct, or reads nothing
abbrev pub StaysBorne : Construct → List Placed → End → Type 0
StaysBorne c ts e = ((e ≡ halts TooDeep ts) ⊎ (e ≡ halts (Unsupported c) ts)) ⊎ (e ≡ finishes ts)

pub no_bar_borne : (table : Table) (w s : Scene) (p : Part) (b c : Construct) (ts : List Placed) → part_construct w p ts ≡ Some b → Bearing s c ts → ⊥
no_bar_borne table w s p b c [] e h = h
no_bar_borne table w s p b c (t ∷ ts) e h = let g = table.one_construct w s p t ts b e in cc

why_borne : (b : Bool) (c : Construct) → (why_token b (Some c) ≡ TooDeep) ⊎ (why_token b (Some c) ≡ Unsupported c)
why_borne true c = inl refl
why_borne false c = inr refl

why_at : (w : Scene) (d : ℕ) (t : Placed) (ts : List Placed) (c : Construct) → token_construct w t.token ≡ Some c → (refusal w d (t ∷ ts) ≡ TooDeep) ⊎ (refusal w d (t ∷ ts) ≡ Unsupported c)
why_at w d t ts c e =
    let x : Bool = is_bracket t.token && nat_lt nesting_limit (d + 1) in
    let g : why_token x (token_construct w t.token) ≡ why_token x (Some c) = ap (λ v. why_token x v) e in
    elim (why_borne x c) [ inl h ↦ inl (g ∙ h) | inr h ↦ inr (g ∙ h) ]

pub refusal_borne : (w : Scene) (d : ℕ) (ts : List Placed) (c : Construct) → Bearing w c ts → StaysBorne c ts (halts (refusal w d ts) ts)
refusal_borne w d [] c h = absurd h
refusal_borne w d (t ∷ ts) c h = inl (elim (why_at w d t ts c h) [ inl e ↦ inl (ap (λ v. halts v (t ∷ ts)) e) | inr e ↦ inr (ap (λ v. halts v (t ∷ ts)) e) ])

give_end : {d : ℕ} {w : Scene} {p : Part} {v : Value p} {ts : List Placed} {o : Outcome (Value p)} → Follows d w p (give v) ts o → end_of o ≡ finishes ts
give_end is_done = refl

pub bearing_nonempty : (w : Scene) (c : Construct) (ts : List Placed) → Bearing w c ts → Nonempty ts
bearing_nonempty w c [] h = h
bearing_nonempty w c (t ∷ ts) h = tt

pub stays_here : {c : Construct} {ts mid : List Placed} → StaysBorne c ts (finishes mid) → mid ≡ ts
stays_here (inl (inl e)) = absurd cc
stays_here (inl (inr e)) = absurd cc
stays_here (inr e) = cc

mutual
  pub construct_here : (table : Table) {d : ℕ} {w : Scene} {p : Part} {ts : List Placed} {o : Outcome (Value p)} → Goes d w p ts o → (c : Construct) → Bearing w c ts → StaysBorne c ts (end_of o)
  construct_here table (is_barred {w = w} {p = p} {ts = ts} {c = b} e) c h = absurd (no_bar_borne table w w p b c ts e h)
  construct_here table (no_rule {d} {w} {p} {ts} e f) c h = refusal_borne w d ts c h
  construct_here table (by_rule q rule e f g) c h = construct_follows table g c h (table.rule_shape rule)

  pub construct_follows : (table : Table) {d : ℕ} {w : Scene} {p : Part} {q : Process (Value p)} {ts : List Placed} {o : Outcome (Value p)} → Follows d w p q ts o → (c : Construct) → Bearing w c ts → Shape w p q → StaysBorne c ts (end_of o)
  construct_follows table is_done c h shape = inr refl
  construct_follows table (takes f l e g) c h shape = absurd cc
  construct_follows table (is_deep f l) c h shape = inl (inl refl)
  construct_follows table (is_borne {t = t} {ts = ts} {b = b} f l e) c h shape = let g : b ≡ c = cc in inl (inr (ap (λ v. halts (Unsupported v) (t ∷ ts)) g))
  construct_follows table (is_left {d} {w} {ts = ts} f) c h shape = refusal_borne w d ts c h
  construct_follows table (goes_on {w = w} {ts = ts} g f) c h (shape_part i) = let e = empty_derives table (seen g) (sym (stays_here (construct_here table g c h))) (bearing_nonempty w c ts h) in absurd cc
  construct_follows table (goes_on g f) c h (shape_chain make i) = inr (give_end f ∙ ap (λ v. finishes v) (stays_here (construct_here table g c h)))
  construct_follows table (stops g) c h (shape_part i) = construct_here table g c h
  construct_follows table (stops g) c h (shape_chain make i) = construct_here table g c h
  construct_follows table (passes e f) c h (shape_end i) = inr (give_end f)
  construct_follows table (passes e f) c h (shape_only i) = construct_follows table f c h i
  construct_follows table (fails {d} {w} {ts = ts} e) c h shape = refusal_borne w d ts c h
