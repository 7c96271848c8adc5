-- What is asked of a place before some tokens, and what the descent answers where it comes to the place.
use Rattle.std.proofs.Common.{◌≡◌, ℕ, ◌+◌, ◌<◌, ◌≤◌, Bool, true, false, List, [], ◌∷◌, Some, refl, sym, ap, subst, ◌⊎◌, inl, inr, arith}
use Rattle.c_syntax_written.specs.declared.construct.Construct.{Construct}
use Rattle.c_syntax_written.specs.declared.token.Placed.{Placed}
use Rattle.c_grammar.specs.Parts.{Scene, Part, Value}
use Rattle.c_grammar.specs.declared.class.Class.{Class}
use Rattle.c_grammar.specs.Classes.{Fits}
use Rattle.c_grammar.specs.Process.{Process, token, part, only}
use Rattle.c_grammar.specs.Front.{Next, a_token, a_part, a_test}
use Rattle.c_grammar.specs.Refused.{Why, Unsupported, TooDeep, MustCome, part_construct, nesting_limit, may_be_empty}
use Rattle.c_grammar.specs.Descent.{Outcome, Done, Stop, barred, NotFits, Goes, Follows, takes, is_deep, is_borne, is_left, goes_on, stops, passes, fails}
use Rattle.c_grammar.proofs.Table.{WellFollowed, well_token, Table}
use Rattle.c_grammar.proofs.Tails.{Tail, Past, past, Nonempty}
use Rattle.c_grammar.proofs.Seen.{seen, rest_of, follows_tail}
use Rattle.c_grammar.proofs.Steps.{End, finishes, halts, end_of, Early, barred_only}
use Rattle.c_grammar.proofs.Begins.{empty_derives}
use Rattle.c_grammar.proofs.Here.{Bracketed, bracketed_nonempty, bearing_nonempty, StaysDeep, bracket_here, refusal_deep, Bearing, StaysBorne, construct_here, stays_here, refusal_borne}

-- the first token is of the class
abbrev pub FitsFirst : Scene → Class → List Placed → Type 0
FitsFirst w c [] = ⊥
FitsFirst w c (t ∷ ts) = Fits w c t.token

-- of a scene, what comes next, whether something was begun, and how many forms are unfinished: does the part
-- bar the tokens, does the token fit, does it bear a construct where something must come, is it a bracket too
-- many there
pub data Asks : Scene → Next → Bool → ℕ → List Placed → Type 0 where
  ask_place : {w : Scene} {i : Part} {b : Bool} {d : ℕ} {ts : List Placed} {c : Construct} → part_construct w i ts ≡ Some c → Asks w (a_part i) b d ts
  ask_token : {w : Scene} {n : ℕ} {c : Class} {b : Bool} {d : ℕ} {ts : List Placed} → FitsFirst w c ts → Asks w (a_token n c) b d ts
  ask_construct : {w : Scene} {x : Next} {d : ℕ} {ts : List Placed} (c : Construct) → MustCome x → Bearing w c ts → Asks w x true d ts
  ask_bracket : {w : Scene} {x : Next} {d : ℕ} {ts : List Placed} → MustCome x → Bracketed ts → nesting_limit < d + 1 → Asks w x true d ts

abbrev pub end_rest : End → List Placed
end_rest (finishes r) = r
end_rest (halts why r) = r

-- A token that fits is too deep, or it is read, and bears no construct, or it bears the construct that is told.
abbrev pub TokenAnswer : Scene → ℕ → ℕ → List Placed → End → Type 0
TokenAnswer w n d ts e = (e ≡ halts TooDeep ts) ⊎ ((d + n ≤ nesting_limit) × ((Past (end_rest e) ts × ((c : Construct) → Bearing w c ts → ⊥)) ⊎ ((b : Construct) × (e ≡ halts (Unsupported b) ts) × ((c : Construct) → Bearing w c ts → b ≡ c))))

abbrev pub Answer : {w : Scene} {x : Next} {b : Bool} {d : ℕ} {ts : List Placed} → Asks w x b d ts → End → Type 0
Answer {d = d} {ts = ts} (ask_place {i = i} {c = c} g) e = e ≡ halts (barred i d c ts) ts
Answer {w} {d = d} {ts = ts} (ask_token {n = n} f) e = TokenAnswer w n d ts e
Answer {ts = ts} (ask_construct c m h) e = (e ≡ halts TooDeep ts) ⊎ (e ≡ halts (Unsupported c) ts)
Answer {ts = ts} (ask_bracket m b l) e = e ≡ halts TooDeep ts

-- the descent stopped before, or answers
abbrev pub Judged : {w : Scene} {x : Next} {b : Bool} {d : ℕ} {ts : List Placed} → Asks w x b d ts → End → Type 0
Judged {ts = ts} a e = Early ts e ⊎ Answer a e

pub asks_nonempty : (table : Table) {w : Scene} {x : Next} {b : Bool} {d : ℕ} (ts : List Placed) → Asks w x b d ts → Nonempty ts
asks_nonempty table (t ∷ ts) a = tt
asks_nonempty table [] (ask_place {w} {i} e) = let g = table.no_end_construct w i in cc
asks_nonempty table [] (ask_token f) = f
asks_nonempty table [] (ask_construct c m h) = h
asks_nonempty table [] (ask_bracket m b l) = b

pub end_tail : {A : Type 0} {ts : List Placed} (o : Outcome A) → Tail (rest_of o) ts → Tail (end_rest (end_of o)) ts
end_tail (Done v r) x = x
end_tail (Stop why r) x = x

not_fits : (w : Scene) (c : Class) (ts : List Placed) → NotFits w c ts → FitsFirst w c ts → ⊥
not_fits w c [] f g = g
not_fits w c (t ∷ ts) f g = f g

borne_is : {c : Construct} {ts : List Placed} {why : Why} → StaysBorne c ts (halts why ts) → (halts why ts ≡ halts TooDeep ts) ⊎ (halts why ts ≡ halts (Unsupported c) ts)
borne_is (inl e) = e
borne_is (inr e) = absurd cc

-- at a token's place
pub token_answer : (table : Table) {d : ℕ} {w : Scene} {p : Part} {n : ℕ} {c : Class} {k : Placed → Process (Value p)} {ts : List Placed} {o : Outcome (Value p)} → Follows d w p (token n c k) ts o → WellFollowed table.begins table.continues w p (token n c k) → (b : Bool) (m : ℕ) → m ≡ d + 0 → (a : Asks w (a_token n c) b m ts) → Answer a (end_of o)
token_answer table (takes {o = o} f l e g) well b m h (ask_token i) = inr (omega arith, inl (past (end_tail o (follows_tail g)), λ c j. cc))
token_answer table (is_deep f l) well b m h (ask_token i) = inl refl
token_answer table (is_borne {b = x} f l e) well b m h (ask_token i) = inr (omega arith, inr (x, refl, λ c j. cc))
token_answer table (is_left {d} {w} {c = c} {ts = ts} f) well b m h (ask_token i) = absurd (not_fits w c ts f i)
token_answer table (takes f l e g) well b m h (ask_construct c i j) = absurd cc
token_answer table (is_deep f l) well b m h (ask_construct c i j) = inl refl
token_answer table (is_borne {t = t} {ts = ts} {b = x} f l e) well b m h (ask_construct c i j) = let y : x ≡ c = cc in inr (ap (λ v. halts (Unsupported v) (t ∷ ts)) y)
token_answer table (is_left {d} {w} {ts = ts} f) well b m h (ask_construct c i j) = borne_is (refusal_borne w d ts c j)
token_answer table (takes {t = t} f l e g) (well_token u v) b m h (ask_bracket i j x) = let y = u t f j in absurd (omega arith)
token_answer table (is_deep f l) (well_token u v) b m h (ask_bracket i j x) = refl
token_answer table (is_borne {t = t} f l e) (well_token u v) b m h (ask_bracket i j x) = let y = u t f j in absurd (omega arith)
token_answer table (is_left {d} {w} {ts = ts} f) (well_token u v) b m h (ask_bracket i j x) = ap (λ z. halts z ts) (refusal_deep w d ts j (omega arith))

deep_here : {ts mid : List Placed} → StaysDeep ts (finishes mid) → mid ≡ ts
deep_here (inl e) = absurd cc
deep_here (inr e) = cc

deep_is : {ts r : List Placed} {why : Why} → StaysDeep ts (halts why r) → halts why r ≡ halts TooDeep ts
deep_is (inl e) = e
deep_is (inr e) = absurd cc

stays_is : {c : Construct} {ts r : List Placed} {why : Why} → StaysBorne c ts (halts why r) → (halts why r ≡ halts TooDeep ts) ⊎ (halts why r ≡ halts (Unsupported c) ts)
stays_is (inl e) = e
stays_is (inr e) = absurd cc

not_empty : (table : Table) {d : ℕ} {w : Scene} {p : Part} {ts mid : List Placed} {v : Value p} → Goes d w p ts (Done v mid) → may_be_empty p ≡ false → mid ≡ ts → Nonempty ts → ⊥
not_empty table g m e n = let h = empty_derives table (seen g) (sym e) n in cc

barred_end : {A : Type 0} (i : Part) {d m : ℕ} (c : Construct) {ts : List Placed} (o : Outcome A) → m ≡ d → o ≡ Stop (barred i d c ts) ts → end_of o ≡ halts (barred i m c ts) ts
barred_end {A} i {d} {m} c {ts} o e f = subst (λ v. end_of o ≡ halts (barred i v c ts) ts) (sym e) (ap (λ x. end_of x) f)

-- at a part's place
pub part_answer : (table : Table) {d : ℕ} {w s : Scene} {p i : Part} {n : ℕ} {k : Value i → Process (Value p)} {ts : List Placed} {o : Outcome (Value p)} → Follows d w p (part n s i k) ts o → (b : Bool) (m : ℕ) → m ≡ d + n → (a : Asks s (a_part i) b m ts) → Answer a (end_of o)
part_answer table (goes_on g f) b m h (ask_place e) = let x = barred_only e g in absurd cc
part_answer table (stops {rest = rest} {why = why} g) b m h (ask_place {i = i} {c = c} e) = barred_end i c (Stop why rest) h (barred_only e g)
part_answer table (goes_on {s = w} {ts = ts} g f) b m h (ask_construct c x y) = absurd (not_empty table g x (stays_here (construct_here table g c y)) (bearing_nonempty w c ts y))
part_answer table (stops g) b m h (ask_construct c x y) = stays_is (construct_here table g c y)
part_answer table (goes_on {ts = ts} g f) b m h (ask_bracket x y l) = absurd (not_empty table g x (deep_here (bracket_here table g y (omega arith))) (bracketed_nonempty ts y))
part_answer table (stops g) b m h (ask_bracket x y l) = deep_is (bracket_here table g y (omega arith))

-- where a test fails
pub test_answer : (table : Table) {d : ℕ} {w : Scene} {p : Part} {f : List Placed → Bool} {q : Process (Value p)} {ts : List Placed} {o : Outcome (Value p)} → f ts ≡ false → Follows d w p (only f q) ts o → (b : Bool) (m : ℕ) → m ≡ d + 0 → (a : Asks w a_test b m ts) → Answer a (end_of o)
test_answer table i (passes e f) b m h a = absurd cc
test_answer table i (fails {d} {w} {ts = ts} e) b m h (ask_construct c x y) = borne_is (refusal_borne w d ts c y)
test_answer table i (fails {d} {w} {ts = ts} e) b m h (ask_bracket x y l) = ap (λ z. halts z ts) (refusal_deep w d ts y (omega arith))
