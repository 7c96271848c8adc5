-- From what callees answered to what their caller answers.
use Rattle.std.proofs.Common.{◌≡◌, refl, sym, subst, ap, ◌∙◌, ℕ, ◌+◌, ◌≤◌, ◌<◌, nat_lt, Bool, true, false, ◌&&◌, List, [], ◌∷◌, Bor, add-zero}
use Rattle.std.specs.Prelude.{Result, Ok, Err, Option, Some, None, if◌then◌else◌}
use Rattle.std.specs.Result.{IsErrAnd}
use Rattle.std.proofs.lemmas.Result.{err_from_is_err_and}
use Rattle.c_syntax_written.specs.declared.construct.Construct.{Construct}
use Rattle.c_syntax_written.specs.declared.token.Placed.{Placed}
use Rattle.c_syntax_written.specs.declared.token.Punctuator.{Punctuator}
use Rattle.c_syntax_written.specs.declared.token.Keyword.{Keyword}
use Rattle.c_grammar.specs.declared.parts.Closing.{Closing}
use Rattle.c_grammar.specs.Parts.{Scene, Close, Part, Value}
use Rattle.c_grammar.specs.declared.class.Class.{Class}
use Rattle.c_grammar.specs.declared.class.Class.TheVariants.{Sign as sign, Keyword as keyword}
use Rattle.c_grammar.specs.Classes.{Fits, closing_sign}
use Rattle.c_grammar.specs.Process.{Process, give, token, part}
use Rattle.c_grammar.specs.ExprRules as exprs
use Rattle.c_grammar.specs.Grammar.{Produces, expr_rule}
use Rattle.c_grammar.specs.Refused.{Why, Syntax, Unsupported, TooDeep, part_construct, token_construct, is_bracket, nesting_limit, where_true}
use Rattle.c_grammar.specs.Choice.{choose}
use Rattle.c_grammar.specs.Descent.{Outcome, Done, Stop, Goes, Follows, NotFits, by_rule, goes_on, stops, is_done, is_left, is_deep, is_borne, takes, refusal, why_token}
use Rattle.c_parser_steps.specs.declared.fault.Fault.{Fault}
use Rattle.c_parser_steps.specs.Answers.{Halts, no_memory, syntax, unsupported, too_deep, IsStop, Gives, given, halted, Takes, taken, refused, Steps, stepped, stalled}

-- what a callee's stop is to its caller
pub halts : {A B : Why → List Placed → Type 0} {f : Fault} → Halts A f → ((why : Why) (rest : List Placed) → A why rest → B why rest) → Halts B f
halts no_memory g = no_memory
halts (syntax h) g = syntax (g _ _ h)
halts (unsupported h) g = unsupported (g _ _ h)
halts (too_deep h) g = too_deep (g _ _ h)

-- a fault that is passed on
pub passed_on : {A : Type 0} {f : Fault} {r : Result A Fault} (P : Result A Fault → Type 0) → IsErrAnd r (λ y. y ≡ f) → P (Err f) → P r
passed_on {f = f} {r = r} P h g = let p = err_from_is_err_and r h in subst P (sym p.1) (subst (λ v. P (Err v)) (sym p.2) g)

-- what a callee answered
pub answer : {A : Type 0} {d : ℕ} {w : Scene} {p : Part} {ts : List Placed} {view : A → Value p} {x : A × Bor (List Placed)} → Gives (λ o. Goes d w p ts o) view (Ok x) → Goes d w p ts (Done (view x.0) x.1.now)
answer (given g) = g

-- what is left of a part reads as the part
pub carried : {A V : Type 0} {goes other : Outcome V → Type 0} {view : A → V} {r : Result (A × Bor (List Placed)) Fault} → Gives goes view r → ((o : Outcome V) → goes o → other o) → Gives other view r
carried (given g) f = given (f _ g)
carried (halted h) f = halted (halts h (λ why rest g. f _ g))

pub halt : {A : Type 0} {d : ℕ} {w : Scene} {p : Part} {ts : List Placed} {view : A → Value p} {f : Fault} → Gives (λ o. Goes d w p ts o) view (Err f) → Halts (λ why rest. Goes d w p ts (Stop why rest)) f
halt (halted h) = h

pub take : {d : ℕ} {w : Scene} {n : ℕ} {c : Class} {ts : List Placed} {x : Bor Placed × Bor (List Placed)} {p : Part} {k : Placed → Process (Value p)} {o : Outcome (Value p)} → Takes d w n c ts (Ok x) → Follows d w p (k x.0.now) x.1.now o → Follows d w p (token n c k) ts o
take (taken g) f = g _ _ _ f

pub refuse : {d : ℕ} {w : Scene} {n : ℕ} {c : Class} {ts : List Placed} {f : Fault} → Takes d w n c ts (Err f) → Halts (λ why rest. (p : Part) (k : Placed → Process (Value p)) → Follows d w p (token n c k) ts (Stop why rest)) f
refuse (refused h) = h

-- what closes a form was taken, or not
pub shut : {d n : ℕ} {w : Scene} {z : Closing} {ts : List Placed} {x : Bor Placed × Bor (List Placed)} {p : Part} {k : Value (Close z) → Process (Value p)} {o : Outcome (Value p)} → Takes (d + n) w 0 (sign (closing_sign z)) ts (Ok x) → Follows d w p (k tt) x.1.now o → Follows d w p (part n w (Close z) k) ts o
shut t f = goes_on (by_rule _ (expr_rule exprs.closes) refl refl (take t is_done)) f

pub not_shut : {d n : ℕ} {w : Scene} {z : Closing} {ts : List Placed} {f : Fault} → Takes (d + n) w 0 (sign (closing_sign z)) ts (Err f) → Halts (λ why rest. (p : Part) (k : Value (Close z) → Process (Value p)) → Follows d w p (part n w (Close z) k) ts (Stop why rest)) f
not_shut t = halts (refuse t) (λ why rest g p k. stops (by_rule _ (expr_rule exprs.closes) refl refl (g _ _)))

pub step : {A V : Type 0} {goes : Outcome V → Type 0} {next : A → List Placed → Outcome V → Type 0} {x : A × Bor (List Placed)} → Steps goes next (Ok x) → (o : Outcome V) → next x.0 x.1.now o → goes o
step (stepped g) o h = g o h

pub stall : {A V : Type 0} {goes : Outcome V → Type 0} {next : A → List Placed → Outcome V → Type 0} {f : Fault} → Steps goes next (Err f) → Halts (λ why rest. goes (Stop why rest)) f
stall (stalled h) = h

-- a stop at these tokens
pub stopped : {B : Why → List Placed → Type 0} {f : Fault} {why : Why} {ts : List Placed} → IsStop why ts f → B why ts → Halts B f
stopped {B} {f} {why} {ts} h b = halts h (λ y r e. subst (λ v. B y v) (sym e.1) (subst (λ v. B v ts) (sym e.0) b))

pub by : {d : ℕ} {w : Scene} {p : Part} {q : Process (Value p)} {ts : List Placed} {o : Outcome (Value p)} (rule : Produces w p q) → part_construct w p ts ≡ None → choose w p ts ≡ Some (q, rule) → Follows d w p q ts o → Goes d w p ts o
by rule e f g = by_rule _ rule e f g

-- a part that counts as its production does
pub here : {d : ℕ} {w s : Scene} {p i : Part} {k : Value i → Process (Value p)} {a : Value i} {ts mid : List Placed} {o : Outcome (Value p)} → Goes d s i ts (Done a mid) → Follows d w p (k a) mid o → Follows d w p (part 0 s i k) ts o
here {d} {w} {s} {p} {i} {k} {a} {ts} {mid} g f = goes_on (subst (λ n. Goes n s i ts (Done a mid)) (sym (add-zero d)) g) f

pub stops_here : {d : ℕ} {w s : Scene} {p i : Part} {k : Value i → Process (Value p)} {ts rest : List Placed} {why : Why} → Goes d s i ts (Stop why rest) → Follows d w p (part 0 s i k) ts (Stop why rest)
stops_here {d} {w} {s} {p} {i} {k} {ts} {rest} {why} g = stops (subst (λ n. Goes n s i ts (Stop why rest)) (sym (add-zero d)) g)

-- what was read is this
pub done : {d : ℕ} {w : Scene} {p : Part} {v u : Value p} {ts : List Placed} → v ≡ u → Follows d w p (give u) ts (Done v ts)
done {d} {w} {p} {v} {u} {ts} e = subst (λ x. Follows d w p (give u) ts (Done x ts)) (sym e) is_done

-- a last part is the whole
pub last : {d : ℕ} {w s : Scene} {p : Part} {i : Part} {k : Value i → Process (Value p)} {a : Value i} {v : Value p} {ts mid : List Placed} → Goes d s i ts (Done a mid) → k a ≡ give v → Follows d w p (part 0 s i k) ts (Done v mid)
last {d} {w} {s} {p} {i} {k} {a} {v} {ts} {mid} g e = here g (subst (λ q. Follows d w p q mid (Done v mid)) (sym e) is_done)

pub if_true : {A : Type 0} {x : A} (y : A) {b : Bool} → b ≡ true → (if b then x else y) ≡ x
if_true {A} {x} y e = subst (λ v. (if v then x else y) ≡ x) (sym e) refl

pub if_false : {A : Type 0} (x : A) {y : A} {b : Bool} → b ≡ false → (if b then x else y) ≡ y
if_false {A} x {y} e = subst (λ v. (if v then x else y) ≡ y) (sym e) refl

-- a construct of the place is borne where its test holds
pub borne : {b : Bool} (c : Construct) → b ≡ true → where_true b c ≡ Some c
borne c e = subst (λ v. where_true v c ≡ Some c) (sym e) refl

pub unborne : {b : Bool} (c : Construct) → b ≡ false → where_true b c ≡ None
unborne c e = subst (λ v. where_true v c ≡ None) (sym e) refl

-- the outcome of a token, by what comes
pub refusal_at : (w : Scene) (d : ℕ) (t : Placed) {rest ts : List Placed} {b : Bool} {c : Option Construct} → ts ≡ t ∷ rest → b ≡ (is_bracket t.token && nat_lt nesting_limit (d + 1)) → c ≡ token_construct w t.token → why_token b c ≡ refusal w d ts
refusal_at w d t {rest} {ts} {b} {c} e f g =
    subst (λ v. why_token b c ≡ refusal w d v) (sym e) (ap (λ v. why_token v c) f ∙ ap (λ v. why_token (is_bracket t.token && nat_lt nesting_limit (d + 1)) v) g)

pub left_none : {d : ℕ} {w : Scene} {n : ℕ} {c : Class} {ts : List Placed} → ts ≡ [] → (p : Part) (k : Placed → Process (Value p)) → Follows d w p (token n c k) ts (Stop Syntax ts)
left_none {d} {w} {n} {c} {ts} e p k = subst (λ v. Follows d w p (token n c k) v (Stop Syntax v)) (sym e) (is_left tt)

pub left_some : {d : ℕ} {w : Scene} {n : ℕ} {c : Class} {t : Placed} {rest ts : List Placed} → ts ≡ t ∷ rest → (Fits w c t.token → ⊥) → (p : Part) (k : Placed → Process (Value p)) → Follows d w p (token n c k) ts (Stop (refusal w d ts) ts)
left_some {d} {w} {n} {c} {t} {rest} {ts} e h p k = is_left (subst (λ v. NotFits w c v) (sym e) h)

pub deep_at : {d : ℕ} {w : Scene} {n : ℕ} {c : Class} {t : Placed} {rest ts : List Placed} → ts ≡ t ∷ rest → Fits w c t.token → nesting_limit < d + n → (p : Part) (k : Placed → Process (Value p)) → Follows d w p (token n c k) ts (Stop TooDeep ts)
deep_at {d} {w} {n} {c} {t} {rest} {ts} e h l p k = subst (λ v. Follows d w p (token n c k) v (Stop TooDeep v)) (sym e) (is_deep h l)

pub borne_at : {d : ℕ} {w : Scene} {n : ℕ} {c : Class} {t : Placed} {b : Construct} {rest ts : List Placed} → ts ≡ t ∷ rest → Fits w c t.token → d + n ≤ nesting_limit → token_construct w t.token ≡ Some b → (p : Part) (k : Placed → Process (Value p)) → Follows d w p (token n c k) ts (Stop (Unsupported b) ts)
borne_at {d} {w} {n} {c} {t} {b} {rest} {ts} e h l g p k = subst (λ v. Follows d w p (token n c k) v (Stop (Unsupported b) v)) (sym e) (is_borne h l g)

pub taken_at : {d : ℕ} {w : Scene} {n : ℕ} {c : Class} {t : Placed} {rest ts : List Placed} → ts ≡ t ∷ rest → Fits w c t.token → d + n ≤ nesting_limit → token_construct w t.token ≡ None → (p : Part) (k : Placed → Process (Value p)) (o : Outcome (Value p)) → Follows d w p (k t) rest o → Follows d w p (token n c k) ts o
taken_at {d} {w} {n} {c} {t} {rest} {ts} e h l g p k o f = subst (λ v. Follows d w p (token n c k) v o) (sym e) (takes h l g f)

-- the sign that is asked for
pub sign_is : {d : ℕ} {w : Scene} {n : ℕ} {a b : Punctuator} {ts : List Placed} {r : Result (Bor Placed × Bor (List Placed)) Fault} → a ≡ b → Takes d w n (sign a) ts r → Takes d w n (sign b) ts r
sign_is {d} {w} {n} {a} {b} {ts} {r} e h = subst (λ v. Takes d w n (sign v) ts r) e h

pub keyword_is : {d : ℕ} {w : Scene} {n : ℕ} {a b : Keyword} {ts : List Placed} {r : Result (Bor Placed × Bor (List Placed)) Fault} → a ≡ b → Takes d w n (keyword a) ts r → Takes d w n (keyword b) ts r
keyword_is {d} {w} {n} {a} {b} {ts} {r} e h = subst (λ v. Takes d w n (keyword v) ts r) e h
