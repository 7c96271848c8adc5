-- A way through a production, token by token and part by part: where the descent has come in it, and what is left.
use Rattle.std.proofs.Common.{◌≡◌, ℕ, ◌+◌, List, sym, subst, Bor}
use Rattle.std.specs.Prelude.{Bool, true, Some, None, Result, Ok, Err}
use Rattle.std.specs.Result.{IsErrAnd}
use Rattle.c_syntax_written.specs.declared.construct.Construct.{Construct}
use Rattle.c_syntax_written.specs.declared.token.Placed.{Placed}
use Rattle.c_grammar.specs.declared.parts.Closing.{Closing}
use Rattle.c_grammar.specs.Parts.{Scene, Close, Part, Value}
use Rattle.c_grammar.specs.declared.class.Class.{Class}
use Rattle.c_grammar.specs.declared.class.Class.TheVariants.{Sign as sign}
use Rattle.c_grammar.specs.Classes.{closing_sign}
use Rattle.c_grammar.specs.Process.{Process, give, token, part, only}
use Rattle.c_grammar.specs.Grammar.{Produces}
use Rattle.c_grammar.specs.Refused.{part_construct}
use Rattle.c_grammar.specs.Choice.{choose}
use Rattle.c_grammar.specs.Descent.{Outcome, Done, Stop, barred, Goes, Follows, is_barred, by_rule, is_done, goes_on, stops, passes}
use Rattle.c_parser_steps.specs.declared.fault.Fault.{Fault}
use Rattle.c_parser_steps.specs.Answers.{IsStop, Halts, Gives, given, halted, Takes, taken, refused}
use Rattle.c_parser_steps.proofs.Steps.{passed_on, halt, halts, here, last, shut, stopped, stops_here}

-- Where the descent has come in a production of the part: what is left of it decides for all.
pub record Path (p : Part) (goes : Outcome (Value p) → Type 0) (d : ℕ) (w : Scene) (q : Process (Value p)) (ts : List Placed) : Type 0 where
  pub run : (o : Outcome (Value p)) → Follows d w p q ts o → goes o

pub begin : {p : Part} {goes : Outcome (Value p) → Type 0} {d : ℕ} {w : Scene} {ts : List Placed} {q : Process (Value p)} {rule : Produces w p q} → ((o : Outcome (Value p)) → Goes d w p ts o → goes o) → part_construct w p ts ≡ None → choose w p ts ≡ Some (q, rule) → Path p goes d w q ts
begin {q = q} {rule = rule} f n e = record { run = λ o g. f o (by_rule q rule n e g) }

-- the start of what is left
pub from_start : {p : Part} {d : ℕ} {w : Scene} (q : Process (Value p)) (ts : List Placed) → Path p (λ o. Follows d w p q ts o) d w q ts
from_start q ts = record { run = λ o g. g }

pub where_so : {p : Part} {goes : Outcome (Value p) → Type 0} {d : ℕ} {w : Scene} {test : List Placed → Bool} {q : Process (Value p)} {ts : List Placed} → Path p goes d w (only test q) ts → test ts ≡ true → Path p goes d w q ts
where_so path e = record { run = λ o g. path.run o (passes e g) }

-- the token was taken
pub after : {p : Part} {goes : Outcome (Value p) → Type 0} {d n : ℕ} {w : Scene} {c : Class} {k : Placed → Process (Value p)} {ts : List Placed} {x : Bor Placed × Bor (List Placed)} → Path p goes d w (token n c k) ts → Takes d w n c ts (Ok x) → Path p goes d w (k x.0.now) x.1.now
after {p} {k = k} path (taken t) = record { run = λ o g. path.run o (t p k o g) }

-- what closes a form was taken
pub shuts : {p : Part} {goes : Outcome (Value p) → Type 0} {d n : ℕ} {w : Scene} {z : Closing} {k : Value (Close z) → Process (Value p)} {ts : List Placed} {x : Bor Placed × Bor (List Placed)} → Path p goes d w (part n w (Close z) k) ts → Takes (d + n) w 0 (sign (closing_sign z)) ts (Ok x) → Path p goes d w (k tt) x.1.now
shuts path t = record { run = λ o g. path.run o (shut t g) }

-- the part was read, in which no form is unfinished
pub behind : {A : Type 0} {p i : Part} {goes : Outcome (Value p) → Type 0} {d : ℕ} {w s : Scene} {k : Value i → Process (Value p)} {view : A → Value i} {ts : List Placed} {x : A × Bor (List Placed)} → Path p goes d w (part 0 s i k) ts → Gives (λ o. Goes d s i ts o) view (Ok x) → Path p goes d w (k (view x.0)) x.1.now
behind path (given h) = record { run = λ o g. path.run o (here h g) }

-- the part was read, in which a form is unfinished
pub inside : {A : Type 0} {p i : Part} {goes : Outcome (Value p) → Type 0} {d : ℕ} {w s : Scene} {k : Value i → Process (Value p)} {view : A → Value i} {ts : List Placed} {x : A × Bor (List Placed)} → Path p goes d w (part 1 s i k) ts → Gives (λ o. Goes (d + 1) s i ts o) view (Ok x) → Path p goes d w (k (view x.0)) x.1.now
inside path (given h) = record { run = λ o g. path.run o (goes_on h g) }

-- what was read is the value
pub ends : {A : Type 0} {p : Part} {goes : Outcome (Value p) → Type 0} {d : ℕ} {w : Scene} {view : A → Value p} {v : Value p} {x : A × Bor (List Placed)} → Path p goes d w (give v) x.1.now → view x.0 ≡ v → Gives goes view (Ok x)
ends {goes = goes} {x = x} path e = given (subst (λ u. goes (Done u x.1.now)) (sym e) (path.run _ is_done))

pub goes_so : {p : Part} {goes : Outcome (Value p) → Type 0} {d : ℕ} {w : Scene} {q : Process (Value p)} {ts : List Placed} → Path p goes d w q ts → (o : Outcome (Value p)) → Follows d w p q ts o → goes o
goes_so path o g = path.run o g

-- the token was refused
pub halts_after : {p : Part} {goes : Outcome (Value p) → Type 0} {d n : ℕ} {w : Scene} {c : Class} {k : Placed → Process (Value p)} {ts : List Placed} {f : Fault} → Path p goes d w (token n c k) ts → Takes d w n c ts (Err f) → Halts (λ why rest. goes (Stop why rest)) f
halts_after {p = p} {k = k} path (refused h) = halts h (λ why rest g. path.run _ (g p k))

pub not_after : {A : Type 0} {p : Part} {goes : Outcome (Value p) → Type 0} {d n : ℕ} {w : Scene} {c : Class} {k : Placed → Process (Value p)} {ts : List Placed} {view : A → Value p} {f : Fault} {r : Result (A × Bor (List Placed)) Fault} → IsErrAnd r (λ e. e ≡ f) → Path p goes d w (token n c k) ts → Takes d w n c ts (Err f) → Gives goes view r
not_after e path h = passed_on (Gives _ _) e (halted (halts_after path h))

-- the part was not read
pub halts_behind : {B : Type 0} {p i : Part} {goes : Outcome (Value p) → Type 0} {d : ℕ} {w s : Scene} {k : Value i → Process (Value p)} {ts : List Placed} {of_part : B → Value i} {f : Fault} → Path p goes d w (part 0 s i k) ts → Gives (λ o. Goes d s i ts o) of_part (Err f) → Halts (λ why rest. goes (Stop why rest)) f
halts_behind path g = halts (halt g) (λ why rest h. path.run _ (stops_here h))

pub not_behind : {A B : Type 0} {p i : Part} {goes : Outcome (Value p) → Type 0} {d : ℕ} {w s : Scene} {k : Value i → Process (Value p)} {ts : List Placed} {of_part : B → Value i} {view : A → Value p} {f : Fault} {r : Result (A × Bor (List Placed)) Fault} → IsErrAnd r (λ e. e ≡ f) → Path p goes d w (part 0 s i k) ts → Gives (λ o. Goes d s i ts o) of_part (Err f) → Gives goes view r
not_behind e path g = passed_on (Gives _ _) e (halted (halts_behind path g))

pub halts_inside : {B : Type 0} {p i : Part} {goes : Outcome (Value p) → Type 0} {d : ℕ} {w s : Scene} {k : Value i → Process (Value p)} {ts : List Placed} {of_part : B → Value i} {f : Fault} → Path p goes d w (part 1 s i k) ts → Gives (λ o. Goes (d + 1) s i ts o) of_part (Err f) → Halts (λ why rest. goes (Stop why rest)) f
halts_inside path g = halts (halt g) (λ why rest h. path.run _ (stops h))

pub not_inside : {A B : Type 0} {p i : Part} {goes : Outcome (Value p) → Type 0} {d : ℕ} {w s : Scene} {k : Value i → Process (Value p)} {ts : List Placed} {of_part : B → Value i} {view : A → Value p} {f : Fault} {r : Result (A × Bor (List Placed)) Fault} → IsErrAnd r (λ e. e ≡ f) → Path p goes d w (part 1 s i k) ts → Gives (λ o. Goes (d + 1) s i ts o) of_part (Err f) → Gives goes view r
not_inside e path g = passed_on (Gives _ _) e (halted (halts_inside path g))

-- the part is refused where it bears a construct
pub barred_at : {A : Type 0} {d : ℕ} {w : Scene} {p : Part} {c : Construct} {ts : List Placed} {view : A → Value p} {f : Fault} → part_construct w p ts ≡ Some c → IsStop (barred p d c ts) ts f → Gives (λ o. Goes d w p ts o) view (Err f)
barred_at e h = halted (stopped h (is_barred e))

-- the part that is left is the whole
pub lasts : {A : Type 0} {p i : Part} {goes : Outcome (Value p) → Type 0} {d : ℕ} {w s : Scene} {k : Value i → Process (Value p)} {of_part : A → Value i} {view : A → Value p} {ts : List Placed} {r : Result (A × Bor (List Placed)) Fault} → Path p goes d w (part 0 s i k) ts → Gives (λ o. Goes d s i ts o) of_part r → ((a : A) → k (of_part a) ≡ give (view a)) → Gives goes view r
lasts path (given h) e = given (path.run _ (last h (e _)))
lasts {of_part = of_part} path (halted g) e = halted (halts_behind {of_part = of_part} path (halted g))
