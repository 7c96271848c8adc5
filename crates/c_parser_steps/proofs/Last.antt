-- A part that stands last in a production, and is the whole of it.
use Rattle.std.proofs.Common.{refl, subst, ℕ, List, ◌≡◌, ◌+◌}
use Rattle.c_syntax_written.specs.declared.token.Placed.{Placed}
use Rattle.c_grammar.specs.Parts.{Scene, Part, Value}
use Rattle.c_grammar.specs.Process.{give, part}
use Rattle.c_grammar.specs.Refused.{Why}
use Rattle.c_grammar.specs.Descent.{Outcome, Done, Stop, Goes, Follows, goes_on, stops, is_done}
use Rattle.c_parser_steps.proofs.Steps.{here, stops_here}

-- What is read as the one is read as the other.
pub record Same (A B : Type 0) : Type 0 where
  pub value : A → B
  pub outcome : Outcome A → Outcome B
  pub done : (v : A) (ts : List Placed) → Done (value v) ts ≡ outcome (Done v ts)
  pub stop : (why : Why) (ts : List Placed) → Stop why ts ≡ outcome (Stop why ts)

abbrev pub same : {A : Type 0} → Same A A
same = record { value = λ v. v; outcome = λ o. o; done = λ v ts. refl; stop = λ why ts. refl }

-- a last part in which no form is unfinished
pub last_part : {d : ℕ} {w s : Scene} {p i : Part} {ts : List Placed} (e : Same (Value i) (Value p)) (o : Outcome (Value i)) → Goes d s i ts o → Follows d w p (part 0 s i (λ v. give (e.value v))) ts (e.outcome o)
last_part {d} {w} {s} {p} {i} {ts} e (Done v mid) g = subst (λ o. Follows d w p (part 0 s i (λ v. give (e.value v))) ts o) (e.done v mid) (here g is_done)
last_part {d} {w} {s} {p} {i} {ts} e (Stop why rest) g = subst (λ o. Follows d w p (part 0 s i (λ v. give (e.value v))) ts o) (e.stop why rest) (stops_here g)

-- a last part in which a form is unfinished
pub last_inside : {d : ℕ} {w s : Scene} {p i : Part} {ts : List Placed} (e : Same (Value i) (Value p)) (o : Outcome (Value i)) → Goes (d + 1) s i ts o → Follows d w p (part 1 s i (λ v. give (e.value v))) ts (e.outcome o)
last_inside {d} {w} {s} {p} {i} {ts} e (Done v mid) g = subst (λ o. Follows d w p (part 1 s i (λ v. give (e.value v))) ts o) (e.done v mid) (goes_on g is_done)
last_inside {d} {w} {s} {p} {i} {ts} e (Stop why rest) g = subst (λ o. Follows d w p (part 1 s i (λ v. give (e.value v))) ts o) (e.stop why rest) (stops g)
