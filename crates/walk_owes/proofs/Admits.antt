-- What a walk gains, part by part: alarms that a part admits are admitted by the whole.
use Rattle.std.proofs.Common.{◌≡◌, ◌⊎◌, ⊎_elim, inl, inr, List, [], ◌∷◌, ◌++◌, ◌∙◌, Some, refl}
use Rattle.std.specs.Prelude.{All, Contains, IsSomeAnd, slice_get}
use Rattle.std.proofs.lemmas.List.Elements.{All-append, All-contains, All-contains_itself, All-push, All-weaker}
use Rattle.c_syntax_written.specs.declared.place.Pos.{Pos}
use Rattle.c_syntax.specs.declared.alarm.Alarm.{Alarm}
use Rattle.csharp.specs.Trees.{CsCallTree, CsExprTree, CsFunctionTree, CsStmtTree, CsStmtTrees, more, CsProgramTree, Sequence, If, Loop, Block, Scope, Switch}
use Rattle.csharp.specs.Trees.{Call}
use Rattle.alarm_claims.specs.Admitted.{Gains, Holds, IsAdmittedIn, IsCallAt, IsCheckAt, LeadsTo, SomeAmong, SomeIn}
use Rattle.walk_owes.specs.Owes.{IsMoved}
use Rattle.alarm_claims.proofs.Wider.{gains_are_admitted, holding_alarms_are_admitted}

-- ---- alarms that hold others

pub holds_same : (q : CsProgramTree) (x : Alarm) → Holds q x x
holds_same q x = record {
  chain = refl;
  place = refl;
  kind = refl;
  check = refl;
  example = refl;
  shows = λ o h. h;
  form = λ k es h. h;
  proper = λ h. h;
  names = λ h. h;
  facts = All-contains_itself x.facts;
}

pub holds_both : (q : CsProgramTree) (x y z : Alarm) → Holds q x y → Holds q y z → Holds q x z
holds_both q x y z g h = record {
  chain = h.chain ∙ g.chain;
  place = h.place ∙ g.place;
  kind = h.kind ∙ g.kind;
  check = h.check ∙ g.check;
  example = h.example ∙ g.example;
  shows = λ o i. h.shows o (g.shows o i);
  form = λ k es i. h.form k es (g.form k es i);
  proper = λ i. h.proper (g.proper i);
  names = λ i. h.names (g.names i);
  facts = All-weaker (Contains y.facts) (Contains x.facts) (λ f c. All-contains (Contains x.facts) y.facts f g.facts c) z.facts h.facts;
}

-- ---- lists that gain

-- where an alarm of a list comes from
abbrev pub ComesFrom : CsProgramTree → CsStmtTree → List Alarm → Alarm → Type 0
ComesFrom q a out y = ((x : Alarm) × Contains out x × Holds q x y) ⊎ IsAdmittedIn q a y

pub gains_none : (q : CsProgramTree) (a : CsStmtTree) (out : List Alarm) → Gains q a out out
gains_none q a out = All-weaker (Contains out) (ComesFrom q a out) (λ y c. inl (y, c, holds_same q y)) out (All-contains_itself out)

pub gains_both : (q : CsProgramTree) (a : CsStmtTree) (o o1 o2 : List Alarm) → Gains q a o o1 → Gains q a o1 o2 → Gains q a o o2
gains_both q a o o1 o2 g h =
    All-weaker (ComesFrom q a o1) (ComesFrom q a o)
    (λ z i. ⊎_elim
    (λ l. ⊎_elim (λ k. inl (k.0, k.1, holds_both q k.0 l.0 z k.2 l.2)) (λ d. inr (holding_alarms_are_admitted q a l.0 z l.2 d))
    (All-contains (ComesFrom q a o) o1 l.0 g l.1))
    (λ d. inr d) i)
    o2 h

pub gains_into : (q : CsProgramTree) (a b : CsStmtTree) (out later : List Alarm) → ((x : Alarm) → IsAdmittedIn q a x → IsAdmittedIn q b x)
    → Gains q a out later → Gains q b out later
gains_into q a b out later f g =
    All-weaker (ComesFrom q a out) (ComesFrom q b out) (λ y i. ⊎_elim (λ l. inl l) (λ d. inr (f y d)) i) later g

-- ---- parts

abbrev Within : CsStmtTree → CsStmtTree → Type 1
Within a b = (P : CsStmtTree → Type 0) → SomeIn P a → SomeIn P b

leads_into : (q : CsProgramTree) (a b : CsStmtTree) → Within a b → (P : CsStmtTree → Type 0) (calls : List Pos) → LeadsTo q calls P a → LeadsTo q calls P b
leads_into q a b f P [] h = f P h
leads_into q a b f P (place ∷ calls) h = f (IsCallAt place (λ c. IsSomeAnd (slice_get q.functions c.function) (λ g. LeadsTo q calls P g.body))) h

admitted_into : (q : CsProgramTree) (a b : CsStmtTree) → Within a b → (x : Alarm) → IsAdmittedIn q a x → IsAdmittedIn q b x
admitted_into q a b f x d = record {
  check = leads_into q a b f (IsCheckAt x.pos x.check x.shown) x.chain d.check;
  kind = d.kind;
  example_shown = d.example_shown;
  example_fails = d.example_fails;
  proper = d.proper;
  names = d.names;
  facts = d.facts;
}

pub first_admits : (q : CsProgramTree) (a b : CsStmtTree) (x : Alarm) → IsAdmittedIn q a x → IsAdmittedIn q (Sequence a b) x
first_admits q a b = admitted_into q a (Sequence a b) (λ P h. inr (inl h))

pub second_admits : (q : CsProgramTree) (a b : CsStmtTree) (x : Alarm) → IsAdmittedIn q b x → IsAdmittedIn q (Sequence a b) x
second_admits q a b = admitted_into q b (Sequence a b) (λ P h. inr (inr h))

pub then_admits : (q : CsProgramTree) (e : CsExprTree) (a b : CsStmtTree) (x : Alarm) → IsAdmittedIn q a x → IsAdmittedIn q (If e a b) x
then_admits q e a b = admitted_into q a (If e a b) (λ P h. inr (inl h))

pub else_admits : (q : CsProgramTree) (e : CsExprTree) (a b : CsStmtTree) (x : Alarm) → IsAdmittedIn q b x → IsAdmittedIn q (If e a b) x
else_admits q e a b = admitted_into q b (If e a b) (λ P h. inr (inr h))

pub loop_admits : (q : CsProgramTree) (at : Pos) (a : CsStmtTree) (x : Alarm) → IsAdmittedIn q a x → IsAdmittedIn q (Loop at a) x
loop_admits q at a = admitted_into q a (Loop at a) (λ P h. inr h)

pub block_admits : (q : CsProgramTree) (a : CsStmtTree) (x : Alarm) → IsAdmittedIn q a x → IsAdmittedIn q (Block a) x
block_admits q a = admitted_into q a (Block a) (λ P h. inr h)

-- ---- items

-- items alone, as a scope without objects
abbrev pub only : CsStmtTrees → CsStmtTree
only items = Scope [] items

pub item_admits : (q : CsProgramTree) (item : CsStmtTree) (rest : CsStmtTrees) (x : Alarm) → IsAdmittedIn q item x → IsAdmittedIn q (only (more item rest)) x
item_admits q item rest = admitted_into q item (only (more item rest)) (λ P h. inr (inl h))

leads_among : (q : CsProgramTree) (items : CsStmtTrees) (b : CsStmtTree) → ((P : CsStmtTree → Type 0) → SomeAmong P items → SomeIn P b) → (x : Alarm) (calls : List Pos)
    → LeadsTo q calls (IsCheckAt x.pos x.check x.shown) (only items) → LeadsTo q calls (IsCheckAt x.pos x.check x.shown) b
leads_among q items b f x [] h = ⊎_elim (λ e. absurd e) (λ r. f (IsCheckAt x.pos x.check x.shown) r) h
leads_among q items b f x (place ∷ calls) h =
    ⊎_elim (λ e. absurd e) (λ r. f (IsCallAt place (λ c. IsSomeAnd (slice_get q.functions c.function) (λ g. LeadsTo q calls (IsCheckAt x.pos x.check x.shown) g.body))) r) h

only_into : (q : CsProgramTree) (items : CsStmtTrees) (b : CsStmtTree) → ((P : CsStmtTree → Type 0) → SomeAmong P items → SomeIn P b) → (x : Alarm)
    → IsAdmittedIn q (only items) x → IsAdmittedIn q b x
only_into q items b f x d = record {
  check = leads_among q items b f x x.chain d.check;
  kind = d.kind;
  example_shown = d.example_shown;
  example_fails = d.example_fails;
  proper = d.proper;
  names = d.names;
  facts = d.facts;
}

pub rest_admits : (q : CsProgramTree) (item : CsStmtTree) (rest : CsStmtTrees) (x : Alarm) → IsAdmittedIn q (only rest) x → IsAdmittedIn q (only (more item rest)) x
rest_admits q item rest = only_into q rest (only (more item rest)) (λ P h. inr (inr h))

pub scope_admits : (q : CsProgramTree) (xs : List _) (items : CsStmtTrees) (x : Alarm) → IsAdmittedIn q (only items) x → IsAdmittedIn q (Scope xs items) x
scope_admits q xs items = only_into q items (Scope xs items) (λ P h. inr h)

pub switch_admits : (q : CsProgramTree) (e : CsExprTree) (xs : List _) (items : CsStmtTrees) (x : Alarm) → IsAdmittedIn q (only items) x → IsAdmittedIn q (Switch e xs items) x
switch_admits q e xs items = only_into q items (Switch e xs items) (λ P h. inr h)

-- ---- calls

pub call_admits : (q : CsProgramTree) (c : CsCallTree) (f : CsFunctionTree) (x y : Alarm) → slice_get q.functions c.function ≡ Some f → IsMoved c.pos x y
    → IsAdmittedIn q f.body x → IsAdmittedIn q (Call c) y
call_admits q c f x y there h d = record {
  check = rw (h.chain, h.place, h.check, h.shown) (refl, rw there d.check);
  kind = rw (h.check, h.kind) d.kind;
  example_shown = rw (h.example, h.shown) d.example_shown;
  example_fails = rw (h.example, h.check) d.example_fails;
  proper = rw h.shown d.proper;
  names = rw h.shown d.names;
  facts = rw h.facts d.facts;
}

-- what a walk gained from nothing is admitted
pub gained : (q : CsProgramTree) (a : CsStmtTree) (out : List Alarm) → Gains q a [] out → All (IsAdmittedIn q a) out
gained = gains_are_admitted

pub all_into : (q : CsProgramTree) (a b : CsStmtTree) (out : List Alarm) → ((x : Alarm) → IsAdmittedIn q a x → IsAdmittedIn q b x) → All (IsAdmittedIn q a) out
    → All (IsAdmittedIn q b) out
all_into q a b out f h = All-weaker (IsAdmittedIn q a) (IsAdmittedIn q b) f out h

pub gains_push : (q : CsProgramTree) (a : CsStmtTree) (out : List Alarm) (x : Alarm) → IsAdmittedIn q a x → Gains q a out (out ++ x ∷ [])
gains_push q a out x d = All-push (ComesFrom q a out) out x (gains_none q a out) (inr d)

pub gains_more : (q : CsProgramTree) (a : CsStmtTree) (out later : List Alarm) (x : Alarm) → Gains q a out later → IsAdmittedIn q a x → Gains q a out (later ++ x ∷ [])
gains_more q a out later x g d = All-push (ComesFrom q a out) later x g (inr d)

pub gains_append : (q : CsProgramTree) (a : CsStmtTree) (out found : List Alarm) → All (IsAdmittedIn q a) found → Gains q a out (out ++ found)
gains_append q a out found d =
    All-append (ComesFrom q a out) out found (gains_none q a out) (All-weaker (IsAdmittedIn q a) (ComesFrom q a out) (λ x i. inr i) found d)
