-- What is so of a statement in a statement, and what calls lead to.
use Rattle.std.proofs.Common.{⊎_elim, inl, inr, List, [], ◌∷◌, Option, Some, None}
use Rattle.std.specs.Prelude.{IsSomeAnd, slice_get}
use Rattle.c_syntax_written.specs.declared.place.Pos.{Pos}
use Rattle.csharp.specs.Trees.{CsCallTree, CsFunctionTree, CsStmtTree, CsStmtTrees, none, more, CsProgramTree, Nothing, Set, Load, Store, CopyBytes, Undefine}
use Rattle.csharp.specs.Trees.{Checked, Input, Assume, Sequence, If, Loop, Block, Exit, Scope, Switch, Goto, Call, Return, Label, Case, Default}
use Rattle.alarm_claims.specs.Admitted.{IsCallAt, LeadsTo, SomeAmong, SomeIn}

-- what is so of more is so of some
mutual
  pub some_on : (P Q : CsStmtTree → Type 0) → ((b : CsStmtTree) → P b → Q b) → (a : CsStmtTree) → SomeIn P a → SomeIn Q a
  some_on P Q f (Sequence a b) h = ⊎_elim (λ x. inl (f (Sequence a b) x)) (λ x. inr (⊎_elim (λ y. inl (some_on P Q f a y)) (λ y. inr (some_on P Q f b y)) x)) h
  some_on P Q f (If e a b) h = ⊎_elim (λ x. inl (f (If e a b) x)) (λ x. inr (⊎_elim (λ y. inl (some_on P Q f a y)) (λ y. inr (some_on P Q f b y)) x)) h
  some_on P Q f (Loop at a) h = ⊎_elim (λ x. inl (f (Loop at a) x)) (λ x. inr (some_on P Q f a x)) h
  some_on P Q f (Block a) h = ⊎_elim (λ x. inl (f (Block a) x)) (λ x. inr (some_on P Q f a x)) h
  some_on P Q f (Scope xs items) h = ⊎_elim (λ x. inl (f (Scope xs items) x)) (λ x. inr (among_on P Q f items x)) h
  some_on P Q f (Switch e xs items) h = ⊎_elim (λ x. inl (f (Switch e xs items) x)) (λ x. inr (among_on P Q f items x)) h
  some_on P Q f Nothing h = f Nothing h
  some_on P Q f (Set k e) h = f (Set k e) h
  some_on P Q f (Load k ty e) h = f (Load k ty e) h
  some_on P Q f (Store ty d e) h = f (Store ty d e) h
  some_on P Q f (CopyBytes n d e) h = f (CopyBytes n d e) h
  some_on P Q f (Undefine k) h = f (Undefine k) h
  some_on P Q f (Checked c) h = f (Checked c) h
  some_on P Q f (Input k t) h = f (Input k t) h
  some_on P Q f (Assume e) h = f (Assume e) h
  some_on P Q f (Exit k) h = f (Exit k) h
  some_on P Q f (Goto l) h = f (Goto l) h
  some_on P Q f (Call c) h = f (Call c) h
  some_on P Q f (Return e) h = f (Return e) h
  some_on P Q f (Label at l) h = f (Label at l) h
  some_on P Q f (Case n) h = f (Case n) h
  some_on P Q f Default h = f Default h

  pub among_on : (P Q : CsStmtTree → Type 0) → ((b : CsStmtTree) → P b → Q b) → (items : CsStmtTrees) → SomeAmong P items → SomeAmong Q items
  among_on P Q f none h = h
  among_on P Q f (more item rest) h = ⊎_elim (λ x. inl (some_on P Q f item x)) (λ x. inr (among_on P Q f rest x)) h

call_on : (at : Pos) (P Q : CsCallTree → Type 0) → ((c : CsCallTree) → P c → Q c) → (b : CsStmtTree) → IsCallAt at P b → IsCallAt at Q b
call_on at P Q f (Call c) h = (h.0, f c h.1)
call_on at P Q f Nothing h = h
call_on at P Q f (Set k e) h = h
call_on at P Q f (Load k ty e) h = h
call_on at P Q f (Store ty d e) h = h
call_on at P Q f (CopyBytes n d e) h = h
call_on at P Q f (Undefine k) h = h
call_on at P Q f (Checked c) h = h
call_on at P Q f (Input k t) h = h
call_on at P Q f (Assume e) h = h
call_on at P Q f (Sequence a b) h = h
call_on at P Q f (If e a b) h = h
call_on at P Q f (Loop here a) h = h
call_on at P Q f (Block a) h = h
call_on at P Q f (Exit k) h = h
call_on at P Q f (Scope xs items) h = h
call_on at P Q f (Switch e xs items) h = h
call_on at P Q f (Goto l) h = h
call_on at P Q f (Return e) h = h
call_on at P Q f (Label here l) h = h
call_on at P Q f (Case n) h = h
call_on at P Q f Default h = h

there_on : (o : Option CsFunctionTree) (P Q : CsFunctionTree → Type 0) → ((g : CsFunctionTree) → P g → Q g) → IsSomeAnd o P → IsSomeAnd o Q
there_on None P Q f h = h
there_on (Some g) P Q f h = f g h

pub leads_on : (q : CsProgramTree) (P Q : CsStmtTree → Type 0) → ((b : CsStmtTree) → P b → Q b) → (calls : List Pos) (a : CsStmtTree)
    → LeadsTo q calls P a → LeadsTo q calls Q a
leads_on q P Q f [] a h = some_on P Q f a h
leads_on q P Q f (place ∷ calls) a h =
    some_on (IsCallAt place (λ c. IsSomeAnd (slice_get q.functions c.function) (λ g. LeadsTo q calls P g.body)))
    (IsCallAt place (λ c. IsSomeAnd (slice_get q.functions c.function) (λ g. LeadsTo q calls Q g.body)))
    (call_on place (λ c. IsSomeAnd (slice_get q.functions c.function) (λ g. LeadsTo q calls P g.body))
    (λ c. IsSomeAnd (slice_get q.functions c.function) (λ g. LeadsTo q calls Q g.body))
    (λ c. there_on (slice_get q.functions c.function) (λ g. LeadsTo q calls P g.body) (λ g. LeadsTo q calls Q g.body)
    (λ g. leads_on q P Q f calls g.body))) a h
