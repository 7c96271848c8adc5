-- Which alarms a statement admits: their check stands in it, or in what its calls lead to.
use Rattle.std.specs.Prelude.{◌≡◌, ◌⊎◌, List, [], ◌∷◌, length, All, Contains, IsSomeAnd, slice_get}
use Rattle.c_syntax_written.specs.declared.place.Pos.{Pos}
use Rattle.c_syntax.specs.declared.alarm.Alarm.{Alarm}
use Rattle.c_syntax.specs.declared.alarm.Check.{Check}
use Rattle.c_syntax.specs.declared.alarm.Shown.{Shown}
use Rattle.c_syntax.specs.declared.alarm.WrongKind.{WrongKind}
use Rattle.c_syntax.specs.Operand.{Operand, operand_of}
use Rattle.c_syntax.specs.Admission.{IsInShown, IsProper, Fails}
use Rattle.csharp.specs.Trees.{CsCallTree, CsExprTree, CsStmtTree, CsStmtTrees, none, more, CsProgramTree, Checked, Sequence, If, Loop, Block}
use Rattle.csharp.specs.Trees.{Scope, Switch, Call}
use Rattle.mem_shown.specs.Decisions.{NamesObjects}
use Rattle.mem_api.specs.FactsOf.{NamesFactObjects}
use Rattle.mem_api.specs.Showing.{HasForm}

-- a statement in a statement is so
abbrev mutual
  pub SomeIn : (CsStmtTree → Type 0) → CsStmtTree → Type 0
  SomeIn P (Sequence a b) = P (Sequence a b) ⊎ SomeIn P a ⊎ SomeIn P b
  SomeIn P (If e a b) = P (If e a b) ⊎ SomeIn P a ⊎ SomeIn P b
  SomeIn P (Loop at a) = P (Loop at a) ⊎ SomeIn P a
  SomeIn P (Block a) = P (Block a) ⊎ SomeIn P a
  SomeIn P (Scope xs items) = P (Scope xs items) ⊎ SomeAmong P items
  SomeIn P (Switch e xs items) = P (Switch e xs items) ⊎ SomeAmong P items
  SomeIn P a = P a

  pub SomeAmong : (CsStmtTree → Type 0) → CsStmtTrees → Type 0
  SomeAmong P none = ⊥
  SomeAmong P (more item rest) = SomeIn P item ⊎ SomeAmong P rest

abbrev pub IsCallAt : Pos → (CsCallTree → Type 0) → CsStmtTree → Type 0
IsCallAt at P (Call c) = (c.pos ≡ at) × P c
IsCallAt at P a = ⊥

-- calls at these places lead from a statement to one that is so
abbrev pub LeadsTo : CsProgramTree → List Pos → (CsStmtTree → Type 0) → CsStmtTree → Type 0
LeadsTo q [] P a = SomeIn P a
LeadsTo q (place ∷ calls) P a = SomeIn (IsCallAt place (λ c. IsSomeAnd (slice_get q.functions c.function) (λ f. LeadsTo q calls P f.body))) a

-- this check, which looks at operands of the form that is shown
abbrev pub IsCheckAt : Pos → Check → Shown → CsStmtTree → Type 0
IsCheckAt at check shown (Checked c) = (c.pos ≡ at) × (c.check ≡ check) × HasForm c.check.kind c.operands shown
IsCheckAt at check shown a = ⊥

-- the alarm's check stands there, its example is shown and fails it, and what it shows and tells is proper
pub record IsAdmittedIn (q : CsProgramTree) (a : CsStmtTree) (x : Alarm) : Type 0 where
  pub check : LeadsTo q x.chain (IsCheckAt x.pos x.check x.shown) a
  pub kind : x.check.kind ≡ x.kind
  pub example_shown : IsInShown q.objects (operand_of x.example) x.shown
  pub example_fails : Fails q.objects x.check (operand_of x.example)
  pub proper : IsProper x.shown
  pub names : NamesObjects (length q.objects) x.shown
  pub facts : All (NamesFactObjects (length q.objects)) x.facts

-- one alarm holds another: it is of the same check, with the same example, and shows all that the other shows, in the same form; of facts it tells no more
pub record Holds (q : CsProgramTree) (x y : Alarm) : Type 0 where
  pub chain : y.chain ≡ x.chain
  pub place : y.pos ≡ x.pos
  pub kind : y.kind ≡ x.kind
  pub check : y.check ≡ x.check
  pub example : y.example ≡ x.example
  pub shows : (o : Operand) → IsInShown q.objects o x.shown → IsInShown q.objects o y.shown
  pub form : (k : WrongKind) (es : List CsExprTree) → HasForm k es x.shown → HasForm k es y.shown
  pub proper : IsProper x.shown → IsProper y.shown
  pub names : NamesObjects (length q.objects) x.shown → NamesObjects (length q.objects) y.shown
  pub facts : All (Contains x.facts) y.facts

-- each alarm that the list has then holds one that it had, or is admitted
abbrev pub Gains : CsProgramTree → CsStmtTree → List Alarm → List Alarm → Type 0
Gains q a out later = All (λ y. ((x : Alarm) × Contains out x × Holds q x y) ⊎ IsAdmittedIn q a y) later
