-- Items of a scope without labels.
use Rattle.std.proofs.Common.{◌≡◌, ℕ, List, [], Option, Some, None, Bool, true, false, inl}
use Rattle.c_syntax_written.specs.declared.place.Pos.{Pos}
use Rattle.c_syntax.specs.declared.alarm.Alarm.{Alarm}
use Rattle.c_syntax.specs.declared.alarm.WrongKind.{WrongKind}
use Rattle.c_syntax.specs.Operand.{Operand}
use Rattle.c_values.specs.Places.{ObjectMemory}
use Rattle.csharp.specs.Trees.{CsStmtTrees, CsProgramTree}
use Rattle.csharp.specs.States.{State}
use Rattle.csharp.specs.Meaning as meaning
use Rattle.csharp.specs.Meaning.{AtLabel, has, items, later_by, caught}
use Rattle.walk_owes.specs.declared.marks.Head.{Head}
use Rattle.walk_owes.specs.declared.way.Target.{Target}
use Rattle.walk_owes.specs.declared.way.Kept.{Kept}
use Rattle.alarm_claims.specs.Analyzed.{Listed}
use Rattle.walk_owes.specs.Items.{Begins, CoveredAll, SoundItems}
use Rattle.walk_owes.proofs.Steps.{covered_on}
use Rattle.walk_owes.proofs.Scopes.{closed_pass}

both : {b : Bool} → b ≡ false → b ≡ true → ⊥
both e f = absurd (cc)

some_none : {A : Type 0} (a : A) → Some a ≡ None → ⊥
some_none a e = absurd (cc)

module _ {M : Type 0} (stands : M → State → Type 0) (q : CsProgramTree) (to : Target) where
  begins_none : (all : CsStmtTrees) (heads : List (Head M)) (entered : M) (from : Option meaning.Mark) (s : State) → (from ≡ None) × stands entered s
      → Begins stands all heads (Some entered) from s
  begins_none all heads entered None s h = h.1
  begins_none all heads entered (Some m) s h = absurd (some_none m h.0)

  -- what a scope enters goes through its items, and their alarms are listed
  pub scope_items : (all : CsStmtTrees) (heads : List (Head M)) (entered : M) (mid : Option M) (inner : List (Kept M)) (found out : List Alarm)
      → CoveredAll stands q to all (Begins stands all heads (Some entered)) mid inner found
      → ((c : List Pos) (at : Pos) (k : WrongKind) (x : Operand) (m : ObjectMemory) → Listed q found c at k x m → Listed q out c at k x m)
      → CoveredAll stands q to all (λ from s. (from ≡ None) × stands entered s) mid inner out
  scope_items all heads entered mid inner found out x l over n from s h =
      covered_on stands q to mid inner inner found out (record { keeps = λ w t i. i; lists = l }) (caught (later_by over q n) all (items over q (later_by over q n) from all s))
      (x over n from s (begins_none all heads entered from s h))

  -- one pass is enough where no label stands among the items
  pub plain_pass : (all : CsStmtTrees) (heads : List (Head M)) (flow after : Option M) (gone kept : List (Kept M)) (out : List Alarm)
      → ((l : ℕ) → has (AtLabel l) all ≡ false) → SoundItems stands q to all heads flow [] after gone kept out
      → CoveredAll stands q to all (Begins stands all heads flow) after kept out
  plain_pass all heads flow after gone kept out f x =
      closed_pass stands q to all heads flow after gone kept kept out x (λ l s e k. absurd (both (f l) e)) (λ w s k. inl k)
