use Rattle.std.specs.Prelude.{◌≡◌, All, Some, slice_get}
use Rattle.std.proofs.Common.{List, [], ◌∷◌, ◌⊎◌, vec_len}
use Rattle.c_syntax.specs.declared.alarm.Alarm.{Alarm}
use Rattle.walk_owes.specs.Owes.{IsMoved}
use Rattle.c_syntax_written.specs.declared.place.Pos.{Pos}
use Rattle.c_syntax.specs.declared.alarm.WrongKind.{WrongKind}
use Rattle.c_syntax.specs.Operand.{Operand}
use Rattle.c_values.specs.Places.{ObjectMemory}
use Rattle.csharp.specs.Trees.{Call, CsCallTree, CsFunctionTree, CsProgramTree, CsStmtTree}
use Rattle.alarm_claims.specs.Analyzed.{Listed}
use Rattle.alarm_claims.specs.Admitted.{Gains, IsAdmittedIn}
use Rattle.walk_alarms.proofs.alarms.prefix.Given as goal

abbrev pub invariant-loop-alarm : goal.invariant-loop-alarm
invariant-loop-alarm l = record {
  old : (q : CsProgramTree) (c : List Pos) (place : Pos) (k : WrongKind) (x : Operand) (m : ObjectMemory) → Listed q l.fn.out.items c place k x m
      → Listed q l.out.items c place k x m;
  new : (q : CsProgramTree) (c : List Pos) (place : Pos) (k : WrongKind) (x : Operand) (m : ObjectMemory) → Listed q l.fn.inner.items c place k x m
      → Listed q l.inner.items c place k x m ⊎ Listed q l.out.items (l.at ∷ c) place k x m;
  inner_only : (q : CsProgramTree) (a : CsStmtTree) → All (IsAdmittedIn q a) l.fn.inner.items → All (IsAdmittedIn q a) l.inner.items;
  gains : (q : CsProgramTree) (c : CsCallTree) (f : CsFunctionTree) → c.pos ≡ l.at → slice_get q.functions c.function ≡ Some f
      → All (IsAdmittedIn q f.body) l.fn.inner.items → Gains q (Call c) l.fn.out.items l.out.items;
  none : l.fn.inner.items ≡ [] → (l.inner.items ≡ []) × (l.out.items ≡ l.fn.out.items);
  one : (x : Alarm) → l.fn.inner.items ≡ x ∷ [] → l.fn.out.items ≡ []
      → ((l.inner.items ≡ x ∷ []) × (l.out.items ≡ [])) ⊎ ((l.inner.items ≡ []) × (y : Alarm) × (l.out.items ≡ y ∷ []) × IsMoved l.at x y);
}

abbrev pub decreases-loop-alarm : goal.decreases-loop-alarm
decreases-loop-alarm l = vec_len l.inner
