-- Wider alarms, field by field.
use Rattle.std.proofs.Common.{◌≡◌, List, [], ◌∙◌, sym, subst, ◌⊎◌, ⊎_elim, arith}
use Rattle.std.specs.Prelude.{All, Contains, length}
use Rattle.std.proofs.lemmas.List.Elements.{All-weaker, All-contains}
use Rattle.c_syntax_written.specs.declared.place.Pos.{Pos}
use Rattle.c_syntax.specs.declared.alarm.Alarm.{Alarm}
use Rattle.c_syntax.specs.declared.alarm.Check.{Check}
use Rattle.c_syntax.specs.declared.alarm.Shown.{Shown}
use Rattle.c_syntax.specs.declared.alarm.WrongKind.{WrongKind}
use Rattle.c_syntax.specs.declared.alarm.Fact.{Fact}
use Rattle.c_syntax.specs.Operand.{operand_of}
use Rattle.c_syntax.specs.Admission.{IsInShown, Fails}
use Rattle.c_objects.specs.FactsIn.{HoldsIn}
use Rattle.mem_api.specs.FactsOf.{NamesFactObjects}
use Rattle.mem_api.specs.Showing.{HasForm}
use Rattle.csharp.specs.Trees.{CsExprTree, CsStmtTree, CsProgramTree, Nothing, Set, Load, Store, CopyBytes, Undefine, Checked, Input, Assume, Sequence, If, Loop, Block}
use Rattle.csharp.specs.Trees.{Exit, Scope, Switch, Goto, Call, Return, Label, Case, Default}
use Rattle.alarm_claims.specs.Admitted.{IsAdmittedIn, IsCheckAt, Holds, LeadsTo}
use Rattle.alarm_claims.proofs.Parts.{leads_on}
use Rattle.alarm_claims.specs.Wider.{ServingAlarmsTell, HoldingAlarmsAreAdmitted, GainsAreAdmitted}

-- what holds of each fact holds of each of fewer
fewer : (P : Fact → Type 0) (xs ys : List Fact) → All (Contains xs) ys → All P xs → All P ys
fewer P xs ys h p = All-weaker (Contains xs) P (λ f c. All-contains P xs f p c) ys h

pub serving_alarms_tell : ServingAlarmsTell
serving_alarms_tell q x y h c at k o m t = record {
  chain = h.chain ∙ t.chain;
  place = h.place ∙ t.place;
  kind = h.kind ∙ t.kind;
  shown = h.shows o t.shown;
  facts = fewer (HoldsIn q.structs q.objects m) x.facts y.facts h.facts t.facts;
}

-- a check of one form is one of a wider form
form_on : (at : Pos) (check : Check) (v w : Shown) → ((k : WrongKind) (es : List CsExprTree) → HasForm k es v → HasForm k es w) → (b : CsStmtTree)
    → IsCheckAt at check v b → IsCheckAt at check w b
form_on at check v w g (Checked c) d = (d.0, d.1, g c.check.kind c.operands d.2)
form_on at check v w g Nothing d = absurd d
form_on at check v w g (Set k e) d = absurd d
form_on at check v w g (Load k ty e) d = absurd d
form_on at check v w g (Store ty e f) d = absurd d
form_on at check v w g (CopyBytes n e f) d = absurd d
form_on at check v w g (Undefine k) d = absurd d
form_on at check v w g (Input k t) d = absurd d
form_on at check v w g (Assume e) d = absurd d
form_on at check v w g (Sequence b c) d = absurd d
form_on at check v w g (If e b c) d = absurd d
form_on at check v w g (Loop here b) d = absurd d
form_on at check v w g (Block b) d = absurd d
form_on at check v w g (Exit k) d = absurd d
form_on at check v w g (Scope xs items) d = absurd d
form_on at check v w g (Switch e xs items) d = absurd d
form_on at check v w g (Goto l) d = absurd d
form_on at check v w g (Call c) d = absurd d
form_on at check v w g (Return e) d = absurd d
form_on at check v w g (Label here l) d = absurd d
form_on at check v w g (Case n) d = absurd d
form_on at check v w g Default d = absurd d

module _ (q : CsProgramTree) (a : CsStmtTree) (x y : Alarm) (h : Holds q x y) where
  checked : LeadsTo q x.chain (IsCheckAt x.pos x.check x.shown) a → LeadsTo q y.chain (IsCheckAt y.pos y.check y.shown) a
  checked d =
      subst (λ z. LeadsTo q z (IsCheckAt y.pos y.check y.shown) a) (sym h.chain)
      (subst (λ z. LeadsTo q x.chain (IsCheckAt z y.check y.shown) a) (sym h.place)
      (subst (λ z. LeadsTo q x.chain (IsCheckAt x.pos z y.shown) a) (sym h.check)
      (leads_on q (IsCheckAt x.pos x.check x.shown) (IsCheckAt x.pos x.check y.shown) (form_on x.pos x.check x.shown y.shown h.form) x.chain a d)))

  admitted : IsAdmittedIn q a x → IsAdmittedIn q a y
  admitted d = record {
    check = checked d.check;
    kind = subst (λ z. z.kind ≡ y.kind) (sym h.check) (d.kind ∙ sym h.kind);
    example_shown = subst (λ z. IsInShown q.objects (operand_of z) y.shown) (sym h.example) (h.shows (operand_of x.example) d.example_shown);
    example_fails = subst (λ z. Fails q.objects y.check (operand_of z)) (sym h.example) (subst (λ z. Fails q.objects z (operand_of x.example)) (sym h.check) d.example_fails);
    proper = h.proper d.proper;
    names = h.names d.names;
    facts = fewer (NamesFactObjects (length q.objects)) x.facts y.facts h.facts d.facts;
  }

pub holding_alarms_are_admitted : HoldingAlarmsAreAdmitted
holding_alarms_are_admitted q a x y h d = admitted q a x y h d

none_there : {P : Type 0} (x : Alarm) → Contains [] x → P
none_there x c = absurd (omega (c.1, arith))

pub gains_are_admitted : GainsAreAdmitted
gains_are_admitted q a alarms g =
    All-weaker (λ y. ((x : Alarm) × Contains [] x × Holds q x y) ⊎ IsAdmittedIn q a y) (IsAdmittedIn q a) (λ y s. ⊎_elim (λ l. none_there l.0 l.1) (λ r. r) s) alarms g
