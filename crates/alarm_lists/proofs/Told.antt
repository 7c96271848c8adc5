-- What a list tells and admits, told and admitted by one that serves for it.
use Rattle.std.proofs.Common.{inl, inr, zero, suc, List, [], ◌∷◌, refl, sym, subst, arith}
use Rattle.std.specs.Prelude.{All, Contains}
use Rattle.std.proofs.lemmas.List.Elements.{All-contains, All-weaker, Contains-get_or}
use Rattle.c_syntax_written.specs.declared.place.Pos.{Pos}
use Rattle.c_syntax.specs.declared.alarm.Alarm.{Alarm}
use Rattle.c_syntax.specs.declared.alarm.WrongKind.{WrongKind}
use Rattle.c_syntax.specs.Operand.{Operand}
use Rattle.c_syntax.specs.Admission.{IsProper}
use Rattle.c_values.specs.Places.{ObjectMemory}
use Rattle.csharp.specs.Trees.{CsProgramTree, CsStmtTree}
use Rattle.alarm_claims.specs.Admitted.{Holds, IsAdmittedIn}
use Rattle.alarm_claims.specs.Analyzed.{Listed, Tells}
use Rattle.alarm_claims.specs.Wider.{Serves}
use Rattle.alarm_claims.proofs.Wider.{holding_alarms_are_admitted, serving_alarms_tell}
use Rattle.alarm_lists.specs.Lists.{NamesOwn}

module _ (q : CsProgramTree) (calls : List Pos) (at : Pos) (k : WrongKind) (x : Operand) (m : ObjectMemory) where
  teller : (alarms : List Alarm) → Listed q alarms calls at k x m → (a : Alarm) × Contains alarms a × Tells q a calls at k x m
  teller [] h = absurd h
  teller (a ∷ alarms) (inl t) = (a, (0, omega arith, refl), t)
  teller (a ∷ alarms) (inr h) = let r = teller alarms h in (r.0, (suc r.1.0, omega (r.1.1, arith), r.1.2), r.2)

  listed : (alarms : List Alarm) (a : Alarm) → Contains alarms a → Tells q a calls at k x m → Listed q alarms calls at k x m
  listed [] a c t = absurd (omega (c.1, arith))
  listed (b ∷ alarms) a (zero, l, e) t = inl (subst (λ z. Tells q z calls at k x m) (sym e) t)
  listed (b ∷ alarms) a (suc n, l, e) t = inr (listed alarms a (n, omega (l, arith), e) t)

  pub listed_on : (alarms sorted : List Alarm) → ((a : Alarm) → Contains alarms a → (b : Alarm) × Contains sorted b × Serves q a b)
      → Listed q alarms calls at k x m → Listed q sorted calls at k x m
  listed_on alarms sorted serves h =
      let r = teller alarms h in
      let s = serves r.0 r.1 in
      listed sorted s.0 s.1 (serving_alarms_tell q r.0 s.0 s.2 calls at k x m r.2)

module _ (q : CsProgramTree) (a : CsStmtTree) (alarms : List Alarm) (admitted : All (IsAdmittedIn q a) alarms) where
  pub admitted_proper : All (λ (x : Alarm). IsProper x.shown) alarms
  admitted_proper = All-weaker (IsAdmittedIn q a) (λ (x : Alarm). IsProper x.shown) (λ x d. d.proper) alarms admitted

  pub admitted_on : (sorted : List Alarm) → (All (NamesOwn q) alarms → (y : Alarm) → Contains sorted y → (x : Alarm) × Contains alarms x × Holds q x y)
      → All (IsAdmittedIn q a) sorted
  admitted_on sorted holds k d l =
      let h = holds (All-weaker (IsAdmittedIn q a) (NamesOwn q) (λ x i. i.names) alarms admitted) _ (Contains-get_or sorted k d l) in
      holding_alarms_are_admitted q a h.0 _ h.2 (All-contains (IsAdmittedIn q a) alarms h.0 admitted h.1)
