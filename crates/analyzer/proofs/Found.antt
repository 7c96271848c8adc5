-- From the walk of main to what an analysis promises.
use Rattle.std.proofs.Common.{◌≡◌, ◌<◌, inl, inr, ℕ, ℤ, zero, suc, List, [], ◌∷◌, length, Option, Some, refl, sym, ap, subst, ◌∙◌, arith}
use Rattle.std.specs.Prelude.{All, Contains, slice_get}
use Rattle.std.proofs.lemmas.List.Elements.{All-contains, All-weaker, Contains-get_or}
use Rattle.c_syntax_written.specs.declared.place.Pos.{Pos}
use Rattle.c_syntax.specs.declared.alarm.Alarm.{Alarm}
use Rattle.c_syntax.specs.declared.alarm.WrongKind.{WrongKind}
use Rattle.c_syntax.specs.Operand.{Operand}
use Rattle.c_syntax.specs.Admission.{IsProper}
use Rattle.c_values.specs.Places.{ObjectMemory}
use Rattle.csharp.specs.Trees.{CsFunctionTree, CsProgramTree}
use Rattle.csharp.specs.Formed.{IsFormed}
use Rattle.csharp.specs.States.{State, first}
use Rattle.csharp.specs.Outcomes.{Fails, or_stuck}
use Rattle.csharp.specs.Meaning.{exec, never}
use Rattle.alarm_claims.specs.Admitted.{Gains, IsAdmittedIn}
use Rattle.alarm_claims.specs.Analyzed.{Analyzed, Listed, ListsAll, Tells}
use Rattle.alarm_claims.proofs.Whole.{analyses_are_whole}
use Rattle.alarm_claims.proofs.Wider.{gains_are_admitted, holding_alarms_are_admitted, serving_alarms_tell}
use Rattle.walk_owes.specs.declared.way.Kept.{Kept}
use Rattle.walk_owes.specs.Owes.{Covered, Sound}
use Rattle.walk_owes.specs.Walkable.{nowhere}
use Rattle.alarm_lists.specs.Lists.{HaveOneForm, IsInOrderOf, NamesOwn}
use Rattle.alarm_lists.specs.Sites.{SitesAgree}
use Rattle.alarm_lists.proofs.Sites.{alarms_one}

-- ---- runs of main

pub lists_all : {M : Type 0} (stands : M → State → Type 0) (q : CsProgramTree) (f : CsFunctionTree) (start : M) (after : Option M) (kept : List (Kept M))
    (out : List Alarm) → slice_get q.functions q.main ≡ Some f → Sound stands q nowhere f.body (Some start) after kept out
    → ((inputs : List ℤ) → stands start (first q inputs)) → ListsAll q out
lists_all stands q f start after kept out there x h = record {
  by = λ inputs calls at wrong operand memory e.
      let here : exec q e.fuel f.body (first q inputs) ≡ Fails calls at wrong operand memory =
      sym (ap (λ o. or_stuck o (λ g. exec q e.fuel g.body (first q inputs))) there) ∙ e.fails in
      subst (Covered stands q nowhere after kept out) here (x.by never e.fuel (first q inputs) (h inputs));
}

-- ---- lists

module _ (q : CsProgramTree) (calls : List Pos) (at : Pos) (k : WrongKind) (x : Operand) (m : ObjectMemory) where
  teller : (alarms : List Alarm) → Listed q alarms calls at k x m → (a : Alarm) × Contains alarms a × Tells q a calls at k x m
  teller [] h = absurd h
  teller (a ∷ alarms) (inl t) = (a, (0, omega arith, refl), t)
  teller (a ∷ alarms) (inr h) = let r = teller alarms h in (r.0, (suc r.1.0, omega (r.1.1, arith), r.1.2), r.2)

  listed : (alarms : List Alarm) (a : Alarm) → Contains alarms a → Tells q a calls at k x m → Listed q alarms calls at k x m
  listed [] a c t = absurd (omega (c.1, arith))
  listed (b ∷ alarms) a (zero, l, e) t = inl (subst (λ z. Tells q z calls at k x m) (sym e) t)
  listed (b ∷ alarms) a (suc n, l, e) t = inr (listed alarms a (n, omega (l, arith), e) t)

  listed_on : (alarms sorted : List Alarm) → IsInOrderOf alarms sorted → Listed q alarms calls at k x m → Listed q sorted calls at k x m
  listed_on alarms sorted o h =
      let r = teller alarms h in
      let s = o.serves q r.0 r.1 in
      listed sorted s.0 s.1 (serving_alarms_tell q r.0 s.0 s.2 calls at k x m r.2)

-- ---- the analysis

module _ (q : CsProgramTree) (f : CsFunctionTree) (there : slice_get q.functions q.main ≡ Some f) (found : List Alarm)
    (admitted : All (IsAdmittedIn q f.body) found) where
  pub found_proper : All (λ (x : Alarm). IsProper x.shown) found
  found_proper = All-weaker (IsAdmittedIn q f.body) (λ (x : Alarm). IsProper x.shown) (λ x d. d.proper) found admitted

  pub found_forms : SitesAgree q → HaveOneForm found
  found_forms agree x y c d alike =
      alarms_one q agree q.main f there x y (All-contains (IsAdmittedIn q f.body) found x admitted c) (All-contains (IsAdmittedIn q f.body) found y admitted d) alike

  pub analyzed : (sorted : List Alarm) → ListsAll q found → IsInOrderOf found sorted → Analyzed q sorted
  analyzed sorted all o =
      analyses_are_whole q sorted
      (record { by = λ inputs calls at k x m e. listed_on q calls at k x m found sorted o (all.by inputs calls at k x m e) })
      (λ k d l.
      let h = o.holds q (All-weaker (IsAdmittedIn q f.body) (NamesOwn q) (λ x a. a.names) found admitted) _ (Contains-get_or sorted k d l) in
      record { main = f; there = there; admitted = holding_alarms_are_admitted q f.body h.0 _ h.2 (All-contains (IsAdmittedIn q f.body) found h.0 admitted h.1) })
      o.ordered

-- ---- main

function_at : (fs : List CsFunctionTree) (f : ℕ) → f < length fs → (function : CsFunctionTree) × (slice_get fs f ≡ Some function)
function_at [] f l = absurd (omega (l, arith))
function_at (function ∷ fs) zero l = (function, refl)
function_at (function ∷ fs) (suc f) l = function_at fs f (omega (l, arith))

pub main_there : (q : CsProgramTree) → IsFormed q → (f : CsFunctionTree) × (slice_get q.functions q.main ≡ Some f)
main_there q formed = function_at q.functions q.main formed.main

-- what a walk of main gains that begins with an empty list
pub all_admitted : (q : CsProgramTree) (f : CsFunctionTree) (start out found : List Alarm) → start ≡ [] → found ≡ out → Gains q f.body start out
    → All (IsAdmittedIn q f.body) found
all_admitted q f start out found e same g =
    subst (All (IsAdmittedIn q f.body)) (sym same) (gains_are_admitted q f.body out (subst (λ z. Gains q f.body z out) e g))
