-- From the exact walk of main to the list of the one run, where gotos lead forwards and each switch has one default.
use Rattle.std.proofs.Common.{◌≡◌, ⊎_elim, ℕ, suc, ℤ, List, [], ◌∷◌, Option, Some, None, Bool, true, false, refl, sym, ap, subst, arith}
use Rattle.std.specs.Prelude.{Contains, IfSome, slice_get}
use Rattle.std.proofs.lemmas.Bool.{false_from_ne_true}
use Rattle.std.proofs.lemmas.Bool.Decides.{Decides-int_eq}
use Rattle.c_syntax.specs.declared.alarm.Alarm.{Alarm}
use Rattle.c_layout.specs.WellTyped.{EachOf}
use Rattle.csharp.specs.Trees.{CsFunctionTree, CsProgramTree, CsStmtTree, CsStmtTrees, Scope, Switch, none, more}
use Rattle.csharp.specs.Formed.{AreCasesFormed, AreLabelsOnce, Around, Differ, IsFormed, cases_among, labels_among, nothing_around}
use Rattle.csharp.specs.States.{State, first}
use Rattle.csharp.specs.Outcomes.{Outcome, Normal, Leaves, Fails, Waiting, Stopped, Stuck, Clash, NoFuel, Over, or_stuck}
use Rattle.csharp.specs.Meaning.{AtCase, AtDefault, AtLabel, Mark, beyond, bounded_exec, has, is_mark}
use Rattle.csharp_laws.specs.Enough.{IsForward, IsForwardOnly}
use Rattle.csharp_typed_laws.proofs.Everywhere.{each_both}
use Rattle.csharp_typed_laws.specs.TypedStates.{IsTypedState}
use Rattle.alarm_claims.specs.ExactFor.{AlarmsOf, IsExactFor}
use Rattle.walk_owes.specs.declared.way.Kept.{Kept}
use Rattle.walk_owes.specs.declared.way.Target.{Target}
use Rattle.walk_owes.specs.Owes.{HasTyped}
use Rattle.walk_owes.specs.Walkable.{nowhere}
use Rattle.walk_owes.specs.Exactly.{AreMarksOnce, BodiesLeadOn, Exact, Exactly, IsStraight, LeadsOn}
use Rattle.walk_owes.proofs.Marked.{alone_of, case_listed, labels_behind, seen}
use Rattle.analyzer.specs.Straight.{AreDefaultsOnce, HaveOneDefault, IsDefaultOnce}

-- ---- marks that stand once

both_ways : {b : Bool} → b ≡ false → b ≡ true → ⊥
both_ways e f = absurd (cc)

rest_differ : (x : ℤ) (xs : List ℤ) → Differ (x ∷ xs) → Differ xs
rest_differ x xs h i j d l m = h (suc i) (suc j) d (omega (l, arith)) (omega (m, arith))

never_again : (x : ℤ) (xs : List ℤ) → Differ (x ∷ xs) → Contains xs x → ⊥
never_again x xs h c = h 0 (suc c.0) x (omega arith) (omega (c.1, arith)) (sym c.2)

cases_behind : (item : CsStmtTree) (rest : CsStmtTrees) → Differ (cases_among (more item rest)) → Differ (cases_among rest)
cases_behind item rest h =
    ⊎_elim (λ x. rw x.2 at h)
    (λ y. ⊎_elim (λ x. rest_differ x.0 (cases_among rest) (rw x.1 at h)) (λ p. subst Differ (p.cases rest) h) y) (seen item)

case_alone : (item : CsStmtTree) (rest : CsStmtTrees) → Differ (cases_among (more item rest)) → (n : ℤ) → is_mark (AtCase n) item ≡ true
    → has (AtCase n) rest ≡ false
case_alone item rest h n m =
    false_from_ne_true (has (AtCase n) rest)
    (λ there. ⊎_elim
    (λ x. both_ways refl (rw x.2 at m))
    (λ y. ⊎_elim
    (λ x. let g = rw x.1 at h in let i = (Decides-int_eq n x.0).0 (rw x.1 at m) in
    never_again x.0 (cases_among rest) g (subst (Contains (cases_among rest)) i (case_listed n rest there)))
    (λ p. both_ways (p.no_case n) m) y)
    (seen item))

mark_once : (item : CsStmtTree) (rest : CsStmtTrees) → Differ (labels_among (more item rest)) → Differ (cases_among (more item rest))
    → (is_mark AtDefault item ≡ true → has AtDefault rest ≡ false) → (m : Mark) → is_mark m item ≡ true → has m rest ≡ false
mark_once item rest l c d (AtLabel k) m = alone_of item rest l k m
mark_once item rest l c d (AtCase n) m = case_alone item rest c n m
mark_once item rest l c d AtDefault m = d m

marks_once : (items : CsStmtTrees) → Differ (labels_among items) → Differ (cases_among items) → HaveOneDefault items → AreMarksOnce items
marks_once none l c d = tt
marks_once (more item rest) l c d =
    (mark_once item rest l c d.0, marks_once rest (labels_behind item rest l) (cases_behind item rest c) d.1)

-- ---- programs

module _ (q : CsProgramTree) where
  straight_of : (around : Around) (a : CsStmtTree) → IsForward around a → IsDefaultOnce around a → AreCasesFormed q a → AreLabelsOnce a → IsStraight around a
  straight_of around (Scope xs items) f d c l = f
  straight_of around (Switch e xs items) f d c l = (f, marks_once items l c.1 d)
  straight_of around a f d c l = tt

  each_there : {A : Type 0} (xs : List A) (P : ℕ → A → Type 0) (k : ℕ) (a : A) → EachOf xs P → slice_get xs k ≡ Some a → P k a
  each_there xs P k a h e = let i : IfSome (slice_get xs k) (P k) = h k in rw e at i

  if_some : {A : Type 0} (o : Option A) (P : A → Type 0) → ((a : A) → o ≡ Some a → P a) → IfSome o P
  if_some None P f = tt
  if_some (Some a) P f = f a refl

  pub leads_of : IsFormed q → IsForwardOnly q → AreDefaultsOnce q → (f : ℕ) (function : CsFunctionTree) → slice_get q.functions f ≡ Some function
      → LeadsOn function.body
  leads_of formed forward once f function there =
      let w = each_there q.functions _ f function forward there in
      let d = each_there q.functions _ f function once there in
      let c = each_there q.functions _ f function formed.cases there in
      let l = each_there q.functions _ f function formed.labels there in
      record {
        around = nothing_around;
        each = each_both (λ r b. IsForward r b × IsDefaultOnce r b) (λ r b. AreCasesFormed q b × AreLabelsOnce b) IsStraight
            (λ r b x y. straight_of r b x.0 x.1 y.0 y.1) nothing_around function.body
            (each_both IsForward IsDefaultOnce (λ r b. IsForward r b × IsDefaultOnce r b) (λ r b x y. (x, y)) nothing_around function.body w d)
            (each_both (λ r b. AreCasesFormed q b) (λ r b. AreLabelsOnce b) (λ r b. AreCasesFormed q b × AreLabelsOnce b) (λ r b x y. (x, y))
            nothing_around function.body c l);
      }

  pub bodies_of : IsFormed q → IsForwardOnly q → AreDefaultsOnce q → BodiesLeadOn q
  bodies_of formed forward once k =
      if_some (slice_get q.functions k) (λ (g : CsFunctionTree). LeadsOn g.body) (λ g e. leads_of formed forward once k g e)

  -- ---- the list

  alarms_by : {M : Type 0} (sharp : M → State → Type 0) (to : Target) (after : Option M) (kept : List (Kept M)) (found sorted : List Alarm) → (found ≡ [] → sorted ≡ [])
      → ((x : Alarm) → found ≡ x ∷ [] → sorted ≡ x ∷ []) → (o : Outcome) → Exactly sharp q to after kept found o → AlarmsOf q sorted o
  alarms_by sharp to after kept found sorted f g (Normal s) h = f h.2
  alarms_by sharp to after kept found sorted f g (Leaves w s) h = f h.2
  alarms_by sharp to after kept found sorted f g (Fails c at k x m) h = let y = h.2 in (y.0, g y.0 y.1, y.2)
  alarms_by sharp to after kept found sorted f g Stopped h = f h.2
  alarms_by sharp to after kept found sorted f g Waiting h = tt
  alarms_by sharp to after kept found sorted f g Stuck h = tt
  alarms_by sharp to after kept found sorted f g Clash h = tt
  alarms_by sharp to after kept found sorted f g NoFuel h = tt
  alarms_by sharp to after kept found sorted f g Over h = tt

  pub exact_for : {M : Type 0} (sharp : M → State → Type 0) (f : CsFunctionTree) (own bound : ℕ) (start : M) (after : Option M) (kept0 kept : List (Kept M)) (out0 found sorted : List Alarm) → own ≡ bound
      → slice_get q.functions q.main ≡ Some f → BodiesLeadOn q → LeadsOn f.body → kept0 ≡ [] → out0 ≡ [] → sharp start (first q [])
      → IsTypedState q (first q [])
      → Exact (HasTyped sharp q) (beyond own) q nowhere f.body (Some start) after kept0 out0 kept found → (found ≡ [] → sorted ≡ [])
      → ((x : Alarm) → found ≡ x ∷ [] → sorted ≡ x ∷ []) → IsExactFor q bound sorted
  exact_for sharp f own bound start after kept0 kept out0 found sorted same there b l i j s t x none1 one = record {
    by = λ fuel. subst (λ k. AlarmsOf q sorted (or_stuck (slice_get q.functions q.main) (λ g. bounded_exec (beyond k) q fuel g.body (first q [])))) same
        (subst (AlarmsOf q sorted) (sym (ap (λ o. or_stuck o (λ g. bounded_exec (beyond own) q fuel g.body (first q []))) there))
        (alarms_by (HasTyped sharp q) nowhere after kept found sorted none1 one (bounded_exec (beyond own) q fuel f.body (first q []))
        (x.by b l fuel (first q []) (s, t) i j)));
  }
