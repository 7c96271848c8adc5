-- From the lowered program to the typed one.
use Rattle.std.proofs.Common.{◌≡◌, ℕ, ℤ, List, [], ◌∷◌, Option, Some, None, refl, ap, subst, inl, inr}
use Rattle.std.specs.Prelude.{Contains, slice_get, IsSomeAnd, IfSome}
use Rattle.std.proofs.lemmas.List.Elements.{All-weaker}
use Rattle.c_syntax_written.specs.declared.place.Pos.{Pos}
use Rattle.c_syntax.specs.declared.alarm.WrongKind.{WrongKind}
use Rattle.c_syntax.specs.declared.alarm.Check.{Check}
use Rattle.c_syntax.specs.declared.alarm.Shown.{Shown}
use Rattle.c_syntax.specs.declared.alarm.Alarm.{Alarm}
use Rattle.c_syntax.specs.declared.program.Plan.{Plan}
use Rattle.c_syntax.specs.Operand.{Operand}
use Rattle.c_syntax.specs.Program.{TProgramTree}
use Rattle.c_layout.specs.Calls.{function_calls, LeadTo}
use Rattle.c_layout.specs.Checks.{MakesCheck}
use Rattle.c_layout.specs.MainFunction.{main_of}
use Rattle.c_steps.specs.States.{State}
use Rattle.c_steps.specs.Runs.{GoesWrong}
use Rattle.c_steps_laws.specs.Fits.{Runs}
use Rattle.csharp.specs.Trees.{CsStmtTree, CsStmtTrees, Nothing, Set, Load, Store, CopyBytes, Undefine, Checked, Input, Assume, Sequence, If, Loop, Block, Exit, Scope, Switch, Goto, Call, Return, Label, Case, Default, none, more, CsCallTree, CsFunctionTree, CsProgramTree}
use Rattle.csharp.specs.Formed.{Around, Each, EachItem, Throughout, in_block, in_items, nothing_around}
use Rattle.csharp.specs.Meaning.{CheckFails}
use Rattle.lower_trees.specs.Correct.{Lowers, IsOf}
use Rattle.lower_trees.specs.LowerProgram.{lower}
use Rattle.alarm_claims.specs.Admitted.{SomeIn, SomeAmong, IsCheckAt, IsCallAt, LeadsTo}
use Rattle.alarm_claims.specs.Analyzed.{Analyzed, Admits}
use Rattle.c_steps.specs.Sound.{MainGoesWrong, IsSound}
use Rattle.c_steps.specs.Admission.{ChecksAt, IsAdmitted}
use Rattle.alarm_carried_laws.specs.AlarmsOf.{NamesOwn, AreAlarmsOf}
use Rattle.alarm_carried_laws.specs.Carried.{AnalysesCarryOver}

-- ---- what holds of each statement holds of one of them

module _ (Q : CsStmtTree → Type 0) (P : CsStmtTree → Type 0) where
  abbrev Both : Type 0
  Both = (a : CsStmtTree) × Q a × P a

  mutual
    both : (a : CsStmtTree) (around : Around) → Each (λ around a. Q a) around a → SomeIn P a → Both
    both (Sequence a b) r (h, ha, hb) (inl p) = (Sequence a b, h, p)
    both (Sequence a b) r (h, ha, hb) (inr (inl p)) = both a r ha p
    both (Sequence a b) r (h, ha, hb) (inr (inr p)) = both b r hb p
    both (If e a b) r (h, ha, hb) (inl p) = (If e a b, h, p)
    both (If e a b) r (h, ha, hb) (inr (inl p)) = both a r ha p
    both (If e a b) r (h, ha, hb) (inr (inr p)) = both b r hb p
    both (Loop at a) r (h, ha) (inl p) = (Loop at a, h, p)
    both (Loop at a) r (h, ha) (inr p) = both a r ha p
    both (Block a) r (h, ha) (inl p) = (Block a, h, p)
    both (Block a) r (h, ha) (inr p) = both a (in_block r) ha p
    both (Scope xs items) r (h, hi) (inl p) = (Scope xs items, h, p)
    both (Scope xs items) r (h, hi) (inr p) = both_among items (in_items xs items r) hi p
    both (Switch e xs items) r (h, hi) (inl p) = (Switch e xs items, h, p)
    both (Switch e xs items) r (h, hi) (inr p) = both_among items (in_items xs items r) hi p
    both Nothing r h p = (Nothing, h, p)
    both (Set d e) r h p = (Set d e, h, p)
    both (Load d ty e) r h p = (Load d ty e, h, p)
    both (Store ty e f) r h p = (Store ty e f, h, p)
    both (CopyBytes n to from) r h p = (CopyBytes n to from, h, p)
    both (Undefine x) r h p = (Undefine x, h, p)
    both (Checked c) r h p = (Checked c, h, p)
    both (Input d t) r h p = (Input d t, h, p)
    both (Assume e) r h p = (Assume e, h, p)
    both (Exit k) r h p = (Exit k, h, p)
    both (Goto l) r h p = (Goto l, h, p)
    both (Call c) r h p = (Call c, h, p)
    both (Return e) r h p = (Return e, h, p)
    both (Label at l) r h p = (Label at l, h, p)
    both (Case n) r h p = (Case n, h, p)
    both Default r h p = (Default, h, p)

    both_among : (items : CsStmtTrees) (around : Around) → EachItem (λ around a. Q a) around items → SomeAmong P items → Both
    both_among none r h p = absurd p
    both_among (more item rest) r (h, t) (inl p) = both item r h p
    both_among (more item rest) r (h, t) (inr p) = both_among rest r t p

-- ---- checks and calls of the lowered program are those of the typed one

module _ (p : TProgramTree) (q : CsProgramTree) (made : Throughout (λ f around a. IsOf p f a) q) where
  body_made : (f : ℕ) (function : CsFunctionTree) → slice_get q.functions f ≡ Some function → Each (λ around a. IsOf p f a) nothing_around function.body
  body_made f function e = subst (λ o. IfSome o (λ function. Each (λ around a. IsOf p f a) nothing_around function.body)) e (made f)

  check_made : (f : ℕ) (at : Pos) (check : Check) (shown : Shown) → Both (IsOf p f) (IsCheckAt at check shown) → MakesCheck p f at check
  check_made f at check shown (Checked c, h, k) = subst (λ z. MakesCheck p f z check) k.0 (subst (λ z. MakesCheck p f c.pos z) k.1 h)
  check_made f at check shown (Nothing, h, k) = absurd k
  check_made f at check shown (Set d e, h, k) = absurd k
  check_made f at check shown (Load d ty e, h, k) = absurd k
  check_made f at check shown (Store ty e x, h, k) = absurd k
  check_made f at check shown (CopyBytes n to from, h, k) = absurd k
  check_made f at check shown (Undefine x, h, k) = absurd k
  check_made f at check shown (Input d t, h, k) = absurd k
  check_made f at check shown (Assume e, h, k) = absurd k
  check_made f at check shown (Sequence a b, h, k) = absurd k
  check_made f at check shown (If e a b, h, k) = absurd k
  check_made f at check shown (Loop l a, h, k) = absurd k
  check_made f at check shown (Block a, h, k) = absurd k
  check_made f at check shown (Exit n, h, k) = absurd k
  check_made f at check shown (Scope xs items, h, k) = absurd k
  check_made f at check shown (Switch e xs items, h, k) = absurd k
  check_made f at check shown (Goto l, h, k) = absurd k
  check_made f at check shown (Call c, h, k) = absurd k
  check_made f at check shown (Return e, h, k) = absurd k
  check_made f at check shown (Label l n, h, k) = absurd k
  check_made f at check shown (Case n, h, k) = absurd k
  check_made f at check shown (Default, h, k) = absurd k

  abbrev Called : ℕ → Pos → (CsCallTree → Type 0) → Type 0
  Called f at P = (c : CsCallTree) × Contains (function_calls p f) (record { pos = at; callee = c.function }) × P c

  call_made : (f : ℕ) (at : Pos) (P : CsCallTree → Type 0) → Both (IsOf p f) (IsCallAt at P) → Called f at P
  call_made f at P (Call c, h, (e, k)) = (c, subst (λ z. Contains (function_calls p f) (record { pos = z; callee = c.function })) e h, k)
  call_made f at P (Nothing, h, k) = absurd k
  call_made f at P (Set d e, h, k) = absurd k
  call_made f at P (Load d ty e, h, k) = absurd k
  call_made f at P (Store ty e x, h, k) = absurd k
  call_made f at P (CopyBytes n to from, h, k) = absurd k
  call_made f at P (Undefine x, h, k) = absurd k
  call_made f at P (Checked c, h, k) = absurd k
  call_made f at P (Input d t, h, k) = absurd k
  call_made f at P (Assume e, h, k) = absurd k
  call_made f at P (Sequence a b, h, k) = absurd k
  call_made f at P (If e a b, h, k) = absurd k
  call_made f at P (Loop l a, h, k) = absurd k
  call_made f at P (Block a, h, k) = absurd k
  call_made f at P (Exit n, h, k) = absurd k
  call_made f at P (Scope xs items, h, k) = absurd k
  call_made f at P (Switch e xs items, h, k) = absurd k
  call_made f at P (Goto l, h, k) = absurd k
  call_made f at P (Return e, h, k) = absurd k
  call_made f at P (Label l n, h, k) = absurd k
  call_made f at P (Case n, h, k) = absurd k
  call_made f at P (Default, h, k) = absurd k

  abbrev Reached : ℕ → List Pos → Pos → Check → Type 0
  Reached f chain at check = (g : ℕ) × LeadTo p f chain g × MakesCheck p g at check

  step_on : (f : ℕ) (place : Pos) (chain : List Pos) (at : Pos) (check : Check) (callee : ℕ)
      → Contains (function_calls p f) (record { pos = place; callee = callee }) → Reached callee chain at check → Reached f (place ∷ chain) at check
  step_on f place chain at check callee h (g, lead, m) = (
    g,
    record {
      chain = record { pos = place; callee = callee } ∷ lead.chain;
      calls = (h, lead.calls);
      at = ap (λ z. place ∷ z) lead.at;
      ends = lead.ends;
    },
    m,
  )

  behind : (chain : List Pos) (f : ℕ) (at : Pos) (check : Check) (shown : Shown) (o : Option CsFunctionTree) → slice_get q.functions f ≡ o
      → ((function : CsFunctionTree) → slice_get q.functions f ≡ Some function → LeadsTo q chain (IsCheckAt at check shown) function.body → Reached f chain at check)
      → IsSomeAnd o (λ g. LeadsTo q chain (IsCheckAt at check shown) g.body) → Reached f chain at check
  behind chain f at check shown None e go h = absurd h
  behind chain f at check shown (Some function) e go h = go function e h

  reached : (chain : List Pos) (f : ℕ) (function : CsFunctionTree) (at : Pos) (check : Check) (shown : Shown) → slice_get q.functions f ≡ Some function
      → LeadsTo q chain (IsCheckAt at check shown) function.body → Reached f chain at check
  reached [] f function at check shown e h = (
    f,
    record { chain = []; calls = tt; at = refl; ends = refl },
    check_made f at check shown (both (IsOf p f) (IsCheckAt at check shown) function.body nothing_around (body_made f function e) h),
  )
  reached (place ∷ chain) f function at check shown e h =
      let c : Called f place (λ c. IsSomeAnd (slice_get q.functions c.function) (λ g. LeadsTo q chain (IsCheckAt at check shown) g.body))
      = call_made f place _ (both (IsOf p f) (IsCallAt place _) function.body nothing_around (body_made f function e) h)
      in step_on f place chain at check c.0.function c.1
      (behind chain c.0.function at check shown (slice_get q.functions c.0.function) refl (λ g i k. reached chain c.0.function g at check shown i k) c.2)

-- ---- the composition

module _ (p : TProgramTree) (plan : Plan) (runs : Runs p plan) (lowers : Lowers p plan (lower p plan)) (alarms : List Alarm)
    (analyzed : Analyzed (lower p plan) alarms) where
  same_main : (main : ℕ) → main_of p ≡ Some main → main ≡ plan.main
  same_main main e = cc

  fails : (inputs : List ℤ) (s : State) (chain : List Pos) (at : Pos) (kind : WrongKind) (operand : Operand)
      → MainGoesWrong p inputs s chain at kind operand → CheckFails (lower p plan) inputs chain at kind operand s.memory
  fails inputs s chain at kind operand (main, e, wrong) =
      (lowers.keeps inputs).misses_none s chain at kind operand (subst (λ z. GoesWrong p z inputs s chain at kind operand) (same_main main e) wrong)

  sound : IsSound p alarms
  sound = record {
    misses_none = λ inputs chain at kind (s, operand, wrong). analyzed.misses_none inputs chain at kind operand s.memory (fails inputs s chain at kind operand wrong);
    shows = λ inputs s chain at kind operand wrong. analyzed.shows inputs chain at kind operand s.memory (fails inputs s chain at kind operand wrong);
  }

  checked : (a : Alarm) → Admits (lower p plan) a → ChecksAt p a.chain a.pos a.check
  checked a h =
      let r = reached p (lower p plan) lowers.made a.chain plan.main h.main a.pos a.check a.shown h.there h.admitted.check
      in (plan.main, r.0, runs.planned.main, r.1, r.2)

  is_admitted : (a : Alarm) → Admits (lower p plan) a → IsAdmitted p a
  is_admitted a h = record {
    check = checked a h;
    kind = h.admitted.kind;
    example_shown = h.admitted.example_shown;
    example_fails = h.admitted.example_fails;
    proper = h.admitted.proper;
  }

  names_own : (a : Alarm) → Admits (lower p plan) a → NamesOwn p a
  names_own a h = record { shown = h.admitted.names; facts = h.admitted.facts }

  are_alarms : AreAlarmsOf p alarms
  are_alarms = record {
    sound = sound;
    admitted = All-weaker (Admits (lower p plan)) (IsAdmitted p) is_admitted alarms analyzed.admitted;
    names = All-weaker (Admits (lower p plan)) (NamesOwn p) names_own alarms analyzed.admitted;
    ordered = analyzed.ordered;
  }

pub analyses_carry_over : AnalysesCarryOver
analyses_carry_over p plan runs lowers alarms analyzed = are_alarms p plan runs lowers alarms analyzed
