-- From the exact walk of the lowered program to the one run of the typed one.
use Rattle.std.proofs.Common.{◌≡◌, ℕ, ℤ, List, [], ◌∷◌, Option, Some, None, refl, ◌∙◌, sym, subst, inr, ◌⊎◌, ⊎_elim}
use Rattle.std.specs.Prelude.{Bool, slice_get}
use Rattle.c_syntax_written.specs.declared.place.Pos.{Pos}
use Rattle.c_syntax_written.specs.declared.int_type.IntType.TheVariants as ints
use Rattle.c_syntax.specs.declared.alarm.WrongKind.{WrongKind}
use Rattle.c_syntax.specs.declared.alarm.Alarm.{Alarm}
use Rattle.c_syntax.specs.declared.program.Plan.{Plan}
use Rattle.c_syntax.specs.Operand.{Operand}
use Rattle.c_syntax.specs.Program.{TProgramTree}
use Rattle.block_mem.specs.declared.types.Value.TheVariants as values
use Rattle.c_steps.specs.Bounds.{IsForwardOnly, IsInputFree, Turns}
use Rattle.c_steps.specs.Laws.{IsLast}
use Rattle.c_steps.specs.States as machine
use Rattle.c_steps.specs.States.{Next, Goes, Ended, Wrong, Stands}
use Rattle.c_steps.specs.Steps.{step}
use Rattle.c_steps.specs.Runs.{after, chain_of, GoesWrong}
use Rattle.c_steps_laws.specs.Fits.{Runs, RunsNeverStand}
use Rattle.csharp.specs.Laws.{BoundIsSame}
use Rattle.csharp.specs.Trees.{CsFunctionTree, CsProgramTree}
use Rattle.csharp.specs.States.{first}
use Rattle.csharp.specs.Outcomes.{ByReturn, Outcome, Leaves, Fails, Stopped, Over, or_stuck}
use Rattle.csharp.specs.Meaning.{beyond, bounded_exec, exec, run}
use Rattle.lower_trees.specs.Correct.{Lowers}
use Rattle.lower_trees.specs.LowerProgram.{lower}
use Rattle.csharp.specs.Meaning.{bounded_run}
use Rattle.alarm_claims.specs.ExactFor.{AlarmsOf, IsExactFor}
use Rattle.c_steps.specs.Sound.{MainGoesWrong, MainIsWrongAt, TellsOf}
use Rattle.alarm_carried_laws.specs.Exact.{BoundedRunsAreTold}
use Rattle.alarm_carried_laws.specs.ExactReport.{TellsAll, IsExactReport}
use Rattle.csharp_laws.specs.Inputs.{NeverWaits}
use Rattle.alarm_carried_laws.proofs.Inputs.{reads_none}

-- the bound changes no outcome of a run but too many turns
same_main_run : BoundIsSame → (over : ℕ → Bool) (q : CsProgramTree) (n : ℕ) (inputs : List ℤ) (o : Option CsFunctionTree)
    → (or_stuck o (λ f. bounded_exec over q n f.body (first q inputs)) ≡ Over)
    ⊎ (or_stuck o (λ f. exec q n f.body (first q inputs)) ≡ or_stuck o (λ f. bounded_exec over q n f.body (first q inputs)))
same_main_run law over q n inputs None = inr refl
same_main_run law over q n inputs (Some f) = law over q n f.body (first q inputs)

module _ (never : RunsNeverStand) (same : BoundIsSame) (waits : NeverWaits) (p : TProgramTree) (plan : Plan) (bound : ℕ) (runs : Runs p plan)
    (lowers : Lowers p plan (lower p plan)) (free : IsInputFree p) (forwards : IsForwardOnly p) (turns : Turns p plan.main bound) (alarms : List Alarm)
    (exact : IsExactFor (lower p plan) bound alarms) where
  same_run : (n : ℕ) → run (lower p plan) n [] ≡ bounded_run (beyond bound) (lower p plan) n []
  same_run n =
      ⊎_elim (λ o. absurd ((lowers.keeps []).turns bound turns n o)) (λ e. e)
      (same_main_run same (beyond bound) (lower p plan) n [] (slice_get (lower p plan).functions (lower p plan).main))

  -- the list, where the run comes to this
  of_outcome : (n : ℕ) (o : Outcome) → run (lower p plan) n [] ≡ o → AlarmsOf (lower p plan) alarms o
  of_outcome n o e = subst (AlarmsOf (lower p plan) alarms) (sym (same_run n) ∙ e) (exact.by n)

  one : (s : machine.State) (chain : List Pos) (at : Pos) (kind : WrongKind) (operand : Operand) → MainGoesWrong p [] s chain at kind operand
      → (alarm : Alarm) × (alarms ≡ alarm ∷ []) × TellsOf chain at kind alarm × TellsAll p s operand alarm
  one s chain at kind operand (main, e, wrong) =
      let m : main ≡ plan.main = cc
      in let f = (lowers.keeps []).misses_none s chain at kind operand (subst (λ z. GoesWrong p z [] s chain at kind operand) m wrong)
      in let (a, is, r) = of_outcome f.fuel (Fails chain at kind operand s.memory) f.fails
      in (a, is, (r.chain, r.place, r.kind), record { shown = r.shown.there; alone = r.shown.only; numbers = r.facts })

  none_at : ((chain : List Pos) (at : Pos) (kind : WrongKind) → MainIsWrongAt p [] chain at kind → ⊥)
      → (n : ℕ) → IsLast p (after p plan.main [] n) → (next : Next) → step p (after p plan.main [] n) ≡ next → alarms ≡ []
  none_at right n last (Goes t) e = absurd (last t e)
  none_at right n last (Ended v) e =
      let (fuel, t, r) = (lowers.keeps []).ends n v e in of_outcome fuel (Leaves (ByReturn (Some (values.Int ints.Int v))) t) r
  none_at right n last machine.Waiting e =
      let (fuel, r) = (lowers.keeps []).waits n e
      in absurd (waits (beyond bound) (lower p plan) fuel [] (reads_none p (lower p plan) lowers.made free) (sym (same_run fuel) ∙ r))
  none_at right n last machine.Stopped e = let (fuel, r) = (lowers.keeps []).stops n e in of_outcome fuel Stopped r
  none_at right n last (Wrong at kind x) e =
      absurd (right (chain_of (after p plan.main [] n).work) at kind
      (after p plan.main [] n, x, (plan.main, runs.planned.main, record { reached = (n, refl); wrong = e; called = refl })))
  none_at right n last Stands e = absurd (never p plan runs [] n e)

  report : IsExactReport p alarms
  report = record {
    none = λ right. let (n, last) = lowers.finishes bound [] forwards turns in none_at right n last (step p (after p plan.main [] n)) refl;
    one = one;
  }

pub bounded_runs_are_told : RunsNeverStand → BoundIsSame → NeverWaits → BoundedRunsAreTold
bounded_runs_are_told never same waits p plan bound runs lowers free forwards turns alarms exact = report never same waits p plan bound runs lowers free forwards turns alarms exact
