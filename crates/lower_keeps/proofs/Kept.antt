-- What a lowering keeps of each run.
use Rattle.std.proofs.Common.{◌≡◌, inl, inr, ℕ, ◌≤◌, List, [], ◌∷◌, Some, None, Bool, true, false, refl, ap, ◌∙◌, subst, ℤ, arith}
use Rattle.std.specs.Prelude.{All, nat_lt}
use Rattle.std.proofs.lemmas.Bool.{le-ltb, ltb-true}
use Rattle.std.proofs.lemmas.List.Elements.{All-head}
use Rattle.c_syntax_written.specs.declared.int_type.IntType.TheVariants as ints
use Rattle.c_syntax_written.specs.declared.place.Pos.{Pos}
use Rattle.c_syntax.specs.declared.alarm.WrongKind.{WrongKind}
use Rattle.c_syntax.specs.declared.program.Plan.{Plan}
use Rattle.c_syntax.specs.Operand.{Operand}
use Rattle.c_syntax.specs.Program.{TProgramTree}
use Rattle.block_mem.specs.declared.types.Value.TheVariants as values
use Rattle.c_values.specs.Places.{ObjectMemory}
use Rattle.c_steps.specs.Bounds.{IsWithin, TurnsWithin}
use Rattle.c_steps.specs.Laws.{IsLast}
use Rattle.c_steps.specs.Work.{Item, Begin, Turn, Again}
use Rattle.c_steps.specs.States.{State, state, Next, Ended, Wrong, held}
use Rattle.c_steps.specs.States as machine
use Rattle.c_steps.specs.Steps.{step}
use Rattle.c_steps.specs.Runs.{start, after, chain_of, GoesWrong}
use Rattle.c_steps_laws.specs.Fits.{Runs}
use Rattle.csharp.specs.States as low
use Rattle.csharp.specs.Outcomes as outs
use Rattle.csharp.specs.Outcomes.{ByExit, ByGoto, ByReturn, Outcome, Normal, Leaves, Fails, Stuck, Clash, NoFuel, Over}
use Rattle.csharp.specs.Meaning.{beyond, bounded_run, never, run}
use Rattle.csharp_laws.specs.Enough.{call_need, need}
use Rattle.csharp_laws.proofs.MainRuns.{bounded_run_is_same, runs_have_enough}
use Rattle.csharp_laws.proofs.Separated.{formed_runs_never_clash}
use Rattle.lower_rows.proofs.Steps.{Leads, IsOver, leads_on}
use Rattle.lower_trees.specs.Correct.{Finishes, Keeps, LoweringIsRight}
use Rattle.lower_formed.proofs.Placing as placing
use Rattle.lower_formed.proofs.Whole.{lowered_is_formed, lowered_is_made, lowered_leads_forward}
use Rattle.lower_keeps.specs.Laws.{BoundedRunsFinish, LoweringKeepsRuns}
use Rattle.lower_keeps.proofs.Main.{Comes, comes, end_work, main, q}
use Rattle.lower_keeps.proofs.Ends.{IsEnd, Says, is_last, moves_steps, no_stand, returned_at, said}

none_over : (bound : ℕ) → beyond bound 0 ≡ false
none_over bound = le-ltb bound 0 (omega arith)

over_count : (bound k : ℕ) → k ≤ bound → nat_lt bound k ≡ true → ⊥
over_count bound k h x = let a = ltb-true bound k x in omega (arith, a, h)

-- a loop item in front of a work whose loops are within the bound is within it
over_work : (bound : ℕ) (w : List Item) → All (IsWithin bound) w → IsOver (beyond bound) w → ⊥
over_work bound (Begin k loop ∷ w) h x = over_count bound k (All-head (IsWithin bound) (Begin k loop) w h) x
over_work bound (Turn k loop ∷ w) h x = over_count bound k (All-head (IsWithin bound) (Turn k loop) w h) x
over_work bound (Again k loop ∷ w) h x = over_count bound k (All-head (IsWithin bound) (Again k loop) w h) x
over_work bound w h x = x

module _ (p : TProgramTree) (plan : Plan) (runs : Runs p plan) where
  said_wrong : (s : State) (a : Pos) (k : WrongKind) (x : Operand) (o : Outcome) → Says p plan runs s (Wrong a k x) o → o ≡ Fails (chain_of s.work) a k x s.memory
  said_wrong s a k x (Leaves (ByReturn (Some v)) t) (z, is, e) = absurd (cc)
  said_wrong s a k x (Leaves (ByReturn None) t) e = absurd e
  said_wrong s a k x (Leaves (ByExit j) t) e = absurd e
  said_wrong s a k x (Leaves (ByGoto j) t) e = absurd e
  said_wrong s a k x (Fails c b j y m) (e, g, h) = cc
  said_wrong s a k x outs.Waiting e = absurd (cc)
  said_wrong s a k x outs.Stopped e = absurd (cc)
  said_wrong s a k x o e = absurd e

  said_waits : (s : State) (o : Outcome) → Says p plan runs s machine.Waiting o → o ≡ outs.Waiting
  said_waits s (Leaves (ByReturn (Some v)) t) (z, is, e) = absurd (cc)
  said_waits s (Leaves (ByReturn None) t) e = absurd e
  said_waits s (Leaves (ByExit j) t) e = absurd e
  said_waits s (Leaves (ByGoto j) t) e = absurd e
  said_waits s (Fails c b j y m) (e, g, h) = absurd (cc)
  said_waits s outs.Waiting e = refl
  said_waits s outs.Stopped e = absurd (cc)
  said_waits s o e = absurd e

  said_stops : (s : State) (o : Outcome) → Says p plan runs s machine.Stopped o → o ≡ outs.Stopped
  said_stops s (Leaves (ByReturn (Some v)) t) (z, is, e) = absurd (cc)
  said_stops s (Leaves (ByReturn None) t) e = absurd e
  said_stops s (Leaves (ByExit j) t) e = absurd e
  said_stops s (Leaves (ByGoto j) t) e = absurd e
  said_stops s (Fails c b j y m) (e, g, h) = absurd (cc)
  said_stops s outs.Waiting e = absurd (cc)
  said_stops s outs.Stopped e = refl
  said_stops s o e = absurd e

  said_ended : (s : State) (v : ℤ) (n : ℕ) (i : List ℤ) (o : Outcome) → run (q p plan runs) n i ≡ o → Says p plan runs s (Ended v) o
      → (fuel : ℕ) × (t : low.State) × (run (q p plan runs) fuel i ≡ Leaves (ByReturn (Some (values.Int ints.Int v))) t)
  said_ended s v n i (Leaves (ByReturn (Some u)) t) r (z, is, e) = (n, t, r ∙ ap (λ y. Leaves (ByReturn (Some y)) t) (is ∙ ap (λ y. values.Int ints.Int y) (same z e))) where
    same : (z : ℤ) → Ended v ≡ Ended z → z ≡ v
    same z e = cc
  said_ended s v n i (Leaves (ByReturn None) t) r e = absurd e
  said_ended s v n i (Leaves (ByExit j) t) r e = absurd e
  said_ended s v n i (Leaves (ByGoto j) t) r e = absurd e
  said_ended s v n i (Fails c b j y m) r (e, g, h) = absurd (cc)
  said_ended s v n i outs.Waiting r e = absurd (cc)
  said_ended s v n i outs.Stopped r e = absurd (cc)
  said_ended s v n i o r e = absurd e

  misses : (i : List ℤ) (s : State) (chain : List Pos) (at : Pos) (kind : WrongKind) (operand : Operand) (n : ℕ) → after p plan.main i n ≡ s → step p s ≡ Wrong at kind operand → chain_of s.work ≡ chain
      → run (q p plan runs) n i ≡ Fails chain at kind operand s.memory
  misses i s chain at kind operand n is wrong called =
      said_wrong (after p plan.main i n) at kind operand (run (q p plan runs) n i) (said p plan runs n i (Wrong at kind operand) tt (ap (λ z. step p z) is ∙ wrong))
      ∙ ap (λ (z : State). Fails (chain_of z.work) at kind operand z.memory) is ∙ ap (λ z. Fails z at kind operand s.memory) called

  -- a failed check is a run that goes wrong
  fails_wrong : (n : ℕ) (i : List ℤ) (chain : List Pos) (at : Pos) (kind : WrongKind) (operand : Operand) (m : ObjectMemory) (o : Outcome) → o ≡ Fails chain at kind operand m → Comes p plan runs never n i o
      → (s : State) × (s.memory ≡ m) × GoesWrong p plan.main i s chain at kind operand
  fails_wrong n i chain at kind operand m o e h =
      let (u, (j, l), g, mem, y) : (u : State) × Leads p (start p plan.main i) u × (step p u ≡ Wrong at kind operand) × (u.memory ≡ m) × (chain_of u.work ≡ chain) = subst (Comes p plan runs never n i) e h in
      (u, mem, record { reached = (j, moves_steps p plan runs j (start p plan.main i) u l); wrong = g; called = y })

  -- where the machine's loops stay within a bound, those of the lowered run do
  within : (bound n : ℕ) (i : List ℤ) (o : Outcome) → TurnsWithin p plan.main i bound → Comes p plan runs (beyond bound) n i o → o ≡ Over → ⊥
  within bound n i o turns h e =
      let (u, (j, l), x) : (u : State) × Leads p (start p plan.main i) u × IsOver (beyond bound) u.work = subst (Comes p plan runs (beyond bound) n i) e h in
      over_work bound u.work (subst (λ (z : State). All (IsWithin bound) z.work) (moves_steps p plan runs j (start p plan.main i) u l) (turns j)) x

  pub keeps : (i : List ℤ) → Keeps p plan.main (q p plan runs) i
  keeps i = record {
    misses_none = λ s chain at kind operand wrong. record { fuel = wrong.reached.0; fails = misses i s chain at kind operand wrong.reached.0 wrong.reached.1 wrong.wrong wrong.called };
    fails_alone = λ chain at kind operand m failed. fails_wrong failed.fuel i chain at kind operand m (run (q p plan runs) failed.fuel i) failed.fails (comes p plan runs never refl failed.fuel i);
    ends = λ n v e. said_ended (after p plan.main i n) v n i (run (q p plan runs) n i) refl (said p plan runs n i (Ended v) tt e);
    waits = λ n e. (n, said_waits (after p plan.main i n) (run (q p plan runs) n i) (said p plan runs n i machine.Waiting tt e));
    stops = λ n e. (n, said_stops (after p plan.main i n) (run (q p plan runs) n i) (said p plan runs n i machine.Stopped tt e));
    turns = λ bound turns fuel e. within bound fuel i (bounded_run (beyond bound) (q p plan runs) fuel i) turns (comes p plan runs (beyond bound) (none_over bound) fuel i) e;
  }

  -- ---- runs that come to an end

  abbrev EndsSomewhere : List ℤ → Type 0
  EndsSomewhere i = (n : ℕ) × IsLast p (after p plan.main i n)

  at_end : (i : List ℤ) (u : State) (next : Next) → IsEnd next → Leads p (start p plan.main i) u → step p u ≡ next → EndsSomewhere i
  at_end i u next h (j, m) e = (j, is_last p plan runs (after p plan.main i j) next h (ap (λ z. step p z) (moves_steps p plan runs j (start p plan.main i) u m) ∙ e))

  finished : (over : ℕ → Bool) (n : ℕ) (i : List ℤ) (o : Outcome) → (o ≡ Clash → ⊥) → (o ≡ Over → ⊥) → (o ≡ NoFuel → ⊥) → Comes p plan runs over n i o → EndsSomewhere i
  finished over n i (Normal t) nc nv nf (u, l, x) = absurd x
  finished over n i (Leaves (ByExit k) t) nc nv nf x = absurd x
  finished over n i (Leaves (ByGoto k) t) nc nv nf x = absurd x
  finished over n i (Leaves (ByReturn None) t) nc nv nf x = absurd x
  finished over n i (Leaves (ByReturn (Some v)) t) nc nv nf x =
      let u = state (end_work p plan runs) (held v ∷ []) t.memory t.inputs in
      let leads = leads_on p (start p plan.main i) u x in
      let k = returned_at p plan runs i t.inputs v t.memory leads in
      at_end i u (Ended k.0) tt leads k.2
  finished over n i (Fails c a k o m) nc nv nf (u, l, g, y, z) = at_end i u (Wrong a k o) tt l g
  finished over n i outs.Waiting nc nv nf (u, l, g) = at_end i u machine.Waiting tt l g
  finished over n i outs.Stopped nc nv nf (u, l, g) = at_end i u machine.Stopped tt l g
  finished over n i Stuck nc nv nf (u, l, g) = absurd (no_stand p plan runs i u l g)
  finished over n i Clash nc nv nf x = absurd (nc refl)
  finished over n i NoFuel nc nv nf x = absurd (nf refl)
  finished over n i Over nc nv nf x = absurd (nv refl)

  never_clash : (over : ℕ → Bool) (n : ℕ) (i : List ℤ) → (bounded_run over (q p plan runs) n i ≡ Over → ⊥) → bounded_run over (q p plan runs) n i ≡ Clash → ⊥
  never_clash over n i nv e = elim (bounded_run_is_same over (q p plan runs) n i) [
    | inl x ↦ nv x
    | inr same ↦ formed_runs_never_clash (q p plan runs) n i (lowered_is_formed p plan runs) (same ∙ e)
  ]

  pub finishes : Finishes p plan.main
  finishes bound i forward turns =
      let formed = lowered_is_formed p plan runs in
      let n = need bound (call_need bound (q p plan runs) (formed.calls.rank plan.main)) (placing.code p plan runs plan.main (main p plan runs)) in
      let o = bounded_run (beyond bound) (q p plan runs) n i in
      let come = comes p plan runs (beyond bound) (none_over bound) n i in
      let nv = within bound n i o turns come in
      finished (beyond bound) n i o (never_clash (beyond bound) n i nv) nv
      (runs_have_enough bound (q p plan runs) formed.calls (lowered_leads_forward p plan runs forward) _ (placing.low_at p plan runs plan.main (main p plan runs)) n i (same_le n)) come where
        same_le : (k : ℕ) → k ≤ k
        same_le k = omega arith

pub lowering_keeps_runs : LoweringKeepsRuns
lowering_keeps_runs p plan runs i = keeps p plan runs i

pub bounded_runs_finish : BoundedRunsFinish
bounded_runs_finish p plan runs = finishes p plan runs

pub lowering_is_right : LoweringIsRight
lowering_is_right p plan runs = record {
  formed = lowered_is_formed p plan runs;
  structs = refl;
  objects = refl;
  made = lowered_is_made p plan runs;
  forward = lowered_leads_forward p plan runs;
  keeps = keeps p plan runs;
  finishes = finishes p plan runs;
}
