-- The machine follows the body of each function, by the fuel: calls in it are followed where bodies are followed with less.
use Rattle.std.proofs.Common.{◌≡◌, ℕ, zero, suc, ◌<◌, ◌≤◌, List, [], ◌∷◌, Option, Some, None, Bool, false, sym, subst, arith}
use Rattle.std.specs.Prelude.{Contains}
use Rattle.c_syntax_written.specs.declared.place.Pos.{Pos}
use Rattle.c_syntax.specs.declared.program.Plan.{Plan}
use Rattle.c_syntax.specs.TypedStmt as stmts
use Rattle.c_syntax.specs.Program.{TProgramTree}
use Rattle.c_layout.specs.RowTypes.{is_void}
use Rattle.c_steps.specs.Work.{Item, AtEnd, Close, Reach}
use Rattle.c_steps.specs.States.{Held, State, Stands}
use Rattle.c_steps.specs.Runs.{calls_in}
use Rattle.c_steps_laws.specs.Fits.{Fits, Runs}
use Rattle.c_steps_laws.proofs.NeededRuns.{steps_keep_fitting, fitting_states_step}
use Rattle.c_steps_laws.proofs.Orders as orders
use Rattle.csharp.specs.States as low
use Rattle.csharp.specs.Outcomes.{Way, ByExit, ByGoto, ByReturn}
use Rattle.csharp.specs.Meaning.{bounded_exec}
use Rattle.lower_trees.specs.LowerStmt.{InLoop, lower_stmt}
use Rattle.lower_trees.specs.LowerProgram.{lower}
use Rattle.lower_rows.proofs.Steps.{LeadsTo, ToSome, none, follows_map, fits_leads}
use Rattle.lower_rows.proofs.Rows.{RestGoal}
use Rattle.lower_formed.proofs.Placing.{Bodied, run_body}
use Rattle.lower_quiet.proofs.Callees.{base}
use Rattle.lower_exprs_run.proofs.Sims.{CallsFollow}
use Rattle.lower_runs.proofs.Entering.{inside}
use Rattle.lower_runs.proofs.Called.{body_way, BodyFollows}
use Rattle.lower_runs.proofs.Called as called
use Rattle.lower_runs.proofs.Calls.{calls_follow}
use Rattle.lower_stmts_run.proofs.Ways.{way_in}
use Rattle.lower_stmts_run.proofs.Items.{same_le}
use Rattle.lower_stmts_run.proofs.Stmts.{stmt_sim}

module _ (over : ℕ → Bool) (start : over 0 ≡ false) (p : TProgramTree) (plan : Plan) (runs : Runs p plan) where
  -- no state stands that fits
  no_stand : (s : State) → Fits p s → LeadsTo p s Stands → ⊥
  no_stand s fits (u, leads, e) =
      fitting_states_step p plan runs.typed runs.planned u (fits_leads p (λ x y h g. steps_keep_fitting p plan runs.typed runs.planned x y h g) s u leads fits) e

  -- a body is left by a return alone
  body_out : (g : ℕ) (c : Bodied p g) (at : Option Pos) (end : AtEnd) (w : List Item) (s : List Held) (s0 : State) → Fits p s0 → (k : Way) (t : low.State)
      → ToSome p s0 (way_in (is_void c.function.result) InLoop (Close c.function.params stmts.none ∷ Reach at end ∷ w) s k t) → ToSome p s0 (body_way c.function.result c.function.params w s k t)
  body_out g c at end w s s0 fits (ByReturn (Some v)) t h = h
  body_out g c at end w s s0 fits (ByReturn None) t h = h
  body_out g c at end w s s0 fits (ByExit zero) t h = absurd (no_stand s0 fits h)
  body_out g c at end w s s0 fits (ByExit (suc zero)) t h = absurd (no_stand s0 fits h)
  body_out g c at end w s s0 fits (ByExit (suc (suc j))) t h = absurd h
  body_out g c at end w s s0 fits (ByGoto l) t h = absurd (no_stand s0 fits h)

  body_follows : (g : ℕ) (c : Bodied p g) (n : ℕ) → ((m : ℕ) → m ≤ n → CallsFollow over p plan runs m g c) → BodyFollows over p plan runs g c n
  body_follows g c n calls at end w s t room fits =
      let rows = (lower_stmt p (base p plan runs g c) InLoop c.body).top in
      let here = orders.body_of p g c.function c.body c.found c.has in
      let s0 = inside p g c at end w s t.memory t.inputs in
      let behind = Close c.function.params stmts.none ∷ Reach at end ∷ w in
      follows_map over p n s0 (calls_in (Reach at end ∷ w)) (RestGoal behind s) (RestGoal behind s) (way_in (is_void c.function.result) InLoop behind s) (body_way c.function.result c.function.params w s)
      (bounded_exec over (lower p plan) n (called.body_of over p plan runs g c) t)
      (stmt_sim over start p plan runs g c rows c.body n calls InLoop c.function.params [] false false false (run_body p plan runs g c).typed.typed
      (λ k m. (k.pos, subst (λ ks. Contains ks k) (sym here) m)) (same_le rows) behind s t room fits)
      (λ r u leads e. (u, none p u, e)) (λ k r h. body_out g c at end w s s0 fits k r h)

  pub bodies : (n m : ℕ) → m < n → (g : ℕ) (c : Bodied p g) → BodyFollows over p plan runs g c m
  bodies zero m lt g c = absurd (omega (arith, lt))
  bodies (suc n) m lt g c = body_follows g c m (λ j le. calls_follow over p plan runs g c j (λ i less h d made. bodies n i (omega (arith, lt, le, less)) h d))
