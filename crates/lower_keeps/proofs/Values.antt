-- The code of an expression tells what the machine does.
use Rattle.std.proofs.Common.{◌≡◌, ℕ, List, ◌∷◌, Option, refl, ◌∙◌}
use Rattle.std.specs.Prelude.{Contains}
use Rattle.std.proofs.lemmas.List.Elements.{All-contains}
use Rattle.c_syntax.specs.declared.program.Plan.{Plan}
use Rattle.c_syntax.specs.GivenType.{given_type}
use Rattle.c_syntax.specs.Program.{TProgramTree}
use Rattle.c_layout.specs.Calls.{calls_of, function_calls}
use Rattle.block_mem.specs.declared.types.Value.{Value}
use Rattle.c_steps.specs.States.{Held, State, state, Next}
use Rattle.c_steps.specs.Work.{Item, Eval}
use Rattle.c_steps_laws.specs.Fits.{Fits, Runs}
use Rattle.c_steps_laws.specs.Wants.{Want, Of, OfStruct, Anything, want_of}
use Rattle.c_steps_laws.proofs.NeededRuns.{steps_keep_fitting, fitting_states_step}
use Rattle.csharp.specs.Meaning.{never, exec}
use Rattle.csharp.specs.Outcomes as outs
use Rattle.csharp.specs.Outcomes.{Outcome, Normal, Leaves, Fails, Stuck, Clash, NoFuel, Over}
use Rattle.csharp.specs.Trees.{CsExprTree}
use Rattle.lower_trees.specs.LowerExpr.{lower_expr}
use Rattle.lower_trees.specs.LowerProgram.{lower}
use Rattle.lower_rows.proofs.Steps.{Leads, LeadsTo, fits_leads}
use Rattle.lower_formed.proofs.Placing as placing
use Rattle.lower_formed.proofs.Placing.{Bodied}
use Rattle.lower_quiet.proofs.Callees.{base}
use Rattle.lower_exprs_run.proofs.Held.{Holds, HeldFollows}
use Rattle.lower_exprs_run.proofs.Sims.{sim_expr}
use Rattle.lower_runs.proofs.Calls.{calls_follow}
use Rattle.lower_stmts_run.proofs.Bodies.{bodies}
use Rattle.lower_keeps.specs.Values.{ComesTo, IsGiven, LoweredValuesTell, StepsAs, TellValues, TellsValue}
use Rattle.lower_keeps.proofs.Ends.{goes_below, moves_steps, never_over}
use Rattle.lower_keeps.proofs.Opened.{values_never_clash}

given : (want : Want) (o : Option Value) (h : Held) → Holds want o h → IsGiven want o h
given (Of ty) o h k = k
given OfStruct o h k = k
given Anything o h k = tt

module _ (p : TProgramTree) (plan : Plan) (runs : Runs p plan) where
  comes_to : (s t : State) → Leads p s t → ComesTo p s t
  comes_to s t (j, m) = (j, moves_steps p plan runs j s t m)

  steps_as : (s : State) (next : Next) → LeadsTo p s next → StepsAs p s next
  steps_as s next (u, l, e) = (u, comes_to s u l, e)

  tells : (n : ℕ) (s0 : State) (w : List Item) (s : List Held) (want : Want) (value : CsExprTree) (o : Outcome) → (o ≡ Clash → ⊥) → Fits p s0 → HeldFollows never p n s0 w s want value o → TellsValue p want value w s s0 n o
  tells n s0 w s want value (Normal t) nc fits (u, l, (h, k, e)) = (h, given want _ h k, let c = comes_to s0 u l in (c.0, c.1 ∙ e))
  tells n s0 w s want value (Leaves k t) nc fits x = x
  tells n s0 w s want value (Fails c a k o m) nc fits (u, l, g, mem, chain) = (u, comes_to s0 u l, g, mem, chain)
  tells n s0 w s want value outs.Waiting nc fits x = steps_as s0 _ x
  tells n s0 w s want value outs.Stopped nc fits x = steps_as s0 _ x
  tells n s0 w s want value Stuck nc fits (u, l, e) =
      fitting_states_step p plan runs.typed runs.planned u (fits_leads p (λ x y h g. steps_keep_fitting p plan runs.typed runs.planned x y h g) s0 u l fits) e
  tells n s0 w s want value Clash nc fits x = nc refl
  tells n s0 w s want value NoFuel nc fits x = λ k lt. goes_below p plan runs k n s0 lt x
  tells n s0 w s want value Over nc fits (u, l, x) = never_over u.work x

  values_tell : (f : ℕ) (b : Bodied p f) → TellValues p (lower p plan) f (base p plan runs f b)
  values_tell f b e live wanted d typed made le w s l n room fits =
      let calls = calls_follow never p plan runs f b n (λ m lt g c called. bodies never refl p plan runs n m lt g c) in
      tells n (state (Eval e ∷ w) s l.memory l.inputs) w s (want_of (given_type e)) (lower_expr p d e).value.value (exec (lower p plan) n (lower_expr p d e).value.before l)
      (values_never_clash p plan runs f e d made w s l fits n) fits
      ((sim_expr never p plan runs n f b calls e live wanted d typed (λ k m. (k.pos, All-contains (Contains (function_calls p f)) (calls_of e) k made m)) le).value w s l room fits)

pub lowered_values_tell : LoweredValuesTell
lowered_values_tell p plan runs f function body found has =
    let b : Bodied p f = record { function = function; body = body; found = found; has = has } in
    (base p plan runs f b, placing.low_at p plan runs f b, values_tell p plan runs f b)
