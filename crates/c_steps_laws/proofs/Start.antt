-- The start of a run of a well typed program.
use Rattle.std.proofs.Common.{◌≡◌, ◌<◌, inl, ℕ, ℤ, true, false, List, [], ◌∷◌, map, length, Option, Some, None, refl, sym, ap, ◌∙◌, subst}
use Rattle.std.specs.Prelude.{Contains, IsSome, IsSomeAnd, IsTrue, slice_get}
use Rattle.std.proofs.lemmas.List.Elements.{All-contains}
use Rattle.std.proofs.lemmas.Option.{slice_get_within}
use Rattle.c_syntax_written.specs.declared.int_type.IntType.TheVariants as ints
use Rattle.c_syntax.specs.declared.program.Plan.{Plan}
use Rattle.c_syntax.specs.Types.{Int, ObjectTree}
use Rattle.c_syntax.specs.TypedStmt.{TStmtTree}
use Rattle.c_syntax.specs.Program.{TFunctionTree, TProgramTree}
use Rattle.c_layout.specs.Calls.{PlacedCall, function_calls, IsChain, chain_end}
use Rattle.c_layout.specs.Plans.{HasBody, IsStart}
use Rattle.c_layout.specs.WellTyped.{IsAutomaticObject, listed_by, listed}
use Rattle.c_objects.proofs.Starting.{start_is_kept, start_keeps_objects, start_placed}
use Rattle.c_objects.proofs.Listed.{by_sum, contains_flat}
use Rattle.c_objects.proofs.Starts.{start_only}
use Rattle.c_steps.specs.Work.{Enter, GivesZero, Finish}
use Rattle.c_steps.specs.Runs.{start, after}
use Rattle.c_layout.specs.TypedNodes.{object_type}
use Rattle.c_steps_laws.specs.Takes as rules
use Rattle.c_steps_laws.specs.Takes.{args_on, param_wants, Takes}
use Rattle.c_steps_laws.specs.Wants.{want_of, bottom}
use Rattle.c_steps_laws.specs.Opens.{Use, Object, Function, OpensCall}
use Rattle.c_steps_laws.specs.Fits.{IsReady, Fits, Runs, RunsFit, RunsNeverStand}
use Rattle.c_steps_laws.proofs.Runs.{is_runnable}
use Rattle.c_steps_laws.proofs.Steps.{steps_keep, fits_goes}

-- ---- what main uses

not_static : (o : Option ObjectTree) → IsSomeAnd o (λ x. x.is_static ≡ false) → IsSomeAnd o (λ x. IsTrue x.is_static) → ⊥
not_static None h g = h
not_static (Some x) h g = let no : true ≡ false = sym g ∙ h in absurd (cc)

object_there : (o : Option ObjectTree) (objects : List ObjectTree) (y : ℕ) → slice_get objects y ≡ o → IsSomeAnd o (λ x. x.is_static ≡ false) → y < length objects
object_there None objects y e h = absurd h
object_there (Some x) objects y e h = slice_get_within objects y x e

module _ (p : TProgramTree) (plan : Plan) (runs : Runs p plan) where
  automatic_case : (g y : ℕ) (o : Option TFunctionTree) → slice_get p.functions g ≡ o → IsSomeAnd o (λ function. Contains (listed_by function) y) → IsAutomaticObject p y
  automatic_case g y None e c = absurd c
  automatic_case g y (Some function) e c =
      All-contains (IsAutomaticObject p) (listed p) y runs.typed.listed_objects (contains_flat listed_by y p.functions g function e c)

  -- each function that calls from one with a body lead to has a body
  lead_body : (f : ℕ) (chain : List PlacedCall) → IsChain p f chain → HasBody p f → HasBody p (chain_end f chain)
  lead_body f [] t h = h
  lead_body f (call ∷ rest) (made, t) h =
      lead_body call.callee rest t (All-contains (λ c. HasBody p c.callee) (function_calls p f) call (runs.planned.called_bodies f) made)

  start_case : (o : Option TFunctionTree) → IsSomeAnd o IsStart → IsSomeAnd o (λ function. IsSome function.body)
  start_case None h = h
  start_case (Some function) h = h.body

  main_uses : (u : Use) → OpensCall p plan.main u → IsReady p (Finish ∷ []) u
  main_uses (Object y) (g, leads, there) =
      let automatic = automatic_case g y (slice_get p.functions g) refl there in (
        object_there (slice_get p.objects y) p.objects y refl automatic,
        (λ o. by_sum o (λ s. not_static (slice_get p.objects y) automatic s) (λ c. c)),
      )
  main_uses (Function g) leads = subst (λ z. HasBody p z) leads.ends (lead_body plan.main leads.chain leads.calls (start_case (slice_get p.functions plan.main) runs.planned.start))

  -- ---- the start

  record IsMain : Type 0 where
    function : TFunctionTree
    body : TStmtTree
    found : slice_get p.functions plan.main ≡ Some function
    is : function.body ≡ Some body
    params : function.params ≡ []
    result : function.result ≡ Int ints.Int

  main_body : (function : TFunctionTree) (o : Option TStmtTree) → slice_get p.functions plan.main ≡ Some function → function.body ≡ o → IsSome o → IsStart function → IsMain
  main_body function None found e h start_of = absurd (cc)
  main_body function (Some body) found e h start_of =
      record { function = function; body = body; found = found; is = e; params = start_of.params; result = start_of.result }

  main_case : (o : Option TFunctionTree) → slice_get p.functions plan.main ≡ o → IsSomeAnd o IsStart → IsMain
  main_case None e h = absurd h
  main_case (Some function) e h = main_body function function.body e refl h.body h

  main_takes : (main : IsMain) → Takes p (Int ints.Int) (Enter None plan.main GivesZero ∷ Finish ∷ []) []
  main_takes main =
      subst (λ ws. Takes p (Int ints.Int) (Enter None plan.main GivesZero ∷ Finish ∷ []) (args_on ws [])) (ap (λ xs. map (λ x. want_of (object_type p x)) xs) main.params)
      (rules.enter main.found main.is (subst (λ r. rules.GivesAtEnd r None GivesZero (want_of (Int ints.Int))) (sym main.result) rules.zero) rules.finish)

  pub fits_start : (inputs : List ℤ) → Fits p (start p plan.main inputs)
  fits_start inputs =
      let main = main_case (slice_get p.functions plan.main) refl runs.planned.start in
      record {
        result = Int ints.Int;
        wants = [];
        takes = main_takes main;
        stacked = bottom;
        parted = (main_uses, tt, ((λ u o. absurd o), tt, tt));
        live = ((λ y o. start_placed p runs.typed runs.bits y (by_sum o (λ s. s) (λ c. absurd c))), (λ y h. inl (start_only p.objects p.initial y h)));
        kept = start_keeps_objects p runs.typed runs.bits;
        whole = λ b. (start_is_kept p runs.typed runs.bits b).whole;
      }

pub runs_fit : RunsFit
runs_fit p plan runs inputs n = steps_keep p (is_runnable p plan runs.typed runs.planned) n (start p plan.main inputs) (fits_start p plan runs inputs)

pub runs_never_stand : RunsNeverStand
runs_never_stand p plan runs inputs n = fits_goes p (is_runnable p plan runs.typed runs.planned) (after p plan.main inputs n) (runs_fit p plan runs inputs n)
