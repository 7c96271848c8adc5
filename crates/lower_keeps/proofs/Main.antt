-- The machine follows the run of main: no call is around it, and it gives 0 where its end is reached.
use Rattle.std.proofs.Common.{◌≡◌, ℕ, suc, ◌*◌, ◌≤◌, List, [], ◌∷◌, length, Option, Some, None, Bool, true, false, refl, sym, ap, ◌∙◌, subst, arith, ℤ, get_or}
use Rattle.std.specs.Prelude.{IsSome, IsSomeAnd, option_map, unwrap_or, slice_get}
use Rattle.std.proofs.lemmas.List.{length-map}
use Rattle.std.proofs.lemmas.List.Quantifiers.{position-Some}
use Rattle.std.proofs.lemmas.Option.{slice_get-get_or}
use Rattle.c_syntax_written.specs.declared.int_type.IntType.TheVariants as ints
use Rattle.c_syntax.specs.declared.program.Plan.{Plan}
use Rattle.c_syntax.specs.Types as types
use Rattle.c_syntax.specs.Types.{CTypeTree}
use Rattle.c_syntax.specs.Program.{TFunctionTree, TProgramTree}
use Rattle.c_layout.specs.MainFunction.{is_main, is_named_main, main_of}
use Rattle.c_layout.specs.Plans.{IsStart}
use Rattle.c_steps.specs.Work.{Item, GivesZero, Finish}
use Rattle.c_steps.specs.States.{State, Next}
use Rattle.c_steps.specs.Runs.{start}
use Rattle.c_steps_laws.specs.Fits.{Fits, Runs}
use Rattle.c_steps_laws.proofs.NeededRuns.{starts_fit, steps_keep_fitting}
use Rattle.c_steps_laws.proofs.Orders.{some_is}
use Rattle.csharp.specs.Trees as code
use Rattle.csharp.specs.Trees.{CsFunctionTree, CsProgramTree}
use Rattle.csharp.specs.States as low
use Rattle.csharp.specs.States.{first, first_value}
use Rattle.csharp.specs.Outcomes.{Way, Outcome, or_stuck}
use Rattle.csharp.specs.Meaning.{bounded_exec, bounded_run}
use Rattle.lower_trees.specs.LowerStmt.{InLoop, lower_stmt}
use Rattle.lower_trees.specs.LowerProgram.{lower, param_stores}
use Rattle.lower_rows.proofs.Steps.{Follows, follows_step}
use Rattle.lower_formed.proofs.Placing as placing
use Rattle.lower_formed.proofs.Placing.{Bodied}
use Rattle.lower_formed.proofs.Rooms.{rows_count}
use Rattle.lower_quiet.proofs.Callees.{base}
use Rattle.lower_runs.proofs.Entering.{HoldAll, inside, entered}
use Rattle.lower_runs.proofs.Called.{EndGoal, left_way, body_of, ended_follows, scope_follows}
use Rattle.lower_stmts_run.proofs.Bodies.{bodies}

-- the function that a plan names is main
main_named : (p : TProgramTree) (f : ℕ) (function : TFunctionTree) → main_of p ≡ Some f → slice_get p.functions f ≡ Some function → is_main p f ≡ true
main_named p f function e found =
    let k = position-Some is_named_main p.functions f function e in
    let here : get_or p.functions f function ≡ function = some_is (sym (slice_get-get_or p.functions f function k.0) ∙ found) in
    ap (λ o. unwrap_or (option_map is_named_main o) false) found ∙ sym (ap is_named_main here) ∙ k.1

module _ (p : TProgramTree) (plan : Plan) (runs : Runs p plan) where
  abbrev pub q : CsProgramTree
  q = lower p plan

  pub start_of : (f : ℕ) (function : TFunctionTree) → f ≡ plan.main → slice_get p.functions f ≡ Some function → IsStart function
  start_of f function e found = subst (λ o. IsSomeAnd o IsStart) found (subst (λ z. IsSomeAnd (slice_get p.functions z) IsStart) (sym e) runs.planned.start)

  some_start : (o : Option TFunctionTree) → slice_get p.functions plan.main ≡ o → IsSomeAnd o IsStart → Bodied p plan.main
  some_start None e h = absurd h
  some_start (Some function) e h = placing.has_body p plan runs plan.main (subst (λ o. IsSomeAnd o (λ x. IsSome x.body)) (sym e) h.body)

  pub main : Bodied p plan.main
  main = some_start (slice_get p.functions plan.main) refl runs.planned.start

  pub is_start : IsStart main.function
  is_start = start_of plan.main main.function refl main.found

  pub named : is_main p plan.main ≡ true
  named = main_named p plan.main main.function runs.planned.main main.found

  -- what a run of main comes to
  abbrev pub at_main : (ℕ → Bool) → ℕ → List ℤ → Outcome
  at_main over n i = bounded_exec over q n (placing.code p plan runs plan.main main) (first q i)

  run_is : (over : ℕ → Bool) (n : ℕ) (i : List ℤ) → bounded_run over q n i ≡ at_main over n i
  run_is over n i = ap (λ o. or_stuck o (λ (x : CsFunctionTree). bounded_exec over q n x.body (first q i))) (placing.low_at p plan runs plan.main main)

  abbrev pub end_work : List Item
  end_work = Finish ∷ []

  -- the machine leaves main by a return alone
  abbrev pub main_way : Way → low.State → Option Next
  main_way k t = left_way (types.Int ints.Int) end_work [] k t

  abbrev pub NoEnd : low.State → State → Type 0
  NoEnd t u = ⊥

  abbrev pub Comes : (ℕ → Bool) → ℕ → List ℤ → Outcome → Type 0
  Comes over n i o = Follows over p (suc n) (start p plan.main i) [] NoEnd main_way o

  enough : (i : List ℤ) → 12 * (lower_stmt p (base p plan runs plan.main main) InLoop main.body).top ≤ length (first q i).temps
  enough i =
      let count = length-map q.temps first_value in
      let all = rows_count (placing.n p plan runs) in
      let high = (placing.rooms p plan runs plan.main main).1 in omega (arith, count, all, high)

  holds : (i : List ℤ) (xs : List ℕ) → xs ≡ [] → HoldAll p (base p plan runs plan.main main) xs [] (first q i)
  holds i xs e = subst (λ z. HoldAll p (base p plan runs plan.main main) z [] (first q i)) (sym e) tt

  comes_to_main : (over : ℕ → Bool) → over 0 ≡ false → (n : ℕ) (i : List ℤ) → Comes over n i (at_main over n i)
  comes_to_main over zero_ok n i =
      let t = first q i in
      let xs = main.function.params in
      let s0 = start p plan.main i in
      let fits0 = starts_fit p plan runs.typed runs.planned runs.bits i in
      let en = entered p plan runs plan.main main None GivesZero end_work [] [] t.memory i (ap (λ ys. length ys) is_start.params) fits0 in
      let s1 = inside p plan.main main None GivesZero end_work [] en.0 i in
      let fits1 : Fits p s1 = steps_keep_fitting p plan runs.typed runs.planned s0 s1 fits0 en.2 in
      let stored = param_stores p (base p plan runs plan.main main) xs (code.more (body_of over p plan runs plan.main main) code.none) in
      let body = scope_follows over p plan runs plan.main main n (bodies over zero_ok p plan runs (suc n) n (omega arith) plan.main main) None GivesZero end_work [] [] t en.0 en.1 (holds i xs is_start.params) (enough i) fits1 in
      let ended = ended_follows over p plan n (is_main p plan.main) (code.Scope xs stored) t s1 [] main.function.result None GivesZero end_work [] (λ e. refl) body in
      follows_step over p n s0 s1 [] NoEnd main_way (at_main over n i) en.2
      (subst (λ ty. Follows over p n s1 [] NoEnd (left_way ty end_work []) (at_main over n i)) is_start.result
      (subst (λ z. Follows over p n s1 [] (EndGoal z None GivesZero end_work []) (left_way main.function.result end_work []) (at_main over n i)) named ended))

  pub comes : (over : ℕ → Bool) → over 0 ≡ false → (n : ℕ) (i : List ℤ) → Comes over n i (bounded_run over q n i)
  comes over zero_ok n i = subst (λ o. Comes over n i o) (sym (run_is over n i)) (comes_to_main over zero_ok n i)
