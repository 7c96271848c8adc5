-- The states of a run of a well typed program with its plan.
use Rattle.std.proofs.Common.{◌≡◌, ◌≤◌, ℕ, true, [], ◌++◌, Option, Some, None, refl, sym, ap, ◌∙◌, subst, arith}
use Rattle.std.specs.Prelude.{Contains, IsSomeAnd, IfSome, slice_get, unwrap_or, option_map}
use Rattle.std.proofs.lemmas.Bool.{cases_eq}
use Rattle.std.proofs.lemmas.List.Elements.{Contains-append_left, Contains-append_right}
use Rattle.c_syntax_written.specs.declared.int_type.IntType.TheVariants as ints
use Rattle.c_syntax.specs.declared.program.Plan.{Plan}
use Rattle.c_syntax.specs.Types.{Int}
use Rattle.c_syntax.specs.TypedStmt.{TStmtTree}
use Rattle.c_syntax.specs.Program.{TFunctionTree, TProgramTree}
use Rattle.c_layout.specs.Calls.{PlacedCall, function_calls, stmt_calls}
use Rattle.c_layout.specs.Jumps.{GotosStay, listed_of}
use Rattle.c_layout.specs.MainFunction.{is_main}
use Rattle.c_layout.specs.Plans.{IsStart, IsPlanFor}
use Rattle.c_layout.specs.WellTyped.{IsWellTyped, IsTypedObject, IsTypedFunction, IsTypedBody, listed_by}
use Rattle.c_layout.proofs.Alignments.{parts_aligned}
use Rattle.c_layout.proofs.Mains.{main_first}
use Rattle.c_layout.proofs.Parts.{inside}
use Rattle.c_objects.specs.Lifetimes.{AreDistinct}
use Rattle.c_objects.proofs.Listed.{by_sum, distinct, listed_times, part_times, times, times_append, two_times}
use Rattle.c_steps_laws.specs.Opens.{Use, Object, Function, Lists, OpensStmt, OpensCall, Leads}
use Rattle.c_steps_laws.proofs.Blocks.{IsSparse, stmt_uses, apart_stmt}
use Rattle.c_steps_laws.proofs.Calls.{AreCallable}
use Rattle.c_steps_laws.proofs.Functions.{IsBody}
use Rattle.c_steps_laws.proofs.Initials.{AreFillable}
use Rattle.c_steps_laws.proofs.Orders.{some_is, body_of, no_return, lead_here, use_on, listed_at_most_once}
use Rattle.c_steps_laws.proofs.Sizes.{all_at, are_sized}
use Rattle.c_steps_laws.proofs.Steps.{IsRunnable}

-- ---- bodies

-- what stands in a function's list
own_list : (function : TFunctionTree) (body : TStmtTree) → function.body ≡ Some body → listed_by function ≡ function.params ++ listed_of body
own_list function body e = ap (λ o. function.params ++ unwrap_or (option_map listed_of o) []) e

module _ (p : TProgramTree) (w : IsWellTyped p) where
  -- a function lists each object once
  own_once : (f : ℕ) (function : TFunctionTree) → slice_get p.functions f ≡ Some function → (y : ℕ) → times y (listed_by function) ≤ 1
  own_once f function found y =
      let part = part_times listed_by y p.functions f function found in let all = listed_at_most_once p w y in omega (arith, part, all)

  pub typed_at : (f : ℕ) (function : TFunctionTree) → slice_get p.functions f ≡ Some function → IsTypedFunction p function
  typed_at f function found = all_at (IsTypedFunction p) p.functions f function w.functions found

  -- its parameters are distinct, and it lists them
  pub params_distinct : (f : ℕ) (function : TFunctionTree) → slice_get p.functions f ≡ Some function → AreDistinct function.params
  params_distinct f function found = distinct function.params (λ y.
      let own = own_once f function found y in let sum = times_append y function.params (unwrap_or (option_map listed_of function.body) []) in omega (arith, own, sum))

  listed_here : (f : ℕ) (function : TFunctionTree) → slice_get p.functions f ≡ Some function → (y : ℕ) → Contains (listed_by function) y → OpensCall p f (Object y)
  listed_here f function found y c = (f, lead_here p f, subst (λ o. IsSomeAnd o (λ other. Contains (listed_by other) y)) (sym found) c)

  pub params_listed : (f : ℕ) (function : TFunctionTree) → slice_get p.functions f ≡ Some function → (y : ℕ) → Contains function.params y
      → OpensCall p f (Object y)
  params_listed f function found y c =
      listed_here f function found y (Contains-append_left function.params (unwrap_or (option_map listed_of function.body) []) y c)

  pub are_fillable : AreFillable p
  are_fillable = record {
    inside = λ whole part offset size at is. inside p.structs w.structs.laid_out size at is;
    aligned = parts_aligned p.structs w.structs.laid_out w.structs.founded;
    sizes = λ x object found. (all_at (IsTypedObject p.structs) p.objects x object w.objects found).size;
  }

module _ (p : TProgramTree) (plan : Plan) (w : IsWellTyped p) (ok : IsPlanFor p plan) where
  away_other : (f g : ℕ) (function other : TFunctionTree) → slice_get p.functions f ≡ Some function → slice_get p.functions g ≡ Some other → (f ≡ g → ⊥) → (y : ℕ)
      → Contains (listed_by function) y → Contains (listed_by other) y → ⊥
  away_other f g function other found there n y a b =
      let both = two_times listed_by y p.functions f g function other n found there in
      let all = listed_at_most_once p w y in
      let first = listed_times y (listed_by function) a in let second = listed_times y (listed_by other) b in omega (arith, both, all, first, second)

  away_case : (f : ℕ) (function : TFunctionTree) → slice_get p.functions f ≡ Some function → (call : PlacedCall) → Contains (function_calls p f) call → (y g : ℕ)
      → Leads p call.callee g → Contains (listed_by function) y → (o : Option TFunctionTree) → slice_get p.functions g ≡ o
      → IsSomeAnd o (λ other. Contains (listed_by other) y) → ⊥
  away_case f function found call made y g leads here None e c = c
  away_case f function found call made y g leads here (Some other) e c =
      by_sum (cases_eq f g) (λ same. no_return p plan ok f call made (subst (λ z. Leads p call.callee z) (sym same) leads))
      (λ n. away_other f g function other found e n y here c)

  -- what a call brings to life is not listed by the function that makes it
  away : (f : ℕ) (function : TFunctionTree) → slice_get p.functions f ≡ Some function → (call : PlacedCall) → Contains (function_calls p f) call → (y : ℕ)
      → OpensCall p call.callee (Object y) → Contains (listed_by function) y → ⊥
  away f function found call made y (g, leads, there) here = away_case f function found call made y g leads here (slice_get p.functions g) refl there

  sparse_body : (f : ℕ) (function : TFunctionTree) (body : TStmtTree) → slice_get p.functions f ≡ Some function → function.body ≡ Some body
      → IsSparse p (listed_of body) (stmt_calls body)
  sparse_body f function body found is =
      let list = own_list function body is in
      record {
        once = λ y.
            let own = own_once p w f function found y in
            let sum = times_append y function.params (listed_of body) in
            let same : times y (listed_by function) ≡ times y (function.params ++ listed_of body) = ap (λ l. times y l) list in omega (arith, own, sum, same);
        away = λ call made y o c.
            away f function found call (subst (λ l. Contains l call) (sym (body_of p f function body found is)) made) y o
            (subst (λ l. Contains l y) (sym list) (Contains-append_right function.params (listed_of body) y c));
      }

  uses_here : (f : ℕ) (function : TFunctionTree) (body : TStmtTree) → slice_get p.functions f ≡ Some function → function.body ≡ Some body → (u : Use)
      → Lists (listed_of body) u → OpensCall p f u
  uses_here f function body found is (Object y) c =
      listed_here p w f function found y (subst (λ l. Contains l y) (sym (own_list function body is)) (Contains-append_right function.params (listed_of body) y c))
  uses_here f function body found is (Function g) c = absurd c

  body_opens : (f : ℕ) (function : TFunctionTree) (body : TStmtTree) → slice_get p.functions f ≡ Some function → function.body ≡ Some body → (u : Use)
      → OpensStmt (OpensCall p) body u → OpensCall p f u
  body_opens f function body found is u o =
      by_sum (stmt_uses p u body o) (λ c. uses_here f function body found is u c)
      (λ c. use_on p f c.call u (subst (λ l. Contains l c.call) (sym (body_of p f function body found is)) c.made) c.used)

  params_missed : (f : ℕ) (function : TFunctionTree) (body : TStmtTree) → slice_get p.functions f ≡ Some function → function.body ≡ Some body → (y : ℕ)
      → Contains function.params y → OpensStmt (OpensCall p) body (Object y) → ⊥
  params_missed f function body found is y c o =
      let list = own_list function body is in
      let own = own_once p w f function found y in
      let sum = times_append y function.params (listed_of body) in
      let same : times y (listed_by function) ≡ times y (function.params ++ listed_of body) = ap (λ l. times y l) list in
      let first = listed_times y function.params c in
      by_sum (stmt_uses p (Object y) body o)
      (λ g. let second = listed_times y (listed_of body) g in omega (arith, own, sum, same, first, second))
      (λ g. away f function found g.call (subst (λ l. Contains l g.call) (sym (body_of p f function body found is)) g.made) y g.used
      (subst (λ l. Contains l y) (sym list) (Contains-append_left function.params (listed_of body) y c)))

  are_bodies : (fillable : AreFillable p) (f : ℕ) (function : TFunctionTree) (body : TStmtTree) → slice_get p.functions f ≡ Some function → function.body ≡ Some body
      → IsBody p fillable f function body
  are_bodies fillable f function body found is = record {
    typed = subst (λ o. IfSome o (IsTypedBody p function)) is (typed_at p w f function found).body;
    stays = subst (λ o. IfSome o (GotosStay [])) is (all_at (λ x. IfSome x.body (GotosStay [])) p.functions f function ok.gotos_stay found);
    params = (typed_at p w f function found).params;
    distinct = params_distinct p w f function found;
    apart = apart_stmt p body (sparse_body f function body found is);
    opens = body_opens f function body found is;
    lists = params_listed p w f function found;
    misses = params_missed f function body found is;
  }

  -- ---- functions and fills

  main_result : (f : ℕ) (function : TFunctionTree) → slice_get p.functions f ≡ Some function → is_main p f ≡ true → function.result ≡ Int ints.Int
  main_result f function found named =
      let same : f ≡ plan.main = some_is (sym (main_first p w f named) ∙ ok.main) in
      let start_of = subst (λ z. IsSomeAnd (slice_get p.functions z) IsStart) (sym same) ok.start in
      (subst (λ o. IsSomeAnd o IsStart) found start_of).result

  are_callable : AreCallable p
  are_callable = record { results = λ f function found. (typed_at p w f function found).result; main = main_result }

  pub is_runnable : IsRunnable p
  is_runnable = record { sized = are_sized p w; callable = are_callable; fillable = are_fillable p w; bodies = are_bodies (are_fillable p w) }
