-- The plan of a program that is admitted.
use Rattle.std.proofs.Common.{◌≡◌, true, false, ℕ, ◌<◌, List, [], ◌∷◌, length, take, Some, None, refl, sym, subst, ap, ◌∙◌}
use Rattle.std.specs.Prelude.{Option, All, Contains, IfSome, IsSome, IsSomeAnd, count_by, is_some, if◌then◌else◌, option_and_then, option_map, slice_get, unwrap_or, ◌==◌}
use Rattle.std.proofs.lemmas.List.Elements.{All-weaker}
use Rattle.std.proofs.lemmas.Option.{slice_get-map, slice_get-get_or, slice_get_within}
use Rattle.c_syntax.specs.declared.program.Plan.{Plan}
use Rattle.c_syntax.specs.TypedStmt.{TStmtTree}
use Rattle.c_syntax.specs.Program.{TFunctionTree, TProgramTree}
use Rattle.c_layout.specs.Calls.{PlacedCall, function_calls, IsChain, stmt_calls}
use Rattle.c_layout.specs.Jumps.{GotosStay}
use Rattle.c_layout.specs.Plans.{HasBody, IsOrdered, IsPlanFor, IsStart}
use Rattle.c_layout.specs.WellTyped.{EachOf}
use Rattle.c_rules_calls.specs.Graph.{calls_from, calls_in, graph_of, IsDefined, IsOrderOf, IsWay}
use Rattle.c_rules_calls.proofs.Orders.{times_none}
use Rattle.c_rules_calls.specs.Gotos.{strays}
use Rattle.c_rules_calls.proofs.Stays.{stays}
use Rattle.c_rules_order.proofs.GraphCalls.{graph_calls}
use Rattle.c_rules.specs.Rules.{IsMain, KeepsGotos, strays_by}

not_some : false ≡ true → ⊥
not_some e = cc

module _ (program : TProgramTree) where
  abbrev graph : List (Option (List PlacedCall))
  graph = graph_of program

  -- ---- functions with a body

  entry_is : (f : ℕ) (entry : Option TFunctionTree) → slice_get program.functions f ≡ entry → slice_get graph f ≡ option_map calls_in entry
  entry_is f entry e = slice_get-map calls_in program.functions f ∙ ap (option_map calls_in) e

  has_body : (f : ℕ) → IsDefined graph f → HasBody program f
  has_body f d = by_entry (slice_get program.functions f) (subst (λ (x : Option (Option (List PlacedCall))). IsSomeAnd x IsSome)
      (slice_get-map calls_in program.functions f) d) where
        by_body : (body : Option TStmtTree) → IsSome (option_map stmt_calls body) → IsSome body
        by_body None h = h
        by_body (Some b) h = refl

        by_entry : (entry : Option TFunctionTree) → IsSomeAnd (option_map calls_in entry) IsSome → IsSomeAnd entry (λ function. IsSome function.body)
        by_entry None h = h
        by_entry (Some function) h = by_body function.body h

  is_there : (f : ℕ) → IsDefined graph f → f < length program.functions
  is_there f d = by_entry (slice_get program.functions f) refl (has_body f d) where
    by_entry : (entry : Option TFunctionTree) → slice_get program.functions f ≡ entry → IsSomeAnd entry (λ function. IsSome function.body)
        → f < length program.functions
    by_entry None e h = absurd h
    by_entry (Some function) e h = slice_get_within program.functions f function e

  -- ---- the order

  module _ (order : List ℕ) (is : IsOrderOf graph order) where
    counted : (f : ℕ) (function : TFunctionTree) (body : Option TStmtTree) → slice_get program.functions f ≡ Some function → function.body ≡ body
        → count_by (λ x. x == f) order ≡ (if is_some body then 1 else 0)
    counted f function None e b =
        let none : IsDefined graph f → ⊥ = λ d. not_some (subst (λ (x : Option (Option (List PlacedCall))). IsSomeAnd x IsSome)
        (entry_is f (Some function) e ∙ ap (λ (body : Option TStmtTree). Some (option_map stmt_calls body)) b) d) in
        times_none (IsDefined graph) f order is.defined none
    counted f function (Some body) e b =
        is.once f (subst (λ (x : Option (Option (List PlacedCall))). IsSomeAnd x IsSome)
        (sym (entry_is f (Some function) e ∙ ap (λ (body : Option TStmtTree). Some (option_map stmt_calls body)) b)) refl)

    ordered_at : (plan : Plan) → plan.order ≡ order → (f : ℕ) (entry : Option TFunctionTree) → slice_get program.functions f ≡ entry
        → IfSome entry (IsOrdered plan f)
    ordered_at plan same f None e = tt
    ordered_at plan same f (Some function) e = ap (count_by (λ x. x == f)) same ∙ counted f function function.body e refl

    callees_first : EachOf order (λ k f. All (λ call. Contains (take k order) call.callee) (function_calls program f))
    callees_first k = by_entry (slice_get order k) (is.callees_first k) where
      by_entry : (entry : Option ℕ) → IfSome entry (λ f. All (λ call. Contains (take k order) call.callee) (calls_from graph f))
          → IfSome entry (λ f. All (λ call. Contains (take k order) call.callee) (function_calls program f))
      by_entry None h = tt
      by_entry (Some f) h = subst (All (λ call. Contains (take k order) call.callee)) (graph_calls program f) h

  -- ---- chains and gotos

  pub chain_way : (f : ℕ) (chain : List PlacedCall) → IsChain program f chain → IsWay graph f chain
  chain_way f [] w = tt
  chain_way f (call ∷ rest) w = (subst (λ calls. Contains calls call) (sym (graph_calls program f)) w.0, chain_way call.callee rest w.1)

  stay_in : (body : Option TStmtTree) → unwrap_or (option_map (strays []) body) [] ≡ [] → IfSome body (GotosStay [])
  stay_in None e = tt
  stay_in (Some body) e = stays [] body e

  gotos_stay : ((f : ℕ) → strays_by program f ≡ []) → All (λ function. IfSome function.body (GotosStay [])) program.functions
  gotos_stay none f d less =
      let at = slice_get-get_or program.functions f d less in
      stay_in _ (ap (λ (x : Option TFunctionTree). unwrap_or (option_map (strays []) (option_and_then (λ function. function.body) x)) []) (sym at) ∙ none f)

  pub planned : (plan : Plan) (order : List ℕ) (main : ℕ) → plan.order ≡ order → plan.main ≡ main → IsMain program main → IsOrderOf graph order
      → KeepsGotos program
      → IsPlanFor program plan
  planned plan order main same_order same_main is_main is so_far =
      let shallow = so_far.0.0 in record {
        main = is_main.0 ∙ ap Some (sym same_main);
        start = subst (λ m. IsSomeAnd (slice_get program.functions m) IsStart) (sym same_main) is_main.1;
        order_there = subst (All (λ f. f < length program.functions)) (sym same_order) (All-weaker (IsDefined graph)
            (λ f. f < length program.functions) is_there order is.defined);
        order_once = λ f. ordered_at order is plan same_order f (slice_get program.functions f) refl;
        callees_first = subst (λ xs. EachOf xs (λ k f. All (λ call. Contains (take k xs) call.callee) (function_calls program f))) (sym same_order)
            (callees_first order is);
        called_bodies = λ f. subst (All (λ call. HasBody program call.callee)) (graph_calls program f)
            (All-weaker (λ call. IsDefined graph call.callee) (λ call. HasBody program call.callee) (λ call. has_body call.callee) (calls_from graph f)
            (shallow.0.0.1 f));
        short_chains = λ chain w. shallow.1 main is_main chain (chain_way main chain (subst (λ m. IsChain program m chain) same_main w));
        gotos_stay = gotos_stay so_far.1;
      }
