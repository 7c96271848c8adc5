-- The questions that are asked of a program, one after the other.
use Rattle.std.proofs.Common.{◌≡◌, ℕ, ◌<◌, ◌≤◌, List, length, Some, None, refl, sym, subst}
use Rattle.std.specs.Prelude.{Option, IsSome, IsSomeAnd, option_map, slice_get}
use Rattle.std.proofs.lemmas.Option.{slice_get-map}
use Rattle.c_syntax.specs.TypedStmt.{TStmtTree}
use Rattle.c_syntax.specs.Program.{TFunctionTree, TProgramTree}
use Rattle.c_layout.specs.Calls.{PlacedCall, stmt_calls}
use Rattle.c_layout.specs.Plans.{IsStart}
use Rattle.c_rules_calls.specs.Graph.{AreDefined, calls_in, graph_of, IsClosedList, IsDefined, IsOrderOf, IsWay}
use Rattle.c_rules_calls.specs.Inlined.{IsInlinedSize, sizes_of}
use Rattle.c_rules_calls.specs.Undefined.{IsFirstUndefined}
use Rattle.c_rules.specs.declared.error.RuleError.TheVariants as errors
use Rattle.c_rules.specs.Rules.{HasOrder, IsComplete, IsMain, IsRefused, IsShallow, IsSmall}
use Rattle.c_rules.proofs.Mains.{one_main}

module _ (program : TProgramTree) (graph : List (Option (List PlacedCall))) (is : graph ≡ graph_of program) where
  pub undefined_refuses : (main : ℕ) (call : PlacedCall) → IsMain program main → IsFirstUndefined graph call
      → IsRefused program (errors.UndefinedFunction call.pos)
  undefined_refuses main call m first =
      ((main, m), record { call = call; first = subst (λ g. IsFirstUndefined g call) is first; here = refl })

  pub complete_is : (main : ℕ) → IsMain program main → AreDefined graph → IsComplete program
  complete_is main m defined = ((main, m), subst AreDefined is defined)

  pub recursion_refuses : (calls : List PlacedCall) → IsComplete program → IsClosedList graph calls → IsComplete program × IsClosedList (graph_of program) calls
  recursion_refuses calls so_far closed = (so_far, subst (λ g. IsClosedList g calls) is closed)

  pub order_is : (order : List ℕ) → IsComplete program → IsOrderOf graph order → HasOrder program
  order_is order so_far o = (so_far, (order, subst (λ g. IsOrderOf g order) is o))

  pub all_defined : HasOrder program → AreDefined graph
  all_defined so_far = subst AreDefined (sym is) so_far.0.1

  pub depth_refuses : (main : ℕ) (calls : List PlacedCall) → HasOrder program → IsMain program main → IsWay graph main calls → length calls ≡ 65
      → HasOrder program × ((main : ℕ) × IsMain program main × IsWay (graph_of program) main calls × (length calls ≡ 65))
  depth_refuses main calls so_far m way size = (so_far, (main, m, subst (λ g. IsWay g main calls) is way, size))

  pub shallow_is : (main : ℕ) → HasOrder program → IsMain program main → ((calls : List PlacedCall) → IsWay graph main calls → length calls ≤ 64)
      → IsShallow program
  shallow_is main so_far m short = (
    so_far,
    λ other n calls way. short calls (subst (λ g. IsWay g main calls) (sym is)
        (subst (λ x. IsWay (graph_of program) x calls) (one_main program other main n m) way)),
  )

  pub large_refuses : (main n : ℕ) → IsShallow program → IsMain program main → IsInlinedSize graph (sizes_of program) main n → 2000000 < n
      → IsRefused program (errors.TooLarge n)
  large_refuses main n so_far m size above = (so_far, (main, m, subst (λ g. IsInlinedSize g (sizes_of program) main n) is size, above))

  pub small_is : (main n : ℕ) → IsShallow program → IsMain program main → IsInlinedSize graph (sizes_of program) main n → n ≤ 2000000 → IsSmall program
  small_is main n so_far m size below = (
    so_far,
    λ other o. (
      n,
      subst (λ x. IsInlinedSize (graph_of program) (sizes_of program) x n) (one_main program main other m o)
          (subst (λ g. IsInlinedSize g (sizes_of program) main n) is size),
      below,
    ),
  )

  -- main has a body
  pub main_defined : (main : ℕ) → IsMain program main → IsDefined graph main
  main_defined main m =
      subst (λ g. IsDefined g main) (sym is)
      (subst (λ (x : Option (Option (List PlacedCall))). IsSomeAnd x IsSome) (sym (slice_get-map calls_in program.functions main))
      (by_entry (slice_get program.functions main) m.1)) where
        by_body : (body : Option TStmtTree) → IsSome body → IsSome (option_map stmt_calls body)
        by_body None h = h
        by_body (Some b) h = refl

        by_entry : (entry : Option TFunctionTree) → IsSomeAnd entry IsStart → IsSomeAnd (option_map calls_in entry) IsSome
        by_entry None h = h
        by_entry (Some function) h = by_body function.body h.body
