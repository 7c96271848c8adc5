use Rattle.std.proofs.Common.{length, get_or, map, take, set, sym, subst, ap, ◌∙◌, arith}
use Rattle.std.specs.Prelude.{All}
use Rattle.std.proofs.lemmas.List.{take_all, take_more}
use Rattle.std.proofs.lemmas.Option.{slice_get-get_or}
use Rattle.c_syntax.specs.Program.{tprogram_tree}
use Rattle.c_rules_calls.specs.Graph.{calls_from, graph_of, IsOrderOf}
use Rattle.c_rules_calls.specs.Placed.{placed}
use Rattle.c_rules_effects.specs.Effects.{called}
use Rattle.c_rules_order.specs.Closed.{IsEffectsOf}
use Rattle.c_rules_order.proofs.Closing.{IsKnownAfter, all_known, callees_known, known_more, known_start, ordered_there}
use Rattle.c_rules_order.proofs.GraphCalls.{graph_calls}
use Rattle.c_rules_order.proofs.closed.closed_effects.Goals as goal

pub loop-function-init : goal.loop-function-init
loop-function-init c =
    known_start (tprogram_tree c.args.program.now) (length c.args.graph.now) c.in_ok-known.known.items (c.in_ok-known.ensures.count ∙ c.len.ensures)
    c.in_ok-known.ensures.none

pub function_effects-requires-clause-calls : goal.function_effects-requires-clause-calls
function_effects-requires-clause-calls c =
    let f = get_or c.as_slice-function-items.result.now c.loop-function.function-index 0 in
    c.calls-calls.ensures ∙ ap (λ g. calls_from g f) c.requires.calls ∙ graph_calls (tprogram_tree c.args.program.now) f

pub function_effects-requires-clause-known : goal.function_effects-requires-clause-known
function_effects-requires-clause-known c =
    let program = tprogram_tree c.args.program.now in
    let order = c.as_slice-function-items.result.now in
    let i = c.loop-function.function-index in
    let calls = map placed c.calls-calls.result.now in
    let is : IsOrderOf (graph_of program) order =
    subst (λ g. IsOrderOf g order) c.requires.calls (subst (IsOrderOf c.args.graph.now) (sym c.as_slice-function-items.ensures) c.requires.order) in
    subst (λ known. All (λ call. IsEffectsOf program call.callee (called known call.callee)) calls) (sym c.deref.ensures.value)
    (callees_known program order i (get_or order i 0) (length c.args.graph.now) c.loop-function.known.items calls is
    (slice_get-get_or order i 0 c.loop-function-test.true) (c.calls-calls.ensures ∙ ap (λ g. calls_from g (get_or order i 0)) c.requires.calls) c.loop-function.invariant)

pub index_mut-requires : goal.index_mut-requires
index_mut-requires c =
    let program = tprogram_tree c.args.program.now in
    let order = c.as_slice-function-items.result.now in
    let is : IsOrderOf (graph_of program) order =
    subst (λ g. IsOrderOf g order) c.requires.calls (subst (IsOrderOf c.args.graph.now) (sym c.as_slice-function-items.ensures) c.requires.order) in
    let there = ordered_there program order c.loop-function.function-index is c.loop-function-test.true in
    let same = ap length c.requires.calls in
    omega (arith, there, same, c.loop-function.invariant.size, c.loop-function.known.ok.0)

pub loop-function-preserved : goal.loop-function-preserved
loop-function-preserved c =
    let order = c.as_slice-function-items.result.now in
    let i = c.loop-function.function-index in
    subst (λ front. IsKnownAfter (tprogram_tree c.args.program.now) (length c.args.graph.now) front
    (set c.loop-function.known.items (get_or order i 0) c.in_ok-effects.effects)) (sym (take_more order i 0 c.loop-function-test.true))
    (known_more (tprogram_tree c.args.program.now) (length c.args.graph.now) (take i order) c.loop-function.known.items (get_or order i 0) c.in_ok-effects.effects
    (let there = ordered_there (tprogram_tree c.args.program.now) order i
    (subst (λ g. IsOrderOf g order) c.requires.calls (subst (IsOrderOf c.args.graph.now) (sym c.as_slice-function-items.ensures) c.requires.order))
    c.loop-function-test.true in let same = ap length c.requires.calls in omega (arith, there, same))
    c.loop-function.invariant c.in_ok-effects.ensures)

pub returns : goal.returns
returns c =
    let order = c.as_slice-function-items.result.now in
    all_known (tprogram_tree c.args.program.now) c.args.order.now (subst (λ g. IsOrderOf g c.args.order.now) c.requires.calls c.requires.order) (length c.args.graph.now)
    c.loop-function.known.items
    (subst (λ front. IsKnownAfter (tprogram_tree c.args.program.now) (length c.args.graph.now) front c.loop-function.known.items)
    (take_all c.loop-function.function-index order c.loop-function-test.false ∙ c.as_slice-function-items.ensures) c.loop-function.invariant)
