use Rattle.std.proofs.Common.{◌≡◌, ◌-◌, ◌≤◌, ◌+◌, length, get_or, sym, subst, ap, ◌∙◌, arith}
use Rattle.std.specs.Prelude.{Contains}
use Rattle.std.proofs.lemmas.List.{length_push}
use Rattle.std.proofs.lemmas.List.Elements.{All-contains}
use Rattle.c_layout.specs.Calls.{PlacedCall, chain_end}
use Rattle.c_rules_calls.specs.Graph.{calls_from, IsDefined, IsWay}
use Rattle.c_rules_calls.specs.Depths.{HasDeepCall}
use Rattle.c_rules_calls.specs.Placed.{placed}
use Rattle.c_rules_calls.proofs.Ways.{ends}
use Rattle.c_rules_calls.proofs.Closed.{way_push}
use Rattle.c_rules_calls.proofs.Deep.{calls_inside}
use Rattle.c_rules_calls.proofs.depth.deep_calls.Goals as goal

pub deep_call-requires-clause-inside : goal.deep_call-requires-clause-inside
deep_call-requires-clause-inside c = λ k d less.
    let inside = calls_inside c.args.graph.now c.end-function.result c.calls.result.now c.requires.known c.calls.ensures k d less in
    omega (arith, inside, c.requires.size)

pub deep_call-requires-clause-one : goal.deep_call-requires-clause-one
deep_call-requires-clause-one c =
    let kept = c.loop-made.invariant in
    let function = chain_end c.args.main c.loop-made.calls in
    subst (λ calls. HasDeepCall c.args.depths.now calls (64 - c.loop-made.made)) (sym (c.calls.ensures ∙ ap (calls_from c.args.graph.now) c.end-function.ensures))
    ((c.requires.depths function kept.2).reached (64 - c.loop-made.made) (omega (arith, kept.3, c.loop-made-test.true)))

pub loop-made-preserved : goal.loop-made-preserved
loop-made-preserved c =
    let graph = c.args.graph.now in
    let kept = c.loop-made.invariant in
    let calls = c.loop-made.calls in
    let call = placed c.deep_call.result in
    let pushed = c.in_ok-push.ensures in
    let function = chain_end c.args.main calls in
    let made : Contains (calls_from graph function) call =
    subst (λ calls. Contains calls call) (c.calls.ensures ∙ ap (calls_from graph) c.end-function.ensures) c.deep_call.ensures.made in
    let end : chain_end c.args.main c.push.new.self ≡ c.deep_call.result.callee = ap (chain_end c.args.main) pushed ∙ ends c.args.main calls call in
    let deep : 65 ≤ get_or c.args.depths.now c.deep_call.result.callee 0 + (c.loop-made.made + 1) =
    omega (arith, c.deep_call.ensures.deep, c.loop-made-test.true) in (
      subst (IsWay graph c.args.main) (sym pushed) (way_push graph c.args.main calls call kept.0 made),
      ap length pushed ∙ length_push calls call ∙ ap (λ n. n + 1) kept.1,
      subst (IsDefined graph) (sym end) (All-contains (λ (c : PlacedCall). IsDefined graph c.callee) (calls_from graph function) call (c.requires.known function) made),
      subst (λ f. 65 ≤ get_or c.args.depths.now f 0 + (c.loop-made.made + 1)) (sym end) deep,
    )
