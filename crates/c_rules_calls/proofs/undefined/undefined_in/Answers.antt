use Rattle.std.proofs.Common.{◌≡◌, length, get_or, sym, subst, ap, ◌∙◌, arith}
use Rattle.std.proofs.lemmas.List.{get_or_default, length-map}
use Rattle.c_rules_calls.specs.Graph.{calls_from}
use Rattle.c_rules_calls.specs.Placed.{placed}
use Rattle.c_rules_calls.specs.declared.call.Call.{Call}
use Rattle.c_rules_calls.proofs.Firsts.{found_with, next_function, placed_read}
use Rattle.c_rules_calls.proofs.undefined.undefined_in.Goals as goal

no_call : Call
no_call = record { pos = record { file = 0; line = 0; col = 0 }; callee = 0 }

pub loop-call-preserved : goal.loop-call-preserved
unfolding no_call
loop-call-preserved c =
    let calls = c.calls-call-items.result.now in
    let i = c.loop-call.call-index in
    let call = get_or calls i no_call in
    let count : length calls ≡ length (calls_from c.args.graph.now c.args.function) = sym (length-map calls placed) ∙ ap length c.calls-call-items.ensures in
    found_with c.args.graph.now c.args.function i call (omega (arith, c.loop-call-test.true, count))
    (subst (λ xs. placed call ≡ get_or xs i (placed call)) c.calls-call-items.ensures
    (placed_read calls i call c.loop-call-test.true (get_or_default calls i no_call call c.loop-call-test.true)))
    c.loop-call.found c.with_call-found.result c.loop-call.invariant c.with_call-found.ensures

pub returns : goal.returns
returns c =
    let calls = c.calls-call-items.result.now in
    let count : length calls ≡ length (calls_from c.args.graph.now c.args.function) = sym (length-map calls placed) ∙ ap length c.calls-call-items.ensures in
    next_function c.args.graph.now c.args.function c.loop-call.call-index (omega (arith, c.loop-call-test.false, count)) c.loop-call.found c.loop-call.invariant
