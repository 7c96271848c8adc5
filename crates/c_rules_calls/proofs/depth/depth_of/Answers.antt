use Rattle.std.proofs.Common.{◌≡◌, ◌+◌, map, get_or, take, refl, subst, sym, ap, ◌∙◌}
use Rattle.std.specs.Prelude.{min, max}
use Rattle.std.proofs.lemmas.List.{map_more}
use Rattle.c_rules_calls.specs.Placed.{placed}
use Rattle.c_rules_calls.specs.Depths.{IsDepth}
use Rattle.c_rules_calls.specs.declared.call.Call.{Call}
use Rattle.c_rules_calls.proofs.Deep.{depth_more, max_is}
use Rattle.c_rules_calls.proofs.depth.depth_of.Goals as goal

no_call : Call
no_call = record { pos = record { file = 0; line = 0; col = 0 }; callee = 0 }

pub loop-call-preserved : goal.loop-call-preserved
unfolding no_call
loop-call-preserved c =
    let calls = c.args.calls.now in
    let depths = c.args.depths.now in
    let call = get_or calls c.loop-call.call-index no_call in
    let d = get_or depths call.callee 0 in
    let result : c.max-deepest.result ≡ max c.loop-call.deepest (min d 64 + 1) =
    c.max-deepest.ensures ∙ max_is c.loop-call.deepest _ ∙ ap (λ n. max c.loop-call.deepest (n + 1)) c.min-depth.ensures in
    subst (λ r. IsDepth depths (map placed (take (c.loop-call.call-index + 1) calls)) r) (sym result)
    (subst (λ xs. IsDepth depths xs (max c.loop-call.deepest (min d 64 + 1))) (sym (map_more placed calls c.loop-call.call-index no_call c.loop-call-test.true))
    (depth_more depths (map placed (take c.loop-call.call-index calls)) (placed call) c.loop-call.deepest d refl c.loop-call.invariant))
