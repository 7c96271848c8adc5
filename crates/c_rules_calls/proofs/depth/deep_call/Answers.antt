use Rattle.std.proofs.Common.{◌<◌, get_or, subst, arith}
use Rattle.std.specs.Prelude.{All}
use Rattle.std.proofs.lemmas.List.{take_all}
use Rattle.std.proofs.lemmas.List.Elements.{All-more}
use Rattle.c_rules_calls.specs.declared.call.Call.{Call}
use Rattle.c_rules_calls.proofs.Deep.{none_deep}
use Rattle.c_rules_calls.proofs.depth.deep_call.Goals as goal

pub loop-call-preserved : goal.loop-call-preserved
loop-call-preserved c =
    All-more (λ (call : Call). get_or c.args.depths.now call.callee 0 < c.args.depth) c.args.calls.now c.loop-call.call-index
    (record { pos = record { file = 0; line = 0; col = 0 }; callee = 0 }) c.loop-call-test.true c.loop-call.invariant c.if-depths-call.false

pub unreachable-requires : goal.unreachable-requires
unreachable-requires c =
    none_deep c.args.depths.now c.args.calls.now c.args.depth
    (subst (λ calls. All (λ (call : Call). get_or c.args.depths.now call.callee 0 < c.args.depth) calls)
    (take_all c.loop-call.call-index c.args.calls.now (omega (arith, c.loop-call-test.false))) c.loop-call.invariant)
    c.requires.one
