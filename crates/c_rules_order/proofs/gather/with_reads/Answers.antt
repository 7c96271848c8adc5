use Rattle.std.proofs.Common.{◌⊎◌, ℕ, get_or, map, subst}
use Rattle.std.specs.Prelude.{◌↔◌, Contains}
use Rattle.std.proofs.lemmas.List.{get_or_default, take_all}
use Rattle.c_rules_calls.specs.Placed.{placed}
use Rattle.c_rules_effects.specs.Effects.{called}
use Rattle.c_rules_order.specs.Gathered.{HasCalledReads}
use Rattle.c_rules_order.proofs.Gathering.{more_called, more_with, no_call}
use Rattle.c_rules_order.proofs.gather.with_reads.Goals as goal

pub loop-call-preserved : goal.loop-call-preserved
loop-call-preserved c =
    more_called (λ (f : ℕ). (called c.args.known.now f).reads) c.args.list c.loop-call.more c.in_ok-more.more c.args.calls.now c.loop-call.call-index
    (get_or c.args.calls.now c.loop-call.call-index no_call) c.loop-call-test.true
    (get_or_default c.args.calls.now c.loop-call.call-index no_call (get_or c.args.calls.now c.loop-call.call-index no_call) c.loop-call-test.true)
    c.loop-call.invariant (more_with c.loop-call.more c.in_ok-more.more c.reads_of.result.now _ c.reads_of.ensures c.in_ok-more.ensures)

pub returns : goal.returns
returns c = λ t.
    subst (λ xs. Contains c.loop-call.more t ↔ (Contains c.args.list t ⊎ HasCalledReads c.args.known.now (map placed xs) t))
    (take_all c.loop-call.call-index c.args.calls.now c.loop-call-test.false) (c.loop-call.invariant t)
