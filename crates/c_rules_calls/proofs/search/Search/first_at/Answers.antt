use Rattle.std.proofs.Common.{◌≡◌, ◌+◌, suc, map, take, drop, get_or, subst, arith}
use Rattle.c_layout.specs.Calls.{chain_end}
use Rattle.c_rules_calls.specs.Placed.{placed}
use Rattle.c_rules_calls.specs.Search.{functions_of, IsAmong}
use Rattle.c_rules_calls.specs.declared.call.Call.{Call}
use Rattle.c_rules_calls.proofs.Ways.{comes_later}
use Rattle.c_rules_calls.proofs.search.Search.first_at.Goals as goal

no_call : Call
no_call = record { pos = record { file = 0; line = 0; col = 0 }; callee = 0 }

pub loop-at-preserved : goal.loop-at-preserved
unfolding no_call
loop-at-preserved c =
    let items = c.as_slice-call-items.result.now in
    let callee = (get_or items c.loop-at.at no_call).callee in
    let more : suc c.loop-at.at ≡ c.loop-at.at + 1 = omega arith in
    subst (λ n. (chain_end c.args.self.now.root (take n (map placed items)) ≡ callee) × IsAmong (functions_of callee (drop n (map placed items))) c.args.function) more
    (comes_later items c.loop-at.at c.args.self.now.root c.loop-at.last c.args.function no_call (omega arith)
    c.loop-at.invariant.0 c.loop-at.invariant.1 c.if-last-function.false)
