use Rattle.std.proofs.Common.{◌≡◌, ◌∙◌, Some, cond, false, subst, sym, true}
use Rattle.std.specs.Prelude.{is_some}
use Rattle.c_rules_calls.specs.Placed.{placed}
use Rattle.report_alarms.specs.Found.{found, is_key, key_of}
use Rattle.report_alarms.proofs.Keys.{new_call, old_call, place_of}
use Rattle.report_alarms.proofs.callees.add_call.Goals as goal

pub returns-then-contains_key : goal.returns-then-contains_key
returns-then-contains_key c =
    let has = subst (λ k. is_some (found c.args.places.now k.0 (place_of k)) ≡ true) c.key_of-key.ensures (sym c.contains_key.ensures ∙ c.if-contains_key.true) in
    old_call c.args.places.now c.args.caller (placed c.args.call) has

pub returns : goal.returns
returns c = λ g at.
    let has_none = subst (λ k. is_some (found c.args.places.now k.0 (place_of k)) ≡ false) c.key_of-key.ensures (sym c.contains_key.ensures ∙ c.if-contains_key.false) in
    subst (λ k. found c.insert.new.self g at ≡ cond (is_key k.0 (place_of k) (key_of g at)) (Some c.args.call.callee) (found c.args.places.now g at))
    c.key_of-key.ensures (c.in_ok-insert.ensures.updates.0 (key_of g at))
    ∙ new_call c.args.places.now c.args.caller (placed c.args.call) has_none g at
