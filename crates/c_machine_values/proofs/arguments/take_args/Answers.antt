use Rattle.std.proofs.Common.{◌≡◌, ◌+◌, ◌-◌, suc, [], ◌∷◌, reverse, sym, ap, ◌∙◌, subst, arith}
use Rattle.std.specs.Prelude.{IsSome}
use Rattle.std.proofs.lemmas.List.{reverse-append}
use Rattle.c_steps.specs.Calls.{taken}
use Rattle.c_machine_work.specs.Views.{on_top}
use Rattle.c_machine_values.proofs.Given.{has_value, one_taken}
use Rattle.c_machine_values.proofs.arguments.take_args.Goals as goal

pub take_value-requires : goal.take_value-requires
take_value-requires c =
    let left = c.args.count - c.loop.counter in
    let more : left ≡ suc (left - 1) = omega arith in
    let vs = reverse c.loop.args.items in
    has_value (left - 1) (on_top c.loop.stack []) vs
    (subst (λ n. IsSome (taken n (on_top c.loop.stack []) vs)) more (subst (λ o. IsSome o) c.loop.invariant c.requires))

pub loop-preserved : goal.loop-preserved
loop-preserved c =
    let left = c.args.count - c.loop.counter in
    let less = c.args.count - (c.loop.counter + 1) in
    let more : left ≡ suc less = omega arith in
    let vs = reverse c.loop.args.items in
    let below = on_top c.take_value.new.stack [] in
    let items : reverse c.push.new.self.items ≡ c.take_value.result ∷ vs = ap reverse c.in_ok-push.ensures.items ∙ reverse-append c.loop.args.items (c.take_value.result ∷ []) in
    c.loop.invariant ∙ ap (λ n. taken n (on_top c.loop.stack []) vs) more ∙ one_taken less (on_top c.loop.stack []) below c.take_value.result vs c.take_value.ensures
    ∙ ap (taken less below) (sym items)
