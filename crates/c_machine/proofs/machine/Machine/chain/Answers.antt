use Rattle.std.proofs.Common.{List, [], ◌∷◌, ◌++◌, take, sym, ap, ◌∙◌, arith}
use Rattle.std.proofs.lemmas.List.{take_all, take_more}
use Rattle.c_syntax_written.specs.declared.place.Pos.{Pos}
use Rattle.c_steps.specs.Runs.{calls_in, chain_of}
use Rattle.c_machine_work.specs.declared.items.Item.{Item}
use Rattle.c_machine_work.specs.Views.{in_front, item_of}
use Rattle.c_machine_work.proofs.Lists.{in_front_none, in_front_push}
use Rattle.c_machine.proofs.Chained.{with_call, without_call}
use Rattle.c_machine.proofs.machine.Machine.chain.Goals as goal
use Rattle.c_machine.proofs.machine.Machine.chain.Goals.{in-Some+in_ok-push, in_default}

pub loop-item-init : goal.loop-item-init
loop-item-init c = c.new-calls.ensures.items ∙ sym (ap calls_in (in_front_none []))

pub loop-item-preserved : goal.loop-item-preserved
loop-item-preserved c =
    let all = c.without_end-item-items.result.now in
    let i = c.loop-item.item-index in
    let item = c.item-item.result in
    let done = take i all in
    let more = take_more all i item (omega arith) ∙ ap (λ (x : Item). done ++ x ∷ []) (sym c.item-item.is) in
    let front = ap (λ (l : List Item). in_front l []) more ∙ in_front_push done item [] in
    elim c.match-call_of.branch [
      | in-Some+in_ok-push w ↦ ap (λ v. v.items) w.calls-is ∙ w.in_ok-push.ensures.items ∙ ap (λ (l : List Pos). l ++ w.in-Some.pos ∷ []) c.loop-item.invariant
          ∙ sym (ap calls_in front ∙ with_call (item_of item) (in_front done []) w.in-Some.pos (sym c.call_of.ensures ∙ w.in-Some.is))
      | in_default w ↦ ap (λ v. v.items) w.calls-is ∙ c.loop-item.invariant
          ∙ sym (ap calls_in front ∙ without_call (item_of item) (in_front done []) (sym c.call_of.ensures ∙ w.in_default.is))
    ]

pub returns : goal.returns
returns c =
    c.from_vec.ensures ∙ c.loop-item.invariant
    ∙ ap (λ (l : List Item). calls_in (in_front l [])) (take_all c.loop-item.item-index c.without_end-item-items.result.now (omega arith))
    ∙ c.without_end-item-items.ensures ∙ ap chain_of c.as_slice.ensures
