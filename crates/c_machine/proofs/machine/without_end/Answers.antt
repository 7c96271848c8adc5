use Rattle.std.proofs.Common.{List, [], sym, ap, ◌∙◌}
use Rattle.std.proofs.lemmas.List.{nil_from_length}
use Rattle.c_steps.specs.Runs.{calls_in, chain_of}
use Rattle.c_machine_work.specs.declared.items.Item.{Item}
use Rattle.c_machine_work.specs.Views.{in_front, item_of}
use Rattle.c_machine_work.proofs.Lists.{in_front_none, in_front_push}
use Rattle.c_machine.proofs.Chained.{end_skipped, other_kept}
use Rattle.c_machine.proofs.machine.without_end.Goals as goal

pub returns-then-ends : goal.returns-then-ends
returns-then-ends c =
    let rest = c.in-Some.rest.now in
    let next = c.in-Some.next.now in
    let front = ap (λ (l : List Item). in_front l []) c.in-Some.ensures.cases.0 ∙ in_front_push rest next [] in
    sym (ap chain_of front ∙ end_skipped (item_of next) (in_front rest []) (sym c.ends.ensures ∙ c.if-ends.true))

pub returns-else-ends : goal.returns-else-ends
returns-else-ends c =
    let rest = c.in-Some.rest.now in
    let next = c.in-Some.next.now in
    let front = ap (λ (l : List Item). in_front l []) c.in-Some.ensures.cases.0 ∙ in_front_push rest next [] in
    sym (ap chain_of front ∙ other_kept (item_of next) (in_front rest []) (sym c.ends.ensures ∙ c.if-ends.false) ∙ sym (ap calls_in front))

pub returns-in-None : goal.returns-in-None
returns-in-None c =
    let front = ap (λ (l : List Item). in_front l []) (nil_from_length c.args.items.now c.in-None.ensures.cases) ∙ in_front_none [] in
    ap calls_in front ∙ sym (ap chain_of front)
