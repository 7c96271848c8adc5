use Rattle.std.proofs.Common.{◌≡◌, sym, ◌∙◌, Some, None}
use Rattle.mem_one_state.proofs.Numbers.{first_by, told_by}
use Rattle.mem_one_state.proofs.facts.number.Goals as goal

pub returns-in-Some-clause-told : goal.returns-in-Some-clause-told
returns-in-Some-clause-told c =
    told_by c.args.memory.now c.args.object c.args.ty c.unsigned.result c.unsigned.ensures c.loaded.result c.loaded-in-Some.result c.in-Some.field-0
    c.loaded.ensures.told c.in-Some.is c.loaded-in-Some.ensures.told

pub returns-in-Some-clause-each : goal.returns-in-Some-clause-each
returns-in-Some-clause-each c n h =
    c.loaded-in-Some.ensures.each n (first_by c.args.memory.now c.args.object c.args.ty c.unsigned.result c.unsigned.ensures c.loaded.result c.requires.live
    c.loaded.ensures.told c.loaded.ensures.each n h).2

pub returns-in-None-clause-each : goal.returns-in-None-clause-each
returns-in-None-clause-each c n h =
    let first = first_by c.args.memory.now c.args.object c.args.ty c.unsigned.result c.unsigned.ensures c.loaded.result c.requires.live
    c.loaded.ensures.told c.loaded.ensures.each n h in
    let none : None ≡ Some first.0 = sym c.in-None.is ∙ first.1 in
    absurd (cc)
