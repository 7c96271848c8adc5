use Rattle.std.proofs.Common.{◌||◌, ap, refl, sym, ◌∙◌}
use Rattle.std.specs.List.{list_any}
use Rattle.c_rules_effects.specs.Held.{group_of}
use Rattle.c_rules_effects.specs.Met.{met}
use Rattle.c_rules_effects.proofs.Sets.{mem_meets, object_meets}
use Rattle.c_rules_effects.proofs.touch_set.TouchSet.meets.Goals as goal

pub returns-in-Mem : goal.returns-in-Mem
returns-in-Mem c = λ touches h. mem_meets c.args.self.now c.args.taken.now touches c.args.touch.now h c.in-Mem.is

pub returns-then-meets_through_mem : goal.returns-then-meets_through_mem
returns-then-meets_through_mem c = λ touches h.
    let group = group_of c.args.self.now c.in-Object.number in
    ap (λ b. b || list_any (met c.args.taken.now c.args.touch.now) group) (sym c.if-meets_through_mem.true)
    ∙ object_meets c.args.self.now c.args.taken.now touches group c.args.touch.now c.in-Object.number c.in-Object.field-1 c.meets_through_mem.result h c.in-Object.is refl
    c.meets_through_mem.ensures

pub returns-else-meets_through_mem : goal.returns-else-meets_through_mem
returns-else-meets_through_mem c = λ touches h.
    c.meets_one.ensures ∙ ap (λ b. b || list_any (met c.args.taken.now c.args.touch.now) c.group.result.now) (sym c.if-meets_through_mem.false)
    ∙ object_meets c.args.self.now c.args.taken.now touches c.group.result.now c.args.touch.now c.in-Object.number c.in-Object.field-1 c.meets_through_mem.result h
    c.in-Object.is c.group.ensures c.meets_through_mem.ensures
