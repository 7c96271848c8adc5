use Rattle.c_rules_effects.proofs.Sets.{mem_told, object_told}
use Rattle.c_rules_effects.proofs.touch_set.TouchSet.has.Goals as goal

pub returns-in-Mem : goal.returns-in-Mem
returns-in-Mem c = λ taken touches h. mem_told c.args.self.now taken touches c.args.touch.now h c.in-Mem.is

pub returns-in-Object : goal.returns-in-Object
returns-in-Object c = λ taken touches h.
    object_told c.args.self.now taken touches c.group.result.now c.args.touch.now c.in-Object.number c.in-Object.field-1 c.is_in.result h c.in-Object.is c.group.ensures
    c.is_in.ensures
