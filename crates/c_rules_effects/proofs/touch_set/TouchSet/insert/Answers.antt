use Rattle.c_rules_effects.proofs.Sets.{held_again, insert_more}
use Rattle.c_rules_effects.proofs.touch_set.TouchSet.insert.Goals as goal

pub returns-then-has : goal.returns-then-has
returns-then-has c = λ touches h.
    held_again c.args.self.now c.args.taken.now touches c.args.touch.now h (c.if-has.ensures c.args.taken.now touches h)

pub returns : goal.returns
returns c = insert_more c.args.self.now c.put.new.self c.args.taken.now c.args.touch.now c.put.result c.put.ensures
