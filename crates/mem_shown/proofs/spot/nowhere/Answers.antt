use Rattle.std.proofs.Common.{refl}
use Rattle.mem_shown.proofs.spot.nowhere.Goals as goal

pub returns-then-has : goal.returns-then-has
returns-then-has c = λ objects. (refl, (c.has.ensures objects).0 c.if-has.true)

pub returns-else-has : goal.returns-else-has
returns-else-has c = λ objects i. let t = (c.has.ensures objects).1 i in let f = c.if-has.false in cc
