use Rattle.std.proofs.Common.{refl}
use Rattle.lower_program.proofs.Orders.{done_put}
use Rattle.lower_program.proofs.order.Done.put.Goals as goal

pub returns : goal.returns
returns c = λ count all below before. done_put count c.args.f c.args.self.now _ c.args.placed all below refl refl c.max-self.ensures before
