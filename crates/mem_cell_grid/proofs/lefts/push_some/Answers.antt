use Rattle.mem_cell_grid.proofs.Cutting.{adds-push}
use Rattle.mem_cell_grid.proofs.lefts.push_some.Goals as goal

pub returns-in_ok-push : goal.returns-in_ok-push
returns-in_ok-push c = adds-push c.args.stretches.now.items c.push.new.self.items c.args.f c.in_ok-push.ensures.items
