use Rattle.std.proofs.lemmas.Result.{IfOk-weaker}
use Rattle.mem_cell_stores.proofs.Kept.{nothing-known}
use Rattle.mem_cell_stores.proofs.grids.nothing_in.Goals as goal

pub returns : goal.returns
returns c = IfOk-weaker c.nothing.result _ _ (λ g is. nothing-known c.len.result g is) c.nothing.ensures
