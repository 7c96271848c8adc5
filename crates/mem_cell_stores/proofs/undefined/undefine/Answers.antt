use Rattle.std.proofs.Common.{refl}
use Rattle.mem_cell_stores.proofs.Copied.{undefined-behind}
use Rattle.mem_cell_stores.proofs.undefined.undefine.Goals as goal

pub returns : goal.returns
returns g c = record {
  types = refl;
  stands = undefined-behind g.D.Oracle.admits c.args.known.now c.put.new.self c.args.object c.args.size c.in_ok-held.held c.in_ok-held.ensures c.put.ensures;
}
