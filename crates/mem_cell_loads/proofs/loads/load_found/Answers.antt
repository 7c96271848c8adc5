use Rattle.std.proofs.Common.{refl}
use Rattle.block_mem.specs.Bytes.{size_of}
use Rattle.csharp.specs.Trees.{csexpr_tree}
use Rattle.mem_cell_exprs.proofs.Options.{some-at}
use Rattle.mem_cell_loads.specs.Places.{LeadsThere}
use Rattle.mem_cell_loads.proofs.Behind.{found-behind}
use Rattle.mem_cell_loads.proofs.loads.load_found.Goals as goal

pub returns : goal.returns
returns g c =
    let admits = g.D.Oracle.admits in let known = c.args.known.now in let e = csexpr_tree c.args.address.now in let ty = c.args.ty in let reading = c.in_ok-reading.reading in
    let leads = some-at (LeadsThere admits known e (size_of ty)) c.in_ok-reach.field-0 c.in-Some.reach c.in-Some.is c.in_ok-reach.ensures.leads in
    found-behind admits known e ty c.in-Some.reach reading (record { number = c.in_ok-number.number; range = reading.range; set = reading.set }) leads
    c.in_ok-reading.ensures c.in_ok-number.ensures refl refl
