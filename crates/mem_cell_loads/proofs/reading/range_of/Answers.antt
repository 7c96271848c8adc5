use Rattle.std.proofs.lemmas.Result.{IfOk-weaker}
use Rattle.block_mem.specs.Bytes.{size_of}
use Rattle.machine_nums.specs.MExprs.{mexpr_tree}
use Rattle.mem_cell_bytes.specs.Cells.{number_of}
use Rattle.mem_cell_loads.specs.Found.{IsFound, IsNumberAt}
use Rattle.mem_cell_loads.proofs.Readings.{if-some}
use Rattle.mem_cell_loads.proofs.reading.range_of.Goals as goal

pub returns-in-Some : goal.returns-in-Some
returns-in-Some g c =
    let admits = g.D.Oracle.admits in let known = c.args.known.now in let o = c.args.object in let at = c.args.at in
    let number = if-some (λ m. IsFound known.grid o at (size_of c.args.ty) c.args.found.now → IsNumberAt admits known o at c.args.ty (mexpr_tree m)) c.in_ok-m.field-0 c.in-Some.m
    c.in-Some.is c.in_ok-m.ensures in
    IfOk-weaker c.number_range.result _ _
    (λ r law there objects s st b u here given. law st.v (number_of u) st.admitted (number there objects s st b u here given)) c.number_range.ensures
