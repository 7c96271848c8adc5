use Rattle.mem_cell_loads.proofs.Marked.{cell-marks, pointer-marks}
use Rattle.mem_cell_loads.proofs.reading.cell_marks.Goals as goal

pub returns-in-Int : goal.returns-in-Int
returns-in-Int g c =
    rw c.in-Int.is (λ there. cell-marks g.D.Oracle.admits c.args.known.now c.args.object c.args.at c.int_marks.result c.in-Int.field-0 c.args.e.now
    c.int_marks.ensures.undef c.int_marks.ensures.value c.int_marks.ensures.broken there)

pub returns-in_ok-zero-in-Pointer : goal.returns-in_ok-zero-in-Pointer
returns-in_ok-zero-in-Pointer g c =
    rw c.in-Pointer.is (λ there. pointer-marks g.D.Oracle.admits c.args.known.now c.args.object c.args.at c.pointer_marks.result c.args.e.now c.in_ok-zero-in-Pointer.zero
    c.in_ok-zero-in-Pointer.ensures c.pointer_marks.ensures.undef c.pointer_marks.ensures.value c.pointer_marks.ensures.broken there)
