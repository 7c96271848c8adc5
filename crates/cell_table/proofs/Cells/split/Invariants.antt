use Rattle.std.proofs.Common.{◌≡◌, ◌+◌, ◌-◌, ◌++◌}
use Rattle.cell_table.specs.Cells.{in_use_with_all, numbers_of, byte_cells}
use Rattle.cell_table.proofs.Splits.{IsClear}
use Rattle.cell_table.proofs.Cells.split.Given as goal

abbrev pub invariant-loop-offset : goal.invariant-loop-offset
invariant-loop-offset l =
    let left = byte_cells l.whole.object l.offset (l.offset-end - l.offset) in
    let all = byte_cells l.whole.object l.whole.offset l.whole.size in
    record {
      end : l.offset-end ≡ l.whole.offset + l.whole.size;
      clear : IsClear l.self.slots l.whole.object l.offset l.offset-end;
      slots : in_use_with_all l.self.slots left ≡ in_use_with_all l.initial.self.slots all;
      numbers : l.numbers.items ++ numbers_of l.self.slots left ≡ l.initial.numbers.items ++ numbers_of l.initial.self.slots all;
    }
