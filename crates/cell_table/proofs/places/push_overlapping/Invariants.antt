use Rattle.std.proofs.Common.{◌≡◌, ◌++◌}
use Rattle.cell_table.specs.Places.{numbers_in}
use Rattle.cell_table.proofs.Ranges.{wanted}
use Rattle.cell_table.proofs.places.push_overlapping.Given as goal

abbrev pub invariant-loop-offset : goal.invariant-loop-offset
invariant-loop-offset l =
    l.numbers.items ++ wanted l.from l.to l.offset-iterator ≡ l.initial.numbers.items ++ numbers_in l.object l.from l.to l.places.entries
