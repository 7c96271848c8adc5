-- What is known of the bytes of one object, as lists.
use Rattle.std.specs.Prelude.{List, []}
use Rattle.mem_cell_bytes.specs.declared.entry.Entry.{Entry}
use Rattle.mem_cell_bytes.specs.declared.entry.Stretch.{Stretch}

pub record Contents : Type 0 where
  pub cells : List Entry
  pub stretches : List Stretch

abbrev pub contents : List Entry → List Stretch → Contents
contents cells stretches = record { cells = cells; stretches = stretches }

-- of an object that does not live, and of one of which all was forgotten
abbrev pub nothing : Contents
nothing = contents [] []
