-- How far widening can still go.
use Rattle.std.specs.Prelude.{ℕ, ◌+◌}
use Rattle.machine_nums.specs.Machines.{machine_weight}
use Rattle.mem_cell_bytes.specs.Weights.{contents_weight, pointer_weight, total}
use Rattle.mem_cell_exprs.specs.declared.known.Known.{Known}

-- the numbers, and all that is known of pointers and of objects
abbrev pub known_weight : {D : Type 0} → (D → ℕ) → Known D → ℕ
known_weight weight k = machine_weight weight k.nums + (total pointer_weight k.pointers + total contents_weight k.grid)
