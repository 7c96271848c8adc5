-- Of the one state of a sharp set each state of the set is like it; and what is under one side of a hull is under the hull.
use Rattle.std.specs.Prelude.{◌≡◌, ℕ, List, Option, Some}
use Rattle.std.proofs.Common.{subst}
use Rattle.c_syntax.specs.Types.{ObjectTree}
use Rattle.block_mem.specs.declared.types.Scalar.{Scalar}
use Rattle.num_api.specs.declared.message.Range.{Range}
use Rattle.csharp.specs.States.{State}
use Rattle.mem_api.specs.Likeness.{IsAlike}
use Rattle.plain_runs.specs.States.{Plain, hull}
use Rattle.mem_objects.specs.declared.cells.KnownCell.{KnownCell}
use Rattle.mem_objects.proofs.Hulls as objects
use Rattle.mem_one_state.specs.One.{IsSame, IsOf}
use Rattle.mem_intervals.specs.Laws.{sharp_is_alike, under_first, under_second}
use Rattle.mem_intervals.specs.Passed.{Remembered}
use Rattle.mem_intervals.specs.Sets.{IsUnder}

pub sharp_alike : (one : Option State) (s t : State) → one ≡ Some s → IsOf one t → IsAlike s t
sharp_alike one s t is of =
    let same : IsSame s t = subst (λ (o : Option State). IsOf o t) is of in
    sharp_is_alike s t same.temps same.memory

pub set_first : (os : List ObjectTree) (ts : List Scalar) (rs : List Range) (passed : Option Remembered) (cells : List (Option KnownCell))
    (copies : List (Option ℕ)) (p q : Plain) → IsUnder os ts rs passed cells copies p → IsUnder os ts rs passed cells copies (hull p q)
set_first os ts rs passed cells copies p q h = record {
  temps = under_first ts rs passed p q h.temps;
  known = objects.first_under cells copies p q h.known;
  declared = h.declared;
  sizes = h.sizes;
  cell_count = h.cell_count;
  copy_count = h.copy_count;
}

pub set_second : (os : List ObjectTree) (ts : List Scalar) (rs : List Range) (passed : Option Remembered) (cells : List (Option KnownCell))
    (copies : List (Option ℕ)) (p q : Plain) → IsUnder os ts rs passed cells copies q → IsUnder os ts rs passed cells copies (hull p q)
set_second os ts rs passed cells copies p q h = record {
  temps = under_second ts rs passed p q h.temps;
  known = objects.second_under cells copies p q h.known;
  declared = h.declared;
  sizes = h.sizes;
  cell_count = h.cell_count;
  copy_count = h.copy_count;
}
