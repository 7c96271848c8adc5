-- The functions that were lowered, by their numbers.
use Rattle.std.specs.Prelude.{◌≡◌, ◌<◌, ℕ, List, length, slice_index_or}
use Rattle.csharp.specs.declared.program.CsFunction.{CsFunction}
use Rattle.csharp.specs.Trees.{csfunction_tree}
use Rattle.lower_trees.specs.LowerProgram as programs
use Rattle.lower_stmt.specs.declared.functions.Placed.{Placed}
use Rattle.lower_program.specs.declared.order.Done.{Done}

abbrev pub placed_tree : ℕ → Placed → programs.Placed
placed_tree f placed = record { number = f; function = csfunction_tree placed.function; top = placed.top }

-- the rows that each function uses stand at its number
abbrev pub HasTops : Done → List programs.Placed → Type 0
HasTops done all = (f : ℕ) → slice_index_or done.tops.items f 0 ≡ programs.top_in all f

-- these functions of so many stand at their numbers
pub record AreDone (count : ℕ) (done : Done) (all : List programs.Placed) : Type 0 where
  pub many : length done.functions.items ≡ count
  pub tops_many : length done.tops.items ≡ count
  pub functions : (f : ℕ) (d : CsFunction) → f < count → csfunction_tree (slice_index_or done.functions.items f d) ≡ programs.function_in all f
  pub tops : HasTops done all
  pub highest : done.highest ≡ programs.highest all
