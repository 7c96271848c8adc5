-- The sets of the tests: for a program with one object and one integer temporary.
use Rattle.std.specs.Prelude.{◌≡◌, [], ◌∷◌, length, map}
use Rattle.c_syntax_written.specs.declared.int_type.IntType.TheVariants as ints
use Rattle.c_syntax.specs.Types.{object_tree}
use Rattle.block_mem.specs.declared.types.Scalar.TheVariants as scalars
use Rattle.csharp.specs.Trees.{CsProgramTree}
use Rattle.mem_one_state.specs.One.{IsFor}
use Rattle.mem_intervals.specs.declared.states.IntervalStates.{IntervalStates}

-- one object, and one integer temporary
pub record IsSmall (q : CsProgramTree) : Type 0 where
  pub objects : length q.objects ≡ 1
  pub temps : q.temps ≡ scalars.Int ints.Int ∷ []

-- the set is for the program
abbrev pub IsSetFor : CsProgramTree → IntervalStates → Type 0
IsSetFor q m = (map object_tree m.objects ≡ q.objects) × (q.temps ≡ m.temps.types) × IsFor q.objects m.one

-- the set is for such a program
pub record IsSmallSet (m : IntervalStates) : Type 0 where
  pub program : CsProgramTree
  pub small : IsSmall program
  pub is_for : IsSetFor program m
