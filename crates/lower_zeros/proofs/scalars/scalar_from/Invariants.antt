use Rattle.std.proofs.Common.{◌≡◌, ◌≤◌, ◌^◌}
use Rattle.std.specs.Prelude.{map}
use Rattle.c_syntax.specs.Program.{structdef_tree}
use Rattle.c_syntax.specs.Types.{ctype_tree}
use Rattle.lower_trees.specs.Zeros.{scalar_from}
use Rattle.lower_zeros.specs.Levels.{scalar_left}
use Rattle.lower_zeros.proofs.scalars.scalar_from.Given as goal

abbrev pub invariant-loop-levels : goal.invariant-loop-levels
invariant-loop-levels l = record {
  small : l.byte ≤ 2 ^ 40;
  same :
      scalar_left l.levels (map structdef_tree l.structs) (ctype_tree l.ty) l.byte
      ≡ scalar_from (map structdef_tree l.structs) (ctype_tree l.fn.ty) l.fn.byte;
}

abbrev pub decreases-loop-levels : goal.decreases-loop-levels
decreases-loop-levels l = l.levels
