-- Going down a type, one struct after the other.
use Rattle.std.specs.Prelude.{ℕ, zero, suc, ◌≤◌, ◌^◌, List, Option, None}
use Rattle.c_syntax.specs.Types.{CTypeTree, ctype_tree}
use Rattle.c_syntax.specs.Program.{StructDefTree}
use Rattle.block_mem.specs.declared.types.Scalar.{Scalar}
use Rattle.lower_trees.specs.Zeros.{scalar_by, scalar_within}
use Rattle.lower_zeros.specs.declared.scalars.Level.{Level}
use Rattle.lower_zeros.specs.declared.scalars.Level.TheVariants as levels

-- the scalar at a byte of a type, where so many levels are left: those of structs in one another, and its own
abbrev pub scalar_left : ℕ → List StructDefTree → CTypeTree → ℕ → Option Scalar
scalar_left zero structs ty k = None
scalar_left (suc levels) structs ty k = scalar_by (scalar_within levels structs) structs ty k

abbrev pub reached : ℕ → List StructDefTree → Level → Option Scalar
reached left structs (levels.Found scalar) = scalar
reached left structs (levels.Inside ty k) = scalar_left left structs (ctype_tree ty.now) k

abbrev pub IsNear : Level → Type 0
IsNear (levels.Found scalar) = Unit {0}
IsNear (levels.Inside ty k) = k ≤ 2 ^ 40
