-- Parts of statements as typing speaks of them.
use Rattle.std.specs.Prelude.{◌≡◌, map}
use Rattle.c_syntax.specs.TypedExpr.{texpr_tree}
use Rattle.c_typing.specs.Stmts as stmts
use Rattle.c_typing.specs.World.{World}
use Rattle.c_check_names.specs.Trees.{case_tree}
use Rattle.c_check_jumps.specs.declared.switches.Switched.{Switched}
use Rattle.c_check_jumps.specs.declared.switches.OuterCases.{OuterCases}

abbrev pub switched_tree : Switched → stmts.Switched
switched_tree s = record { value = texpr_tree s.value; ty = s.ty }

-- the cases and the default of the switch around, which were kept
pub record Keeps (outer : OuterCases) (before : World) : Type 0 where
  pub cases : map case_tree outer.cases ≡ before.cases
  pub default : outer.default ≡ before.default
