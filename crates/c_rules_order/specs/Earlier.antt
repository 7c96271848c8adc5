-- What the sides of a node do that were looked at so far.
use Rattle.std.specs.Prelude.{Bool, List}
use Rattle.c_rules_effects.specs.declared.touch.Touch.{Touch}
use Rattle.c_rules_effects.specs.Held.{Holds}
use Rattle.c_rules_order.specs.declared.earlier.Earlier.{Earlier}

-- they write these places, and touch these
pub record HasDone (earlier : Earlier) (taken : List Bool) (written touched : List Touch) : Type 0 where
  pub writes : Holds earlier.writes taken written
  pub touches : Holds earlier.touches taken touched
