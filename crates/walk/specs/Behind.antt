-- The set behind a statement.
use Rattle.std.specs.Prelude.{Option, Some, None}
use Rattle.ext_int.specs.declared.Live.{Live as LiveOrDead}
use Rattle.ext_int.specs.declared.Live.TheVariants.{Live, Dead}

-- the set at which a walk stands then, where any state comes behind
abbrev pub set_behind : {M : Type 0} → LiveOrDead → M → Option M
set_behind Live m = Some m
set_behind Dead m = None
