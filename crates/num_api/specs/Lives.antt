-- Whether anything can still be so.
use Rattle.std.specs.Prelude.{Bool, true, false}
use Rattle.ext_int.specs.declared.Live.{Live as LiveOrDead}
use Rattle.ext_int.specs.declared.Live.TheVariants.{Live, Dead}

abbrev pub is_live : LiveOrDead → Bool
is_live Live = true
is_live Dead = false
