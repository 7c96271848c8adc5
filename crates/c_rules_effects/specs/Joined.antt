-- Effects put together.
use Rattle.std.specs.Prelude.{List, [], ◌∷◌, ◌++◌}
use Rattle.c_rules_effects.specs.declared.touch.Touch.{Touch}
use Rattle.c_rules_effects.specs.declared.effects.Effects.{Effects}

abbrev pub nothing : Effects
nothing = record { reads = []; writes = [] }

-- those of one and those of another
abbrev pub joined : Effects → Effects → Effects
joined a b = record { reads = a.reads ++ b.reads; writes = a.writes ++ b.writes }

abbrev pub read_at : Touch → Effects
read_at touch = record { reads = touch ∷ []; writes = [] }

abbrev pub write_at : Touch → Effects
write_at touch = record { reads = []; writes = touch ∷ [] }

-- read, and then written
abbrev pub change_at : Touch → Effects
change_at touch = record { reads = touch ∷ []; writes = touch ∷ [] }
