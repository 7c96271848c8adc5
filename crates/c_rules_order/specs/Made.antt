-- What a part of an expression does: what it touches itself, and which functions it calls.
use Rattle.std.specs.Prelude.{ℕ, List, [], ◌∷◌, ◌++◌}
use Rattle.c_syntax_written.specs.declared.place.Pos.{Pos}
use Rattle.c_rules_effects.specs.declared.effects.Effects.{Effects}
use Rattle.c_rules_effects.specs.Joined.{joined, nothing}
use Rattle.c_rules_order.specs.declared.side.Side.{Side}

abbrev pub no_side : Side
no_side = record { own = nothing; calls = [] }

-- one and then another
abbrev pub sides_joined : Side → Side → Side
sides_joined a b = record { own = joined a.own b.own; calls = a.calls ++ b.calls }

abbrev pub all_joined : List Side → Side
all_joined [] = no_side
all_joined (side ∷ rest) = sides_joined side (all_joined rest)

-- with these effects of its own
abbrev pub with_own : Side → Effects → Side
with_own side effects = record { own = joined side.own effects; calls = side.calls }

-- with a call
abbrev pub with_call : Side → Pos → ℕ → Side
with_call side at callee = record { own = side.own; calls = side.calls ++ record { pos = at; callee = callee } ∷ [] }

-- these effects alone
abbrev pub only : Effects → Side
only effects = record { own = effects; calls = [] }
