-- How many equalities are kept.
use Rattle.std.specs.Prelude.{◌≤◌, List, length}
use Rattle.equalities.specs.Pairs.{Equality}

-- at most 64
abbrev pub AreFew : List Equality → Type 0
AreFew pairs = length pairs ≤ 64

-- a change that keeps to that
abbrev pub StayFew : List Equality → List Equality → Type 0
StayFew before after = AreFew before → AreFew after
