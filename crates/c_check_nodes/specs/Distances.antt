-- How far an address is moved, where that may be further than the code's numbers go.
use Rattle.std.specs.Prelude.{◌≡◌, ◌≤◌, ◌^◌, ℤ, nat_abs, Option, Some, None}

-- the distance is this, or too far for any object
abbrev pub IsDistance : Option ℤ → ℤ → Type 0
IsDistance (Some x) d = x ≡ d
IsDistance None d = 2 ^ 127 ≤ nat_abs d
