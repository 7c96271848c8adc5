-- Of which of two lists a number is taken next.
use Rattle.std.specs.Prelude.{◌≡◌, ◌<◌, ◌⊎◌, ℕ, ℤ, pos, ◌≤ℤ◌}
use Rattle.mem_places.specs.declared.sums.Side.{Side}
use Rattle.mem_places.specs.declared.sums.Side.TheVariants as sides

-- of so many numbers from 0 on, and so many up to 0, some were taken, and come to this sum: of the side that is taken some are left, and the other is at its
-- end, or leads the sum away from 0
abbrev pub IsNext : ℕ → ℕ → ℕ → ℕ → ℤ → Side → Type 0
IsNext ups up downs down sum sides.Up = (ups < up) × ((downs ≡ down) ⊎ (sum ≤ℤ pos 0))
IsNext ups up downs down sum sides.Down = (downs < down) × ((ups ≡ up) ⊎ (pos 0 ≤ℤ sum))
IsNext ups up downs down sum sides.Neither = (ups ≡ up) × (downs ≡ down)
