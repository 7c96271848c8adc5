-- What is known of the system's files.
use Rattle.std.specs.Prelude.{ℕ, Bool}

-- whether a file is open, and how many calls failed
pub record HostCount : Type 0 where
  pub is_open : Bool
  pub faults : ℕ
