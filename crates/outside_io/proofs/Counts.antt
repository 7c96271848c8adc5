-- Counts of faults.
use Rattle.std.proofs.Common.{rules, ◌≡◌, ℕ, Bool, cond, Result, Ok, Err, IfOk, OnOk, OnErr, is_ok, IsTrue, None, Some}
use Rattle.outside_io.specs.Io.{Rose, raised}

-- a count that was raised rose, or stands at its last value
pub raised_rose : (before now : ℕ) → now ≡ raised before → Rose before now
raised_rose before now e = search rules

-- the same where a result fails, if its failure alone raises the count
pub rose_at_err : {T E : Type 0} (r : Result T E) (before now : ℕ) → now ≡ cond (is_ok r) before (raised before) → OnErr r (Rose before now)
rose_at_err (Ok x) before now e = search rules
rose_at_err (Err x) before now e = raised_rose before now e

-- what a result's success decides holds where it succeeds
pub true_at_ok : {T E : Type 0} (r : Result T E) (b : Bool) → b ≡ is_ok r → OnOk r (IsTrue b)
true_at_ok (Ok x) b e = e
true_at_ok (Err x) b e = search rules

-- nothing is told
pub untold : {A B : Type 0} (b : A) → None ≡ Some b → B
untold b e = cc

-- what holds of every value holds under Ok
pub always_ok : {T E : Type 0} {P : T → Type 0} (r : Result T E) → ((x : T) → P x) → IfOk r P
always_ok (Ok x) holds = holds x
always_ok (Err x) holds = search rules

-- what holds anyhow holds under Err
pub always_err : {T E P : Type 0} (r : Result T E) → P → OnErr r P
always_err (Ok x) holds = search rules
always_err (Err x) holds = holds
