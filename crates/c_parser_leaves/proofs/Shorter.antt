-- What a reader leaves is shorter than what its caller began with.
use Rattle.std.proofs.Common.{ℕ, ◌<◌, ◌≤◌, List, length, Bor, arith}
use Rattle.std.specs.Prelude.{Result, Ok, Err, IfOk}
use Rattle.c_syntax_written.specs.declared.token.Placed.{Placed}
use Rattle.c_parser_steps.specs.declared.fault.Fault.{Fault}

pub shorter_by : {A : Type 0} {m n : ℕ} (r : Result (A × Bor (List Placed)) Fault) → IfOk r (λ x. length x.1.now ≤ m) → m < n → IfOk r (λ x. length x.1.now < n)
shorter_by (Ok x) h k = omega (arith, h)
shorter_by (Err f) h k = tt

pub no_longer_by : {A : Type 0} {m n : ℕ} (r : Result (A × Bor (List Placed)) Fault) → IfOk r (λ x. length x.1.now ≤ m) → m ≤ n → IfOk r (λ x. length x.1.now ≤ n)
no_longer_by (Ok x) h k = omega (arith, h)
no_longer_by (Err f) h k = tt
