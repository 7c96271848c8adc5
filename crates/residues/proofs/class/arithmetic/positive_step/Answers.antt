use Rattle.std.proofs.Common.{◌≡◌, ℤ, pos, ◌^◌, arith}
use Rattle.std.proofs.lemmas.Int.{ints}
use Rattle.num_api.specs.Residues.{IsMultiple}
use Rattle.residues.proofs.Moves.{moved}
use Rattle.num_api.proofs.Multiples.{multiple_along, zero_multiple, self_multiple}
use Rattle.residues.proofs.Steps.{fold_greatest}
use Rattle.residues.proofs.class.arithmetic.positive_step.Goals as goal

pub returns-then-step-eq0-clause-divides : goal.returns-then-step-eq0-clause-divides
returns-then-step-eq0-clause-divides c =
    let e : pos 0 ≡ c.args.step = omega (arith, ints) in multiple_along (pos (2 ^ 100)) (pos 0) c.args.step e (zero_multiple (pos (2 ^ 100)))

pub returns-then-step-eq0-clause-folds : goal.returns-then-step-eq0-clause-folds
returns-then-step-eq0-clause-folds c = λ d a h. fold_greatest d a

pub returns-clause-divides : goal.returns-clause-divides
returns-clause-divides c = moved (λ (t : ℤ). IsMultiple t c.args.step) c.args.step c.ranges.step (self_multiple c.args.step)
