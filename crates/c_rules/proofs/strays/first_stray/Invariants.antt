use Rattle.c_syntax.specs.Program.{tprogram_tree}
use Rattle.c_rules.specs.Earliest.{IsFoundBelow}
use Rattle.c_rules.specs.Rules.{IsStrayOf}
use Rattle.c_rules.proofs.strays.first_stray.Given as goal

abbrev pub invariant-loop-function : goal.invariant-loop-function
invariant-loop-function l = IsFoundBelow (λ at. at) (IsStrayOf (tprogram_tree l.program)) l.function-index l.found
