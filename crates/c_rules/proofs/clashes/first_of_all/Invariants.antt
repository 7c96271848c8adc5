use Rattle.c_rules_order.specs.declared.side.Comparison.{Comparison}
use Rattle.c_syntax.specs.Program.{tprogram_tree}
use Rattle.c_rules.specs.Earliest.{IsFoundBelow}
use Rattle.c_rules.specs.Sequenced.{IsClashOf}
use Rattle.c_rules.proofs.clashes.first_of_all.Given as goal

abbrev pub invariant-loop-function : goal.invariant-loop-function
invariant-loop-function l = IsFoundBelow (λ (c : Comparison). c.pos) (IsClashOf (tprogram_tree l.program)) l.function-index l.found
