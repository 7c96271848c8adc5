use Rattle.c_rules_calls.specs.Undefined.{IsFound}
use Rattle.c_rules_calls.proofs.undefined.undefined_call.Given as goal

abbrev pub invariant-loop-function : goal.invariant-loop-function
invariant-loop-function l = IsFound l.graph l.function 0 l.found
