use Rattle.c_rules_calls.specs.Undefined.{IsFound}
use Rattle.c_rules_calls.proofs.undefined.undefined_in.Given as goal

abbrev pub invariant-loop-call : goal.invariant-loop-call
invariant-loop-call l = IsFound l.graph l.function l.call-index l.found
