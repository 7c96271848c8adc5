use Rattle.std.proofs.Common.{◌≤◌}
use Rattle.c_syntax_written.specs.declared.written.Declarator.{size-Declarator}
use Rattle.c_syntax_written.proofs.+written.Given as goal

abbrev pub invariant-written::Declarator::drop-loop-self :
    goal.invariant-written::Declarator::drop-loop-self
invariant-written::Declarator::drop-loop-self l = size-Declarator l.self ≤ size-Declarator l.initial.self
