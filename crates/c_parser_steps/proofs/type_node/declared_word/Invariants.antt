use Rattle.std.proofs.Common.{◌≡◌}
use Rattle.c_syntax_written.specs.Written.{declarator_tree}
use Rattle.c_grammar.specs.Made.{declared_word}
use Rattle.c_parser_steps.proofs.type_node.declared_word.Given as goal

abbrev pub invariant-loop-rest : goal.invariant-loop-rest
invariant-loop-rest l = declared_word (declarator_tree l.rest) ≡ declared_word (declarator_tree l.fn.declarator)
