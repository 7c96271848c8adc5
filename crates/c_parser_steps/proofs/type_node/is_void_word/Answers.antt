use Rattle.std.proofs.Common.{sym, ◌∙◌, arith}
use Rattle.c_parser_steps.proofs.NodeSteps.{void_word_of, no_void_word, words_and_more}
use Rattle.c_parser_steps.proofs.type_node.is_void_word.Goals as goal

pub returns-in-len1 : goal.returns-in-len1
returns-in-len1 c = c.is_void_spec.ensures ∙ sym (void_word_of _ _ (omega arith) (omega arith) c.spec-item.is)

pub returns-in_default : goal.returns-in_default
returns-in_default c = sym (no_void_word _ (omega arith))

pub returns-in_default-2 : goal.returns-in_default-2
returns-in_default-2 c = sym (words_and_more _ (omega arith))
