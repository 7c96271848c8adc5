use Rattle.std.proofs.Common.{sym, ap, ◌∙◌, arith}
use Rattle.c_grammar.specs.Made.{specs_pos}
use Rattle.c_parser_steps.proofs.NodeSteps.{no_pos, first_pos}
use Rattle.c_parser_steps.proofs.type_node.specs_pos.Goals as goal

pub returns-in-empty : goal.returns-in-empty
returns-in-empty c = sym (no_pos _ (omega arith)) ∙ ap specs_pos c.as_slice.ensures

pub returns-in-len1-up : goal.returns-in-len1-up
returns-in-len1-up c = c.pos.ensures ∙ sym (first_pos _ _ (omega arith) c.first-item.is) ∙ ap specs_pos c.as_slice.ensures
