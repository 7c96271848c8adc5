use Rattle.std.proofs.Common.{◌+◌, ◌*◌, ◌≤◌, length}
use Rattle.c_syntax_written.specs.WrittenFile.{BlockItemTrees, blockitems_from, none}
use Rattle.c_grammar.specs.Parts.{Items}
use Rattle.c_grammar.specs.Descent.{Outcome, Goes}
use Rattle.c_parser_steps.specs.Views.{scene_of}
use Rattle.c_parser.proofs.stmt.+statements.Given as goal

abbrev pub decreases-statement : goal.decreases-statement
decreases-statement l = 8 * length l.tokens.now + 1

abbrev pub decreases-label : goal.decreases-label
decreases-label l = 8 * length l.tokens.now + 0

abbrev pub decreases-case : goal.decreases-case
decreases-case l = 8 * length l.tokens.now + 0

abbrev pub decreases-default_statement : goal.decreases-default_statement
decreases-default_statement l = 8 * length l.tokens.now + 0

abbrev pub decreases-block : goal.decreases-block
decreases-block l = 8 * length l.tokens.now + 0

abbrev pub decreases-if_statement : goal.decreases-if_statement
decreases-if_statement l = 8 * length l.tokens.now + 0

abbrev pub decreases-else_part : goal.decreases-else_part
decreases-else_part l = 8 * length l.tokens.now + 1

abbrev pub decreases-else_form : goal.decreases-else_form
decreases-else_form l = 8 * length l.tokens.now + 0

abbrev pub decreases-switch_statement : goal.decreases-switch_statement
decreases-switch_statement l = 8 * length l.tokens.now + 0

abbrev pub decreases-while_loop : goal.decreases-while_loop
decreases-while_loop l = 8 * length l.tokens.now + 0

abbrev pub decreases-do_loop : goal.decreases-do_loop
decreases-do_loop l = 8 * length l.tokens.now + 0

abbrev pub decreases-for_loop : goal.decreases-for_loop
decreases-for_loop l = 8 * length l.tokens.now + 0

abbrev pub decreases-substatement : goal.decreases-substatement
decreases-substatement l = 8 * length l.tokens.now + 2

abbrev pub decreases-block_items : goal.decreases-block_items
decreases-block_items l = 8 * length l.tokens.now + 4

abbrev pub decreases-items : goal.decreases-items
decreases-items l = 8 * length l.tokens.now + 3

abbrev pub decreases-item : goal.decreases-item
decreases-item l = 8 * length l.tokens.now + 2

-- what is left of the tokens decides for all
abbrev pub invariant-items-loop-rest : goal.invariant-items-loop-rest
invariant-items-loop-rest l =
    ((o : Outcome BlockItemTrees) → Goes l.count (scene_of l.context) (Items (blockitems_from l.items.items)) l.rest o → Goes l.count (scene_of l.context) (Items none) l.fn.tokens o) × (length l.rest ≤ length l.fn.tokens)

abbrev pub decreases-items-loop-rest : goal.decreases-items-loop-rest
decreases-items-loop-rest l = length l.rest
