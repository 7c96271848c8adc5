use Rattle.std.proofs.Common.{◌≤◌, false, length}
use Rattle.c_syntax_written.specs.Written.{DeclaratorTree}
use Rattle.c_grammar.specs.Parts as part
use Rattle.c_grammar.specs.Descent.{Outcome, Goes}
use Rattle.c_parser_steps.specs.Views.{scene_of}
use Rattle.c_parser_leaves.proofs.tail.consts.Given as goal

-- what is left decides for all of it
abbrev pub invariant-words : goal.invariant-words
invariant-words l =
    ((o : Outcome DeclaratorTree) → Goes l.fn.count (scene_of l.fn.context) (part.ADeclarator (part.Pointed l.fn.role l.fn.at l.is_const)) l.rest o → Goes l.fn.count (scene_of l.fn.context) (part.ADeclarator (part.Pointed l.fn.role l.fn.at false)) l.fn.tokens o) × (length l.rest ≤ length l.fn.tokens)

abbrev pub decreases-words : goal.decreases-words
decreases-words l = length l.rest
