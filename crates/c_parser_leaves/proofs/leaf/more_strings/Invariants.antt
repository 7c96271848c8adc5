use Rattle.std.proofs.Common.{◌≤◌, length}
use Rattle.c_syntax_written.specs.Written.{ExprTree}
use Rattle.c_grammar.specs.Parts.{AnExpr, Texts}
use Rattle.c_grammar.specs.Descent.{Outcome, Goes}
use Rattle.c_parser_steps.specs.Views.{scene_of}
use Rattle.c_parser_leaves.proofs.leaf.more_strings.Given as goal

-- what is left decides for all of it
abbrev pub invariant-texts : goal.invariant-texts
invariant-texts l =
    ((o : Outcome ExprTree) → Goes l.count (scene_of l.context) (AnExpr (Texts l.pos l.bytes.items)) l.rest o → Goes l.count (scene_of l.context) (AnExpr (Texts l.pos l.fn.before.items)) l.fn.tokens o) × (length l.rest ≤ length l.fn.tokens)

abbrev pub decreases-texts : goal.decreases-texts
decreases-texts l = length l.rest
