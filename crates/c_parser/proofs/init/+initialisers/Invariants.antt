use Rattle.std.proofs.Common.{◌+◌, ◌*◌, ◌≤◌, length}
use Rattle.c_syntax_written.specs.WrittenDecl.{InitTrees, inits_from}
use Rattle.c_grammar.specs.Parts.{MoreInitialisers}
use Rattle.c_grammar.specs.Descent.{Outcome, Goes}
use Rattle.c_parser_steps.specs.Views.{scene_of}
use Rattle.c_parser.proofs.init.+initialisers.Given as goal

abbrev pub decreases-initialiser : goal.decreases-initialiser
decreases-initialiser l = 8 * length l.tokens.now + 1

abbrev pub decreases-braces : goal.decreases-braces
decreases-braces l = 8 * length l.tokens.now + 0

abbrev pub decreases-initialisers : goal.decreases-initialisers
decreases-initialisers l = 8 * length l.tokens.now + 2

abbrev pub decreases-more_initialisers : goal.decreases-more_initialisers
decreases-more_initialisers l = 8 * length l.tokens.now + 0

-- what is left of the tokens decides for all
abbrev pub invariant-more_initialisers-loop-rest : goal.invariant-more_initialisers-loop-rest
invariant-more_initialisers-loop-rest l =
    ((o : Outcome InitTrees) → Goes l.count (scene_of l.context) (MoreInitialisers (inits_from l.items.items)) l.rest o → Goes l.count (scene_of l.context) (MoreInitialisers (inits_from l.fn.before.items)) l.fn.tokens o) × (length l.rest ≤ length l.fn.tokens)

abbrev pub decreases-more_initialisers-loop-rest : goal.decreases-more_initialisers-loop-rest
decreases-more_initialisers-loop-rest l = length l.rest
