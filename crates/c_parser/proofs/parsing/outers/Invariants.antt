use Rattle.std.proofs.Common.{List, length}
use Rattle.std.specs.Prelude.{map}
use Rattle.c_syntax_written.specs.WrittenFile.{OuterTree, outer_tree}
use Rattle.c_grammar.specs.Parts.{Outers}
use Rattle.c_grammar.specs.Descent.{Outcome, Goes}
use Rattle.c_parser.proofs.Answered.{Reads, scene_with}
use Rattle.c_parser.proofs.parsing.outers.Given as goal

-- what is left of the tokens decides for all
abbrev pub invariant-loop-rest : goal.invariant-loop-rest
invariant-loop-rest l =
    (o : Outcome (List OuterTree)) → Goes 0 (scene_with l.types) (Outers (map (λ o. outer_tree o) l.outers.items)) l.rest o → Reads l.fn.tokens o

abbrev pub decreases-loop-rest : goal.decreases-loop-rest
decreases-loop-rest l = length l.rest
