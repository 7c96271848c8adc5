use Rattle.std.proofs.Common.{◌≤◌, [], length}
use Rattle.std.specs.Prelude.{map}
use Rattle.c_syntax_written.specs.Written.{specs_tree}
use Rattle.c_syntax_written.specs.WrittenDecl.{DeclTree, initdeclarator_tree}
use Rattle.c_grammar.specs.Parts.{ADecl, Ending, Initial}
use Rattle.c_grammar.specs.Descent.{Outcome, Goes}
use Rattle.c_parser_steps.specs.Views.{boxed_declarator, scene_of}
use Rattle.c_parser.proofs.decl.initial.Given as goal

-- what is left of the tokens decides for all
abbrev pub invariant-all : goal.invariant-all
invariant-all l =
    ((o : Outcome DeclTree) → Goes l.count (scene_of l.context) (ADecl (Ending (specs_tree l.specs) (map initdeclarator_tree l.inits.items))) l.rest o → Goes l.count (scene_of l.context) (ADecl (Initial (specs_tree l.specs) [] (boxed_declarator l.fn.first))) l.fn.tokens o) × (length l.rest ≤ length l.fn.tokens)

abbrev pub decreases-all : goal.decreases-all
decreases-all l = length l.rest
