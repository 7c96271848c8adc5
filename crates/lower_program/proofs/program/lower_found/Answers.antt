use Rattle.std.proofs.Common.{ap, sym, ◌∙◌}
use Rattle.std.specs.Prelude.{option_map}
use Rattle.c_syntax.specs.Program.{tfunction_tree, tprogram_tree}
use Rattle.c_syntax.specs.TypedStmt.{tstmt_tree}
use Rattle.lower_trees.specs.LowerProgram.{placed_body}
use Rattle.lower_program.proofs.program.lower_found.Goals as goal

pub returns-in-None : goal.returns-in-None
returns-in-None c =
    c.no_body.ensures c.args.f
    ∙ ap (λ body. placed_body (tprogram_tree c.args.program.now) c.args.f c.args.d (tfunction_tree c.args.function.now) (option_map tstmt_tree body))
    (sym c.in-None.is)
