use Rattle.c_syntax.specs.Program.{tprogram_tree}
use Rattle.c_rules.proofs.Stages.{main_defined}
use Rattle.c_rules.proofs.questions.ordered.Goals as goal

pub check_depth-requires-clause-main : goal.check_depth-requires-clause-main
check_depth-requires-clause-main c = main_defined (tprogram_tree c.args.program.now) c.args.graph.now c.requires.graph c.args.main c.requires.main
