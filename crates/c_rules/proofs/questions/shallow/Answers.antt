use Rattle.c_syntax.specs.Program.{tprogram_tree}
use Rattle.c_rules.proofs.Stages.{main_defined}
use Rattle.c_rules.proofs.questions.shallow.Goals as goal

pub inlined_size-requires-clause-main : goal.inlined_size-requires-clause-main
inlined_size-requires-clause-main c = main_defined (tprogram_tree c.args.program.now) c.args.graph.now c.requires.graph c.args.main c.requires.main
