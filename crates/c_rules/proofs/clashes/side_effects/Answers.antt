use Rattle.c_syntax.specs.Program.{tprogram_tree}
use Rattle.c_rules.proofs.Clashing.{side_answer}
use Rattle.c_rules.proofs.clashes.side_effects.Goals as goal

pub returns : goal.returns
returns c =
    side_answer (tprogram_tree c.args.program.now) c.args.known.now c.requires c.args.side.now c.effects_of_side.result c.effects_of_side.ensures.reads
    c.effects_of_side.ensures.writes
