use Rattle.c_machine_work.proofs.Shapes.{no_operand}
use Rattle.c_machine_work.proofs.work.Work.put_operand.Goals as goal

pub unreachable-requires : goal.unreachable-requires
unreachable-requires c = no_operand c.args.e.now c.requires c.in_default.not-Unary c.in_default.not-Convert c.in_default.not-Assume c.in_default.not-Assert
