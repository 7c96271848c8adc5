use Rattle.std.proofs.Common.{sym, ◌∙◌}
use Rattle.c_syntax.specs.Operand.{operand_of}
use Rattle.c_objects.proofs.Found.{assertion_passes, assertion_fails}
use Rattle.c_objects.proofs.memory.ObjectMemory.check_assertion.Goals as goal

pub returns-then-truth : goal.returns-then-truth
returns-then-truth c = λ objects. assertion_passes objects c.args.self.now c.args.ty c.args.v c.requires.typed (c.in-Ok.ensures objects)
    (sym c.truth.ensures ∙ c.if-truth.true)

pub returns-in-Err : goal.returns-in-Err
returns-in-Err c = λ objects. assertion_fails objects c.args.self.now c.args.ty c.args.v c.in-Err.wrong.kind (operand_of c.in-Err.wrong.operand)
    c.requires.typed (c.in-Err.ensures objects)
