use Rattle.std.proofs.Common.{refl, sym, ◌∙◌}
use Rattle.c_syntax.specs.Program.{tprogram_tree}
use Rattle.c_machine_values.specs.Contents.{stack_of}
use Rattle.c_machine_work.specs.Works.{work_of}
use Rattle.c_machine.proofs.Parts.{puts_parts}
use Rattle.c_machine.proofs.Tested.{arrives}
use Rattle.c_machine.proofs.run.Run.evaluate.Goals as goal

pub returns-in_ok-put_parts-in_default : goal.returns-in_ok-put_parts-in_default
returns-in_ok-put_parts-in_default c =
    puts_parts (tprogram_tree c.args.program.now) c.args.e.now (work_of c.args.self.now.work) (stack_of c.args.self.now.values) c.args.self.now.values.memory _
    c.in_default.not-Const c.in_default.not-Null c.in_default.not-Any
    ∙ arrives _ _ _ _ _ _ _ (sym c.in_ok-put_parts-in_default.ensures) refl refl
