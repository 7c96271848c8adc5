use Rattle.std.proofs.Common.{refl, ap, ◌∙◌}
use Rattle.c_syntax.specs.Operand.{End}
use Rattle.c_syntax.specs.Operand as operands
use Rattle.c_steps.specs.Calls.{reach_step}
use Rattle.c_steps.specs.Work.{IsWrong}
use Rattle.c_machine_work.specs.Views.{end_of}
use Rattle.c_machine_values.specs.Contents.{stack_of}
use Rattle.c_machine_values.proofs.values.Values.end.Goals as goal

pub returns-in-Some : goal.returns-in-Some
returns-in-Some c = λ objects. let s = stack_of c.args.self.now in let m = c.args.self.now.memory in (
  λ p same work i. (
    End operands.None,
    ap (λ e. reach_step c.args.pos (end_of e) work s m i) c.in-IsWrong.is ∙ ap (λ at. reach_step at IsWrong work s m i) c.in-Some.is,
  ),
  refl,
  refl,
)
