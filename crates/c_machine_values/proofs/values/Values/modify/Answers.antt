use Rattle.std.proofs.Common.{List, [], ◌∷◌, map, ap, ◌∙◌}
use Rattle.c_syntax.specs.Types.{object_tree}
use Rattle.c_steps.specs.States.{Held, held}
use Rattle.c_machine_work.specs.declared.stack.Held as code
use Rattle.c_machine_work.specs.Views.{on_top}
use Rattle.c_machine_values.proofs.Modifying.{modify_wrong}
use Rattle.c_machine_values.proofs.values.Values.modify.Goals as goal

pub returns-in_ok-put_two-in-Err : goal.returns-in_ok-put_two-in-Err
returns-in_ok-put_two-in-Err c =
    let target = c.take_value-target.result in
    let operand = c.take_value-operand.result in
    let is = c.take_value-operand.ensures ∙ ap (λ (x : List Held). held operand ∷ x) c.take_value-target.ensures in
    let on = c.in_ok-put_two-in-Err.ensures ∙ ap (λ (x : List code.Held). held operand ∷ held target ∷ on_top x []) c.in-Err.ensures.stack in
    modify_wrong (map object_tree c.args.objects.now) c.args.self.now.memory _ _ _ _ c.args.pos c.args.place c.args.ty c.scalar_there.result c.scalar_there.ensures
    c.args.op target operand c.in-Err.fault is on c.in-Err.ensures.memory
