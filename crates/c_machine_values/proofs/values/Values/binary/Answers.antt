use Rattle.std.proofs.Common.{List, ◌∷◌, map, ap, ◌∙◌}
use Rattle.c_syntax.specs.Types.{object_tree}
use Rattle.c_steps.specs.States.{Held, held}
use Rattle.c_machine_values.proofs.Done.{binary_wrong}
use Rattle.c_machine_values.proofs.values.Values.binary.Goals as goal

pub returns-in_ok-put_two-in-Err : goal.returns-in_ok-put_two-in-Err
returns-in_ok-put_two-in-Err c =
    let right = c.take_value-right.result in
    let is = c.take_value-right.ensures ∙ ap (λ (x : List Held). held right ∷ x) c.take_value-left.ensures in
    binary_wrong (map object_tree c.args.objects.now) c.args.self.now.memory _ _ _ c.args.pos c.args.op c.take_value-left.result right _ _ is
    c.in_ok-put_two-in-Err.ensures c.in-Err.ensures.answer
