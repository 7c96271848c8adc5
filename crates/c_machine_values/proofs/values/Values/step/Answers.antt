use Rattle.std.proofs.Common.{List, [], ◌∷◌, map, Err, ap, ◌∙◌, subst}
use Rattle.c_syntax.specs.declared.operator.TBinaryOp.{TBinaryOp}
use Rattle.c_syntax.specs.Types.{object_tree}
use Rattle.block_mem.specs.declared.types.Value.{Value}
use Rattle.c_steps.specs.Changes.{step_operator}
use Rattle.c_steps.specs.States.{held}
use Rattle.c_machine_work.specs.declared.stack.Held as code
use Rattle.c_machine_work.specs.Views.{on_top}
use Rattle.c_machine_values.specs.declared.changes.Change.{Change}
use Rattle.c_machine_values.specs.Modified.{Modifies}
use Rattle.c_machine_values.proofs.Modifying.{step_wrong}
use Rattle.c_machine_values.proofs.values.Values.step.Goals as goal

pub returns-in_ok-put_value-in-Err : goal.returns-in_ok-put_value-in-Err
returns-in_ok-put_value-in-Err c =
    let objects = map object_tree c.args.objects.now in
    let m = c.args.self.now.memory in
    let n = c.change.new.self.memory in
    let target = c.take_value-target.result in
    let ty = c.scalar_there.result in
    let on = c.in_ok-put_value-in-Err.ensures ∙ ap (λ (x : List code.Held). held target ∷ on_top x []) c.in-Err.ensures.stack in
    let change : TBinaryOp → Change = λ op. record { pos = c.args.pos; place = c.args.place; ty = ty; op = op; time = c.args.time } in
    step_wrong objects m n _ _ _ c.args.pos c.args.place c.args.ty ty c.scalar_there.ensures c.args.time c.args.way c.args.stride target c.in-Err.fault
    c.take_value-target.ensures on
    (subst (λ (v : Value). Modifies objects (change (step_operator c.args.way c.args.stride)) target v m n (Err c.in-Err.fault)) c.one.ensures
    (subst (λ (op : TBinaryOp). Modifies objects (change op) target c.one.result m n (Err c.in-Err.fault)) c.step_operator.ensures c.in-Err.ensures.memory))
