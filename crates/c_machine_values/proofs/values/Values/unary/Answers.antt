use Rattle.c_machine_values.proofs.Done.{unary_goes, unary_wrong}
use Rattle.c_machine_values.proofs.values.Values.unary.Goals as goal

pub returns-in_ok-put_value-in-Ok : goal.returns-in_ok-put_value-in-Ok
returns-in_ok-put_value-in-Ok c = λ objects.
    unary_goes objects c.args.self.now.memory _ _ _ c.args.pos c.args.op c.args.ty c.scalar_there-ty.result c.take_value-v.result c.in-Ok.new
    c.scalar_there-ty.ensures c.take_value-v.ensures c.in_ok-put_value-in-Ok.ensures (c.in-Ok.ensures objects)

pub returns-in_ok-put_value-in-Err : goal.returns-in_ok-put_value-in-Err
returns-in_ok-put_value-in-Err c = λ objects.
    unary_wrong objects c.args.self.now.memory _ _ _ c.args.pos c.args.op c.args.ty c.scalar_there-ty.result c.take_value-v.result _ _
    c.scalar_there-ty.ensures c.take_value-v.ensures c.in_ok-put_value-in-Err.ensures (c.in-Err.ensures objects)
