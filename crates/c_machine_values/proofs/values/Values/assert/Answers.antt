use Rattle.std.proofs.Common.{◌≡◌, sym, subst}
use Rattle.c_syntax.specs.Operand.{operand_of}
use Rattle.c_values.specs.Accesses.{assert_looks}
use Rattle.c_values.specs.Looks.{Passes, FailsAs, judge}
use Rattle.c_machine_values.proofs.Done.{sure_goes, sure_wrong}
use Rattle.c_machine_values.proofs.values.Values.assert.Goals as goal

pub returns-in_ok-put-in-Ok : goal.returns-in_ok-put-in-Ok
returns-in_ok-put-in-Ok c = λ objects.
    let m = c.args.self.now.memory in
    let v = c.take_value-v.result in
    sure_goes objects m _ _ _ c.args.pos c.args.ty v c.take_value-v.ensures c.in_ok-put-in-Ok.ensures
    (subst (λ o. judge objects (assert_looks m o v) ≡ Passes) (sym c.scalar_there.ensures) (c.in-Ok.ensures objects))

pub returns-in_ok-put_value-in-Err : goal.returns-in_ok-put_value-in-Err
returns-in_ok-put_value-in-Err c = λ objects.
    let m = c.args.self.now.memory in
    let v = c.take_value-v.result in
    let wrong = c.in-Err.wrong in
    sure_wrong objects m _ _ _ c.args.pos c.args.ty v _ _ c.take_value-v.ensures c.in_ok-put_value-in-Err.ensures
    (subst (λ o. judge objects (assert_looks m o v) ≡ FailsAs wrong.kind (operand_of wrong.operand)) (sym c.scalar_there.ensures) (c.in-Err.ensures objects))
