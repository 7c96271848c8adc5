use Rattle.std.proofs.Common.{subst}
use Rattle.c_steps_laws.specs.Needs.{PlaceNeeds}
use Rattle.c_machine_values.proofs.Done.{fits_at, load_wrong}
use Rattle.c_machine_values.proofs.values.Values.load.Goals as goal

pub returns-in_ok-put_value-in-Err : goal.returns-in_ok-put_value-in-Err
returns-in_ok-put_value-in-Err c = λ objects fit.
    let m = c.args.self.now.memory in
    let place = c.take_value-place.result in
    let made = (subst (PlaceNeeds m) c.take_value-place.ensures c.requires.1.2.1).1 in
    load_wrong objects m _ _ _ c.args.pos c.args.ty c.scalar_there-ty.result place _ _ c.scalar_there-ty.ensures c.take_value-place.ensures
    c.in_ok-put_value-in-Err.ensures (c.in-Err.ensures.answer objects (fits_at objects m fit place made))
