use Rattle.std.proofs.Common.{List, [], ◌∷◌, ap, ◌∙◌, subst}
use Rattle.c_steps_laws.specs.Needs.{StoreNeeds}
use Rattle.c_steps.specs.States.{Held, held}
use Rattle.c_machine_work.specs.Views.{on_top}
use Rattle.c_machine_values.proofs.Done.{fits_at, store_wrong}
use Rattle.c_machine_values.proofs.values.Values.store.Goals as goal

pub returns-in_ok-put_two-in-Err : goal.returns-in_ok-put_two-in-Err
returns-in_ok-put_two-in-Err c = λ objects fit.
    let m = c.args.self.now.memory in
    let place = c.take_value-place.result in
    let v = c.take_value-v.result in
    let is = c.take_value-v.ensures ∙ ap (λ (x : List Held). held v ∷ x) c.take_value-place.ensures in
    let p = c.requires.1.0 in
    let needs = subst (λ o. StoreNeeds p.objects m o (held v ∷ held place ∷ on_top c.take_value-place.new.stack [])) c.scalar_there-ty.ensures (subst (StoreNeeds p.objects m c.args.ty) is c.requires.1.2) in
    store_wrong objects m _ _ _ c.args.pos c.args.ty c.scalar_there-ty.result place v _ _ _ c.scalar_there-ty.ensures is c.in_ok-put_two-in-Err.ensures
    (c.in-Err.ensures.checked objects (fits_at objects m fit place needs.0.1)) c.in-Err.ensures.err
