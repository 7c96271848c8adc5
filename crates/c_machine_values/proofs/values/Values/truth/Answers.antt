use Rattle.std.proofs.Common.{[], ◌∷◌, ap, sym, ◌∙◌, subst}
use Rattle.c_values.specs.Places.{ObjectMemory}
use Rattle.c_values.specs.Values.{bit}
use Rattle.c_steps.specs.States.{held}
use Rattle.c_steps.specs.Work.{Truth}
use Rattle.c_machine_values.specs.declared.row.Row.TheVariants as rows
use Rattle.c_machine_values.specs.Contents.{stack_of}
use Rattle.c_machine_values.specs.Rows.{Does, Tests}
use Rattle.c_machine_work.specs.Views.{on_top}
use Rattle.c_machine_values.proofs.Done.{truth_goes, truth_wrong}
use Rattle.c_machine_values.proofs.values.Values.truth.Goals as goal

pub returns-in_ok-put_value-in-Passes : goal.returns-in_ok-put_value-in-Passes
returns-in_ok-put_value-in-Passes c = λ objects.
    let m = c.args.self.now.memory in
    let s = stack_of c.args.self.now in
    let below = stack_of c.test.new.self in
    let h = subst (λ r. Tests objects c.args.ty s m below r) c.in-Passes.is (c.in_ok-v.ensures.test objects) in
    let on = c.in_ok-put_value-in-Passes.ensures ∙ ap (λ v. held v ∷ below) (c.bit.ensures ∙ ap bit c.truth.ensures) in
    subst (λ (n : ObjectMemory). Does objects (Truth c.args.pos c.args.ty) s m (on_top c.put_value.new.stack []) n rows.Went) (sym c.in_ok-v.ensures.memory)
    (truth_goes objects m s _ below c.args.pos c.args.ty c.in-Passes.v h.0 on h.1)

pub returns-in-Wrong : goal.returns-in-Wrong
returns-in-Wrong c = λ objects.
    let m = c.args.self.now.memory in
    let s = stack_of c.args.self.now in
    let t = stack_of c.test.new.self in
    let h = subst (λ r. Tests objects c.args.ty s m t r) c.in-Wrong.is (c.in_ok-v.ensures.test objects) in
    subst (λ (n : ObjectMemory). Does objects (Truth c.args.pos c.args.ty) s m t n (rows.Wrong c.args.pos c.in-Wrong.kind)) (sym c.in_ok-v.ensures.memory)
    (truth_wrong objects m s t h.0.1 c.args.pos c.args.ty h.0.0 _ h.0.3.0 h.0.2 h.1 h.0.3.1)
