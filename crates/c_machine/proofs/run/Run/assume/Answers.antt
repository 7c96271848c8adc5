use Rattle.std.proofs.Common.{refl, sym, ◌∙◌, subst}
use Rattle.c_machine_values.specs.Contents.{stack_of}
use Rattle.c_machine_values.specs.Rows.{Tests}
use Rattle.c_machine_work.specs.Works.{work_of}
use Rattle.c_machine.proofs.Tested.{kept, keep_wrong, stopped, arrives, stays}
use Rattle.c_machine.proofs.run.Run.assume.Goals as goal

pub returns-in_ok-put-in-Passes : goal.returns-in_ok-put-in-Passes
returns-in_ok-put-in-Passes c = λ p.
    let m = c.args.self.now.values.memory in
    let s = stack_of c.args.self.now.values in
    let rest = stack_of c.test.new.self in
    let h = subst (λ r. Tests p.objects c.args.ty s m rest r) c.in-Passes.is (c.in_ok-v.ensures.test p.objects) in
    kept p c.args.pos c.args.ty c.in-Passes.v s rest m h.0 (work_of c.args.self.now.work) _ h.1 (sym c.truth.ensures ∙ c.if-truth.true)
    ∙ arrives _ _ _ _ _ _ _ refl (sym c.in_ok-put-in-Passes.ensures) (sym c.in_ok-v.ensures.memory)

pub returns-in_ok-put_value-in-Passes : goal.returns-in_ok-put_value-in-Passes
returns-in_ok-put_value-in-Passes c = λ p.
    let m = c.args.self.now.values.memory in
    let s = stack_of c.args.self.now.values in
    let rest = stack_of c.test.new.self in
    let h = subst (λ r. Tests p.objects c.args.ty s m rest r) c.in-Passes.is (c.in_ok-v.ensures.test p.objects) in (
      stopped p c.args.pos c.args.ty c.in-Passes.v s rest m h.0 (work_of c.args.self.now.work) _ h.1 (sym c.truth.ensures ∙ c.if-truth.false),
      stays _ _ _ _ _ _ (c.in_ok-put_value-in-Passes.ensures ∙ sym h.0) c.in_ok-v.ensures.memory,
    )

pub returns-in-Wrong : goal.returns-in-Wrong
returns-in-Wrong c = λ p.
    let m = c.args.self.now.values.memory in
    let s = stack_of c.args.self.now.values in
    let rest = stack_of c.test.new.self in
    let h = subst (λ r. Tests p.objects c.args.ty s m rest r) c.in-Wrong.is (c.in_ok-v.ensures.test p.objects) in (
      (h.0.3.0, keep_wrong p c.args.pos c.args.ty h.0.0 s h.0.1 m h.0.2 (work_of c.args.self.now.work) _ _ h.0.3.0 h.0.3.1),
      stays _ _ _ _ _ _ h.1 c.in_ok-v.ensures.memory,
    )
