use Rattle.std.proofs.Common.{◌∷◌, refl, sym, ap, ◌∙◌, subst}
use Rattle.c_machine_trees.specs.Expressions.{expr_tree}
use Rattle.c_steps.specs.States.{held}
use Rattle.c_machine_values.specs.Contents.{stack_of}
use Rattle.c_machine_values.specs.Rows.{Tests}
use Rattle.c_machine_work.specs.Works.{work_of}
use Rattle.c_machine.proofs.Tested.{or_on, or_over, or_wrong, arrives, stays}
use Rattle.c_machine.proofs.run.Run.or_else.Goals as goal

pub returns-in_ok-put_value-in-Passes : goal.returns-in_ok-put_value-in-Passes
returns-in_ok-put_value-in-Passes c = λ p.
    let m = c.args.self.now.values.memory in
    let s = stack_of c.args.self.now.values in
    let rest = stack_of c.test.new.self in
    let h = subst (λ r. Tests p.objects c.args.ty s m rest r) c.in-Passes.is (c.in_ok-v.ensures.test p.objects) in
    or_over p c.args.pos c.args.ty c.in-Passes.v s rest m h.0 (work_of c.args.self.now.work) _ (expr_tree c.args.right.now.value) h.1 (sym c.truth.ensures ∙ c.if-truth.true)
    ∙ arrives _ _ _ _ _ _ _ refl (sym (c.in_ok-put_value-in-Passes.ensures ∙ ap (λ v. held v ∷ rest) c.bit.ensures)) (sym c.in_ok-v.ensures.memory)

pub returns-in_ok-put_right-in-Passes : goal.returns-in_ok-put_right-in-Passes
returns-in_ok-put_right-in-Passes c = λ p.
    let m = c.args.self.now.values.memory in
    let s = stack_of c.args.self.now.values in
    let rest = stack_of c.test.new.self in
    let h = subst (λ r. Tests p.objects c.args.ty s m rest r) c.in-Passes.is (c.in_ok-v.ensures.test p.objects) in
    or_on p c.args.pos c.args.ty c.in-Passes.v s rest m h.0 (work_of c.args.self.now.work) _ (expr_tree c.args.right.now.value) h.1 (sym c.truth.ensures ∙ c.if-truth.false)
    ∙ arrives _ _ _ _ _ _ _ (sym c.in_ok-put_right-in-Passes.ensures) refl (sym c.in_ok-v.ensures.memory)

pub returns-in-Wrong : goal.returns-in-Wrong
returns-in-Wrong c = λ p.
    let m = c.args.self.now.values.memory in
    let s = stack_of c.args.self.now.values in
    let rest = stack_of c.test.new.self in
    let h = subst (λ r. Tests p.objects c.args.ty s m rest r) c.in-Wrong.is (c.in_ok-v.ensures.test p.objects) in (
      (h.0.3.0, or_wrong p c.args.pos c.args.ty h.0.0 s h.0.1 m h.0.2 (work_of c.args.self.now.work) _ (expr_tree c.args.right.now.value) _ h.0.3.0 h.0.3.1),
      stays _ _ _ _ _ _ h.1 c.in_ok-v.ensures.memory,
    )
