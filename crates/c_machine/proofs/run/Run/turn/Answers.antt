use Rattle.std.proofs.Common.{refl, sym, ap, ◌∙◌, subst}
use Rattle.c_steps.specs.States.{Wrong}
use Rattle.c_steps.specs.Statements.{condition_scalar}
use Rattle.c_machine_values.specs.Contents.{stack_of}
use Rattle.c_machine_values.specs.declared.row.Tested.TheVariants as tests
use Rattle.c_machine_values.specs.Rows.{Tests}
use Rattle.c_machine_work.specs.declared.items.Loop.{Loop}
use Rattle.c_machine_work.specs.Views.{loop_of}
use Rattle.c_machine_work.specs.Works.{work_of}
use Rattle.c_machine.proofs.Tested.{arrives, stays, turn_wrong, turned, turns_over}
use Rattle.c_machine.proofs.run.Run.turn.Goals as goal

pub returns-in_ok-put_turn-in-Passes : goal.returns-in_ok-put_turn-in-Passes
returns-in_ok-put_turn-in-Passes c = λ p.
    let m = c.args.self.now.values.memory in
    let s = stack_of c.args.self.now.values in
    let rest = stack_of c.test.new.self in
    let ty = c.condition_scalar.ensures ∙ ap (λ (x : Loop). condition_scalar (loop_of x)) c.deref.ensures in
    let h = subst (λ o. Tests p.objects o s m rest (tests.Passes c.in-Passes.v)) ty (subst (λ r. Tests p.objects c.condition_scalar.result s m rest r) c.in-Passes.is (c.in_ok-v.ensures.test p.objects)) in
    turned p c.args.turns (loop_of c.args.parts.now.value) c.in-Passes.v s rest m h.0 (work_of c.args.self.now.work) _ h.1 (sym c.truth.ensures ∙ c.if-truth.true)
    ∙ arrives _ _ _ _ _ _ _ (sym c.in_ok-put_turn-in-Passes.ensures) refl (sym c.in_ok-v.ensures.memory)

pub returns-else-truth : goal.returns-else-truth
returns-else-truth c = λ p.
    let m = c.args.self.now.values.memory in
    let s = stack_of c.args.self.now.values in
    let rest = stack_of c.test.new.self in
    let ty = c.condition_scalar.ensures ∙ ap (λ (x : Loop). condition_scalar (loop_of x)) c.deref.ensures in
    let h = subst (λ o. Tests p.objects o s m rest (tests.Passes c.in-Passes.v)) ty (subst (λ r. Tests p.objects c.condition_scalar.result s m rest r) c.in-Passes.is (c.in_ok-v.ensures.test p.objects)) in
    turns_over p c.args.turns (loop_of c.args.parts.now.value) c.in-Passes.v s rest m h.0 (work_of c.args.self.now.work) _ h.1 (sym c.truth.ensures ∙ c.if-truth.false)
    ∙ arrives _ _ _ _ _ _ _ refl refl (sym c.in_ok-v.ensures.memory)

pub returns-in-Wrong : goal.returns-in-Wrong
returns-in-Wrong c = λ p.
    let m = c.args.self.now.values.memory in
    let s = stack_of c.args.self.now.values in
    let rest = stack_of c.test.new.self in
    let ty = c.condition_scalar.ensures ∙ ap (λ (x : Loop). condition_scalar (loop_of x)) c.deref.ensures in
    let h = subst (λ o. Tests p.objects o s m rest (tests.Wrong c.in-Wrong.kind)) ty (subst (λ r. Tests p.objects c.condition_scalar.result s m rest r) c.in-Wrong.is (c.in_ok-v.ensures.test p.objects)) in (
      (
        h.0.3.0,
        turn_wrong p c.args.turns (loop_of c.args.parts.now.value) h.0.0 s h.0.1 m h.0.2 (work_of c.args.self.now.work) _ _ h.0.3.0 h.0.3.1
            ∙ ap (λ (x : Loop). Wrong x.pos c.in-Wrong.kind h.0.3.0) (sym c.deref-in-Wrong.ensures),
      ),
      stays _ _ _ _ _ _ h.1 c.in_ok-v.ensures.memory,
    )
