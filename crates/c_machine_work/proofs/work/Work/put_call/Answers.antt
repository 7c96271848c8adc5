use Rattle.std.proofs.Common.{◌≡◌, ◌+◌, ◌-◌, ◌∷◌, drop, sym, ap, ◌∙◌, arith}
use Rattle.c_machine_trees.specs.Expressions.{expr_tree, exprs_from}
use Rattle.c_steps.specs.Calls.{evals}
use Rattle.c_steps.specs.Work.{Eval}
use Rattle.c_machine_work.proofs.Evals.{no_evals, one_more_eval}
use Rattle.c_machine_work.specs.Works.{work_of}
use Rattle.c_machine_work.proofs.work.Work.put_call.Goals as goal

pub loop-rest-init : goal.loop-rest-init
loop-rest-init c = (omega arith, sym (no_evals c.as_slice-args.result.now (work_of c.put.new.self)))

pub loop-rest-preserved : goal.loop-rest-preserved
loop-rest-preserved c =
    let args = c.as_slice-args.result.now in
    let k = c.loop-rest.rest - 1 in
    let next : k + 1 ≡ c.loop-rest.rest = omega arith in (
      omega arith,
      c.in_ok-put_eval.ensures
          ∙ ap (λ work. Eval (expr_tree c.index-args-rest.result.value) ∷ work) c.loop-rest.invariant.1
          ∙ ap (λ n. Eval (expr_tree c.index-args-rest.result.value) ∷ evals (exprs_from (drop n args)) (work_of c.put.new.self)) (sym next)
          ∙ one_more_eval args k c.index-args-rest.result (work_of c.put.new.self) (omega arith) c.index-args-rest.is,
    )
