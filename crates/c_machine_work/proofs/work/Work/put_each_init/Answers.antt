use Rattle.std.proofs.Common.{◌≡◌, ◌+◌, ◌-◌, [], ◌∷◌, drop, sym, ap, ◌∙◌, arith}
use Rattle.c_machine_trees.specs.Statements.{inits_from}
use Rattle.c_steps.specs.Statements.{init_items}
use Rattle.c_machine_work.specs.Works.{work_of}
use Rattle.c_machine_work.proofs.Inits.{no_inits, one_more_init}
use Rattle.c_machine_work.proofs.work.Work.put_each_init.Goals as goal

pub loop-rest-init : goal.loop-rest-init
loop-rest-init c = (omega arith, sym (no_inits c.args.object c.args.inits.now (work_of c.args.self.now)))

pub loop-rest-preserved : goal.loop-rest-preserved
loop-rest-preserved c =
    let inits = c.args.inits.now in
    let k = c.loop-rest.rest - 1 in
    let next : k + 1 ≡ c.loop-rest.rest = omega arith in
    let init = c.index-inits-rest.result in (
      omega arith,
      c.in_ok-put_init.ensures
          ∙ ap (init_items c.args.object (inits_from (init ∷ []))) c.loop-rest.invariant.1
          ∙ ap (λ n. init_items c.args.object (inits_from (init ∷ [])) (init_items c.args.object (inits_from (drop n inits)) (work_of c.args.self.now))) (sym next)
          ∙ one_more_init c.args.object inits k init (work_of c.args.self.now) (omega arith) c.index-inits-rest.is,
    )
