use Rattle.mem_cell_domain.proofs.Runs.{run-begun, run-grown}
use Rattle.mem_cell_domain.proofs.initial.next_number.Goals as goal

pub returns-then-goes_on : goal.returns-then-goes_on
returns-then-goes_on c = λ bytes is r.
    let on = c.goes_on.ensures c.if-goes_on.true in run-grown bytes c.args.stretches.now.items c.args.run c.args.at c.args.number on.0 on.1 is r

pub returns : goal.returns
returns c = λ bytes is r. run-begun bytes c.push_run.new.stretches.items c.args.at c.args.number is (c.in_ok-push_run.ensures bytes r)
