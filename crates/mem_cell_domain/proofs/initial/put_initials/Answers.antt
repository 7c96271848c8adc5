use Rattle.std.proofs.Common.{subst}
use Rattle.mem_cell_domain.specs.Starts.{AreFrom}
use Rattle.mem_cell_grid.proofs.Lists.{get-index}
use Rattle.mem_cell_domain.proofs.FirstBytes.{initial-next}
use Rattle.mem_cell_domain.proofs.initial.put_initials.Goals as goal

pub loop-initial-preserved : goal.loop-initial-preserved
loop-initial-preserved c = λ objects m places long old.
    initial-next objects m c.args.initials.now c.loop-initial.initial-index c.initial-item.result c.loop-initial.grid c.put.new.self c.in_ok-held.held places long
    (get-index c.args.initials.now c.loop-initial.initial-index _ c.initial-item.result c.loop-initial-test.true c.initial-item.is) c.in_ok-held.ensures.none
    (subst (λ bs. AreFrom bs c.in_ok-held.held.stretches) c.as_slice.ensures c.in_ok-held.ensures.from) c.put.ensures
    (c.loop-initial.invariant objects m places long old)
