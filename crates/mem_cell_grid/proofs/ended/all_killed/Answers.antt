use Rattle.std.proofs.Common.{◌∙◌, ◌+◌, ◌∷◌, [], length, ap}
use Rattle.std.proofs.lemmas.List.{length-append}
use Rattle.mem_cell_grid.proofs.Endings.{all-killed-push}
use Rattle.mem_cell_grid.proofs.Lists.{get-index}
use Rattle.mem_cell_grid.proofs.ended.all_killed.Goals as goal

pub loop-held-preserved : goal.loop-held-preserved
loop-held-preserved c =
    let objects = c.args.objects.now in let held = c.held-item.result in let i = c.loop-held.held-index in (
      ap length c.in_ok-push.ensures.items ∙ length-append c.loop-held.left.items (c.in_ok-killed_held.field-0 ∷ []) ∙ ap (λ n. n + 1) c.loop-held.invariant.0,
      all-killed-push c.args.gone.now objects c.loop-held.left.items c.push.new.self.items held _ i c.loop-held.invariant.0 c.loop-held.invariant.1
          (get-index objects i held held c.loop-held-test.true c.held-item.is) c.in_ok-killed_held.ensures c.in_ok-push.ensures.items,
    )
