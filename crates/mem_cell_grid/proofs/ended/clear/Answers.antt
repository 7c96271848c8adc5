use Rattle.std.proofs.Common.{◌∙◌, ap, sym, take, get_or, slice_set}
use Rattle.mem_cell_bytes.specs.Contents.{nothing}
use Rattle.mem_cell_grid.specs.Endings.{cleared}
use Rattle.mem_cell_grid.proofs.Endings.{cleared-push}
use Rattle.mem_cell_grid.proofs.Lists.{get-or, take-push}
use Rattle.mem_cell_grid.proofs.ended.clear.Goals as goal

pub loop-x-preserved : goal.loop-x-preserved
loop-x-preserved c =
    let gone = c.args.gone.now in let i = c.loop-x.x-index in let x = get_or gone i 0 in let objects = c.args.objects.now in
    c.put_at.ensures ∙ ap (slice_set c.loop-x.objects x) c.nothing.ensures ∙ ap (λ xs. slice_set xs x nothing) c.loop-x.invariant
    ∙ sym (cleared-push objects (take i gone) x) ∙ ap (cleared objects) (sym (take-push gone i x (get-or gone i 0 c.loop-x-test.true)))
