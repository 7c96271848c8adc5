use Rattle.std.proofs.Common.{get_or, subst, sym, take}
use Rattle.mem_cell_grid.proofs.Lists.{get-or, take-push, take-whole}
use Rattle.mem_cell_stores.specs.Changes.{AreForgotten}
use Rattle.mem_cell_stores.proofs.Kept.{forgotten-more, forgotten-none}
use Rattle.mem_cell_stores.proofs.grids.forget_in.Goals as goal

pub loop-object-init : goal.loop-object-init
loop-object-init c = forgotten-none c.args.grid.now c.args.at c.args.count

pub loop-object-preserved : goal.loop-object-preserved
loop-object-preserved c =
    let objects = c.args.objects.now in let n = c.loop-object.object-index in let o = get_or objects n 0 in
    let grid = c.args.grid.now in let new = c.forget_at.new.grid in
    subst (λ os. AreForgotten os c.args.at c.args.count grid new) (sym (take-push objects n o (get-or objects n 0 c.loop-object-test.true)))
    (forgotten-more (take n objects) o c.args.at c.args.count grid c.loop-object.grid new c.loop-object.invariant c.in_ok-forget_at.ensures)

pub returns : goal.returns
returns c =
    subst (λ os. AreForgotten os c.args.at c.args.count c.args.grid.now c.loop-object.grid)
    (take-whole c.args.objects.now c.loop-object.object-index c.loop-object-test.false) c.loop-object.invariant
