use Rattle.std.proofs.Common.{get_or, subst, sym, take}
use Rattle.mem_cell_grid.proofs.Lists.{get-or, take-push, take-whole}
use Rattle.mem_cell_stores.specs.Hits.{AreWeakened}
use Rattle.mem_cell_stores.proofs.Weaker.{weakened-more, weakened-none}
use Rattle.mem_cell_stores.proofs.weakly.weaken_in.Goals as goal

pub loop-object-init : goal.loop-object-init
loop-object-init c = weakened-none c.args.bytes c.args.ty c.args.content.now c.new-variables.result.items c.args.grid.now

pub loop-object-preserved : goal.loop-object-preserved
loop-object-preserved c =
    let b = c.args.bytes in let ty = c.args.ty in let content = c.args.content.now in
    let objects = c.args.objects.now in let n = c.loop-object.object-index in let o = get_or objects n 0 in
    let grid = c.args.grid.now in let new = c.weaken_at.new.grid in let ys = c.loop-object.variables.items in let zs = c.weaken_at.new.variables.items in
    subst (λ os. AreWeakened os b ty content zs grid new) (sym (take-push objects n o (get-or objects n 0 c.loop-object-test.true)))
    (weakened-more b ty content (take n objects) o ys zs grid c.loop-object.grid new c.in_ok-weaken_at.ensures.among c.loop-object.invariant c.in_ok-weaken_at.ensures.weak)

pub returns : goal.returns
returns c =
    subst (λ os. AreWeakened os c.args.bytes c.args.ty c.args.content.now c.loop-object.variables.items c.args.grid.now c.loop-object.grid)
    (take-whole c.args.objects.now c.loop-object.object-index c.loop-object-test.false) c.loop-object.invariant
