use Rattle.std.proofs.Common.{[], refl, subst, sym, take, get_or}
use Rattle.mem_cell_bytes.proofs.Steps.{has-none}
use Rattle.mem_cell_grid.proofs.Lists.{get-or, take-push, take-whole}
use Rattle.mem_cell_loads.specs.Places.{IsReadIn}
use Rattle.mem_cell_loads.proofs.Readings.{objects-more}
use Rattle.mem_cell_loads.proofs.along.read_each.Goals as goal

pub loop-object-init : goal.loop-object-init
loop-object-init g c = λ o has. has-none [] o refl has

pub loop-object-preserved : goal.loop-object-preserved
loop-object-preserved g c =
    let admits = g.D.Oracle.admits in let known = c.args.known.now in let reach = c.args.reach.now in
    let objects = c.args.objects.now in let n = c.loop-object.object-index in let o = get_or objects n 0 in
    subst (λ os. IsReadIn admits known os reach.first reach.end reach.step c.args.ty c.in_ok-all.all) (sym (take-push objects n o (get-or objects n 0 c.loop-object-test.true)))
    (objects-more admits known (take n objects) o reach.first reach.end reach.step c.args.ty c.loop-object.all c.in_ok-next.next c.in_ok-all.all
    c.in_ok-all.ensures.first c.in_ok-all.ensures.second c.loop-object.invariant c.in_ok-next.ensures)

pub returns : goal.returns
returns g c =
    let reach = c.args.reach.now in let objects = c.args.objects.now in
    subst (λ os. IsReadIn g.D.Oracle.admits c.args.known.now os reach.first reach.end reach.step c.args.ty c.loop-object.all)
    (take-whole objects c.loop-object.object-index c.loop-object-test.false) c.loop-object.invariant
