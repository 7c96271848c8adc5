use Rattle.std.proofs.Common.{◌≡◌, ap, arith, get_or}
use Rattle.c_syntax.specs.declared.types.Object.{Object}
use Rattle.c_syntax.specs.Types.{object_tree}
use Rattle.mem_cell_shows.proofs.Within.{small-index}
use Rattle.mem_cell_shows.proofs.insides.size_at.Goals as goal

pub returns : goal.returns
returns c =
    let objects = c.args.objects.now in let x = c.index-objects-object.result in
    let same : x.size ≡ (get_or objects c.args.object x).size = ap (λ (o : Object). o.size) c.index-objects-object.is in
    small-index object_tree objects c.args.object x ((get_or objects c.args.object x).size) c.if-object-objects.false c.index-objects-object.is (omega (arith, same))
