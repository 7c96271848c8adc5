use Rattle.std.proofs.Common.{refl}
use Rattle.std.specs.Prelude.{option_map}
use Rattle.block_mem.specs.declared.types.Scalar.TheVariants as scalars
use Rattle.machine_nums.specs.MExprs.{mexpr_tree}
use Rattle.csharp.specs.Trees.{csexpr_tree}
use Rattle.mem_cell_exprs.specs.Known.{IsPlaceFor}
use Rattle.mem_cell_exprs.proofs.Options.{some-at}
use Rattle.mem_cell_stores.proofs.Told.{nothing-told, pointer-told}
use Rattle.mem_cell_domain.proofs.values.pointer_content.Goals as goal

pub returns-in-Some : goal.returns-in-Some
returns-in-Some g c =
    let admits = g.D.Oracle.admits in let known = c.args.known.now in let e = csexpr_tree c.args.value.now in let place = c.in-Some.place in
    let law = some-at (λ p. IsPlaceFor admits known e p.set (option_map mexpr_tree p.offset)) c.in_ok-place.field-0 place c.in-Some.is c.in_ok-place.ensures in
    pointer-told admits known e scalars.Pointer place.set place.offset _ law refl c.all.ensures refl

pub returns-in-None : goal.returns-in-None
returns-in-None g c =
    let nothing = c.anything.ensures in
    nothing-told g.D.Oracle.admits c.args.known.now (csexpr_tree c.args.value.now) scalars.Pointer c.anything.result nothing.number nothing.range nothing.set
