use Rattle.std.proofs.Common.{refl, subst}
use Rattle.block_mem.specs.declared.types.Scalar.TheVariants as scalars
use Rattle.machine_nums.specs.MExprs.{mexpr_tree}
use Rattle.csharp.specs.Trees.{csexpr_tree}
use Rattle.mem_cell_exprs.specs.Exprs.{IsNumberFor}
use Rattle.mem_cell_exprs.proofs.Options.{some-at}
use Rattle.mem_cell_stores.proofs.Told.{nothing-told, number-told}
use Rattle.mem_cell_domain.proofs.values.int_content.Goals as goal

pub returns-in-Some : goal.returns-in-Some
returns-in-Some g c =
    let known = c.args.known.now in let e = csexpr_tree c.args.value.now in let m = c.in-Some.m in
    let law = subst (λ types. IsNumberFor types e (mexpr_tree m)) c.as_slice.ensures
    (some-at (λ n. IsNumberFor c.as_slice.result.now e (mexpr_tree n)) c.in_ok-m.field-0 m c.in-Some.is c.in_ok-m.ensures) in
    λ t. number-told g.D.Oracle.admits known e (scalars.Int t) m _ law refl c.all.ensures refl

pub returns-in-None : goal.returns-in-None
returns-in-None g c =
    let nothing = c.anything.ensures in
    λ t. nothing-told g.D.Oracle.admits c.args.known.now (csexpr_tree c.args.value.now) (scalars.Int t) c.anything.result nothing.number nothing.range nothing.set
