use Rattle.std.specs.Prelude.{IfSome}
use Rattle.std.proofs.Common.{◌∙◌, subst, sym}
use Rattle.machine_nums.specs.MExprs.{mexpr_tree}
use Rattle.machine_nums.specs.Machines.{Admits}
use Rattle.csharp.specs.Trees.{csexpr_tree}
use Rattle.mem_cell_exprs.specs.Exprs.{IsNumberFor}
use Rattle.mem_cell_exprs.specs.Known.{IsMoved}
use Rattle.mem_cell_exprs.proofs.Made.{moved-place-made}
use Rattle.mem_cell_exprs.proofs.Options.{some-at}
use Rattle.mem_cell_exprs.proofs.places.moved.Goals as goal

pub returns-in_ok-to-in-Some-offset-clause-offset : goal.returns-in_ok-to-in-Some-offset-clause-offset
returns-in_ok-to-in-Some-offset-clause-offset g c =
    let known = c.args.known.now in let index = csexpr_tree c.args.index.now in let by = c.in-Some.by in let A = Admits g.D.Oracle.admits known.nums in
    let number : IsNumberFor known.types index (mexpr_tree by) =
    subst (λ types. IsNumberFor types index (mexpr_tree by)) c.as_slice.ensures
    (some-at (λ m. IsNumberFor c.as_slice.result.now index (mexpr_tree m)) c.in_ok-by.field-0 by c.in-Some.is c.in_ok-by.ensures) in
    let law = subst (λ o. IfSome c.in_ok-to-in-Some-offset.to (λ m. IsMoved A c.args.element c.args.back (mexpr_tree o) (mexpr_tree by) (mexpr_tree m))) c.in-Some-offset.offset-is c.in_ok-to-in-Some-offset.ensures in
    moved-place-made A known.types index c.args.element c.args.back c.args.from.set c.args.from.offset c.in_ok-to-in-Some-offset.to c.in-Some-offset.offset by
    (sym c.holds.ensures ∙ c.if-holds.false) c.in-Some-offset.is number law
