use Rattle.std.proofs.Common.{subst, sym}
use Rattle.machine_nums.specs.MExprs.{mexpr_tree}
use Rattle.csharp.specs.Trees.{Binary}
use Rattle.c_syntax.specs.declared.operator.TBinaryOp.TheVariants as binaries
use Rattle.mem_cell_shows.specs.Exacts.{IsExactFor}
use Rattle.mem_cell_shows.proofs.Results.{arithmetic-exact}
use Rattle.mem_cell_shows.proofs.exacts.of_binary.Goals as goal

pub returns-in_ok-binary_node-in-Some : goal.returns-in_ok-binary_node-in-Some
returns-in_ok-binary_node-in-Some c = λ types e f p q.
    let op = c.in-Arithmetic.op in let ty = c.in-Arithmetic.ty in let nop = c.in-Some.nop in
    let a = mexpr_tree c.args.a in let b = mexpr_tree c.args.b in let m = c.in_ok-binary_node-in-Some.field-0 in
    subst (λ o. IsExactFor types (Binary o e f) (mexpr_tree m)) (sym c.in-Arithmetic.is)
    (subst (IsExactFor types (Binary (binaries.Arithmetic op ty) e f)) (sym c.in_ok-binary_node-in-Some.ensures) (arithmetic-exact types op nop ty e f a b c.in-Some.ensures p q))
