use Rattle.std.proofs.Common.{◌∙◌, ap, subst, sym}
use Rattle.std.specs.Prelude.{IfOk, IfSome}
use Rattle.std.proofs.lemmas.Option.{IfSome_then}
use Rattle.std.proofs.lemmas.Result.{IfOk-weaker}
use Rattle.machine_nums.specs.MExprs.{mexpr_tree}
use Rattle.csharp.specs.Trees.{csexpr_tree}
use Rattle.csharp.specs.declared.expression.CsExpr.{CsExpr}
use Rattle.csharp.proofs.CodeTrees.{csexpr_binary, csexpr_unary}
use Rattle.mem_cell_exprs.specs.Exprs.{IsNumberFor}
use Rattle.mem_cell_exprs.proofs.Options.{some-at}
use Rattle.mem_cell_shows.specs.Exacts.{IsExactFor}
use Rattle.mem_cell_shows.proofs.exacts.exact.Goals as goal

pub returns-in-Some : goal.returns-in-Some
returns-in-Some c =
    let types = c.args.types.now in let o = c.in-Unary.operand in
    let operand : IsNumberFor types (csexpr_tree o.value) (mexpr_tree c.in-Some.a) =
    subst (λ (x : CsExpr). IsNumberFor types (csexpr_tree x) (mexpr_tree c.in-Some.a)) c.deref.ensures
    (some-at (λ m. IsNumberFor types (csexpr_tree c.deref.result.now) (mexpr_tree m)) c.in_ok-a-in-Unary.field-0 c.in-Some.a c.in-Some.is c.in_ok-a-in-Unary.ensures) in
    subst (λ e. IfOk c.of_unary.result (λ found. IfSome found (λ m. IsExactFor types e (mexpr_tree m)))) (sym (ap csexpr_tree c.in-Unary.is ∙ csexpr_unary c.in-Unary.op o))
    (IfOk-weaker c.of_unary.result _ _ (λ found h. IfSome_then found h (λ m k. k types (csexpr_tree o.value) operand)) c.of_unary.ensures)

pub returns-in-Some-3 : goal.returns-in-Some-3
returns-in-Some-3 c =
    let types = c.args.types.now in let l = c.in-Binary.left in let r = c.in-Binary.right in
    let left : IsNumberFor types (csexpr_tree l.value) (mexpr_tree c.in-Some-2.a) =
    subst (λ (x : CsExpr). IsNumberFor types (csexpr_tree x) (mexpr_tree c.in-Some-2.a)) c.deref-in-Binary.ensures
    (some-at (λ m. IsNumberFor types (csexpr_tree c.deref-in-Binary.result.now) (mexpr_tree m)) c.in_ok-a-in-Binary.field-0 c.in-Some-2.a c.in-Some-2.is c.in_ok-a-in-Binary.ensures) in
    let right : IsNumberFor types (csexpr_tree r.value) (mexpr_tree c.in-Some-3.b) =
    subst (λ (x : CsExpr). IsNumberFor types (csexpr_tree x) (mexpr_tree c.in-Some-3.b)) c.deref-in-Binary-2.ensures
    (some-at (λ m. IsNumberFor types (csexpr_tree c.deref-in-Binary-2.result.now) (mexpr_tree m)) c.in_ok-b-in-Binary.field-0 c.in-Some-3.b c.in-Some-3.is c.in_ok-b-in-Binary.ensures) in
    subst (λ e. IfOk c.of_binary.result (λ found. IfSome found (λ m. IsExactFor types e (mexpr_tree m)))) (sym (ap csexpr_tree c.in-Binary.is ∙ csexpr_binary c.in-Binary.op l r))
    (IfOk-weaker c.of_binary.result _ _ (λ found h. IfSome_then found h (λ m k. k types (csexpr_tree l.value) (csexpr_tree r.value) left right)) c.of_binary.ensures)
