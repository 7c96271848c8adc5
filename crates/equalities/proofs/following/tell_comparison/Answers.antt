use Rattle.std.proofs.Common.{◌≡◌, sym, subst, ap, ◌∙◌, Some}
use Rattle.num_api.specs.declared.expr.NExpr.{NExpr}
use Rattle.num_api.specs.Exprs.{NExprTree, Binary, nexpr_tree}
use Rattle.num_api.specs.Plain.{Standing}
use Rattle.num_api.specs.Standings.{standing_of, Stands}
use Rattle.num_api.specs.Value.{value_of}
use Rattle.num_api.proofs.PutOut.{adds_twice, tells_twice}
use Rattle.num_api.proofs.Trees.{nexpr_binary}
use Rattle.num_api.proofs.Truths.{turned_stands}
use Rattle.equalities.proofs.Comparisons.{compared_sides}
use Rattle.equalities.proofs.following.tell_comparison.Goals as goal

pub returns-clause-kept : goal.returns-clause-kept
returns-clause-kept g c = adds_twice _ _ _ c.in_ok-tell_side.ensures.kept c.in_ok-tell_side-2.ensures.kept

pub returns-clause-told : goal.returns-clause-told
returns-clause-told g c = λ v n o e h.
    let op = c.in-Binary.op in let a = nexpr_tree c.in-Binary.a.value in let b = nexpr_tree c.in-Binary.b.value in
    let tree : nexpr_tree c.args.e.now ≡ Binary op a b = ap nexpr_tree c.in-Binary.is ∙ nexpr_binary op c.in-Binary.a c.in-Binary.b in
    let value = λ (r : NExpr). value_of v (nexpr_tree r) in
    let sides = compared_sides v op a b c.args.truth (standing_of c.in-Some.how) n c.in-Some.ensures.some (subst (λ (r : NExprTree). value_of v r ≡ Some n) tree e) h in
    tells_twice v _ _ _ c.in_ok-tell_side.ensures.kept c.in_ok-tell_side-2.ensures.kept
    (c.in_ok-tell_side.ensures.told v sides.0 sides.1 o (ap value c.deref.ensures ∙ sides.2) (ap value c.deref-2.ensures ∙ sides.3) sides.4)
    (c.in_ok-tell_side-2.ensures.told v sides.1 sides.0 o (ap value c.deref-3.ensures ∙ sides.3) (ap value c.deref-4.ensures ∙ sides.2)
    (subst (λ (k : Standing). Stands k sides.1 sides.0) (sym c.turned.ensures) (turned_stands (standing_of c.in-Some.how) sides.0 sides.1 sides.4)))
