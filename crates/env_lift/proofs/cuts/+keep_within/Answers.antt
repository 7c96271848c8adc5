use Rattle.std.proofs.Common.{◌≡◌, sym, subst, ap, ◌∙◌, Some, List, ℤ}
use Rattle.ext_int.specs.declared.Live.{Live as LiveOrDead}
use Rattle.ext_int.specs.declared.Live.TheVariants.{Dead}
use Rattle.num_api.specs.declared.expr.NExpr.{NExpr}
use Rattle.num_api.specs.Exprs.{NExprTree, nexpr_tree, Binary}
use Rattle.num_api.specs.Value.{value_of, binary_value}
use Rattle.num_api.proofs.Trees.{nexpr_binary}
use Rattle.env_lift.specs.States.{AllAdmit}
use Rattle.env_lift.specs.Changes.{IsCut, LiesIn}
use Rattle.env_lift.proofs.Changing.{ok_map, cut_weaker, cut_twice}
use Rattle.env_lift.proofs.Cutting.{operands_lie}
use Rattle.env_lift.proofs.cuts.+keep_within.Goals as goal

pub returns-in-Dead-clause-cut : goal.returns-in-Dead-clause-cut
returns-in-Dead-clause-cut g t c =
    let D = g.V.ValueDomain in let op = c.in-Binary.op in let a = nexpr_tree c.in-Binary.a.value in let b = nexpr_tree c.in-Binary.b.value in
    let both = c.in-Some-parts.both in let state = c.args.state.now in
    let tree : nexpr_tree c.args.e.now ≡ Binary op a b = ap nexpr_tree c.in-Binary.is ∙ nexpr_binary op c.in-Binary.a c.in-Binary.b in
    let law = λ (v : List ℤ) (x y n : ℤ) (h : AllAdmit D.admits state v) (e : value_of v a ≡ Some x) (f : value_of v b ≡ Some y) (o : binary_value op x y ≡ Some n) (w : D.admits c.args.value.now n).
    c.in-Some-parts.ensures.some v x y n h (subst (λ (s : NExpr). value_of v (nexpr_tree s) ≡ Some x) (sym c.deref-in-Binary.ensures) e)
    (subst (λ (s : NExpr). value_of v (nexpr_tree s) ≡ Some y) (sym c.deref-in-Binary-2.ensures) f) o w in
    let first = subst (λ (s : NExpr). IsCut D.admits D.known D.exact state c.keep_within-in-Binary.new.state (LiesIn D.admits (nexpr_tree s) both.0) c.in_ok-keep_within-in-Binary.field-0) c.deref-in-Binary-3.ensures c.in_ok-keep_within-in-Binary.ensures.cut in
    let dead = subst (λ (answer : LiveOrDead). IsCut D.admits D.known D.exact state c.keep_within-in-Binary.new.state (LiesIn D.admits a both.0) answer) c.in-Dead.is first in
    subst (λ (e : NExprTree). IsCut D.admits D.known D.exact state c.keep_within-in-Binary.new.state (LiesIn D.admits e c.args.value.now) Dead) (sym tree)
    (cut_weaker D.admits D.known D.exact state c.keep_within-in-Binary.new.state (LiesIn D.admits a both.0) (LiesIn D.admits (Binary op a b) c.args.value.now) Dead dead
    (λ v p q. (operands_lie D.admits state op a b c.args.value.now both.0 both.1 law v p q).0))

pub returns-in-Live-clause-cut : goal.returns-in-Live-clause-cut
returns-in-Live-clause-cut g t c =
    let D = g.V.ValueDomain in let op = c.in-Binary.op in let a = nexpr_tree c.in-Binary.a.value in let b = nexpr_tree c.in-Binary.b.value in
    let both = c.in-Some-parts.both in let state = c.args.state.now in let last = c.keep_within-in-Binary-2.new.state in
    let tree : nexpr_tree c.args.e.now ≡ Binary op a b = ap nexpr_tree c.in-Binary.is ∙ nexpr_binary op c.in-Binary.a c.in-Binary.b in
    let law = λ (v : List ℤ) (x y n : ℤ) (h : AllAdmit D.admits state v) (e : value_of v a ≡ Some x) (f : value_of v b ≡ Some y) (o : binary_value op x y ≡ Some n) (w : D.admits c.args.value.now n).
    c.in-Some-parts.ensures.some v x y n h (subst (λ (s : NExpr). value_of v (nexpr_tree s) ≡ Some x) (sym c.deref-in-Binary.ensures) e)
    (subst (λ (s : NExpr). value_of v (nexpr_tree s) ≡ Some y) (sym c.deref-in-Binary-2.ensures) f) o w in
    let first = subst (λ (s : NExpr). IsCut D.admits D.known D.exact state c.keep_within-in-Binary.new.state (LiesIn D.admits (nexpr_tree s) both.0) c.in_ok-keep_within-in-Binary.field-0) c.deref-in-Binary-3.ensures c.in_ok-keep_within-in-Binary.ensures.cut in
    ok_map _ _ c.keep_within-in-Binary-2.result c.keep_within-in-Binary-2.ensures.cut (λ answer cut.
    let second = subst (λ (s : NExpr). IsCut D.admits D.known D.exact c.keep_within-in-Binary.new.state last (LiesIn D.admits (nexpr_tree s) both.1) answer) c.deref-in-Binary-4.ensures cut in
    subst (λ (e : NExprTree). IsCut D.admits D.known D.exact state last (LiesIn D.admits e c.args.value.now) answer) (sym tree)
    (cut_twice D.admits D.known D.exact state c.keep_within-in-Binary.new.state last (LiesIn D.admits a both.0) (LiesIn D.admits b both.1) (LiesIn D.admits (Binary op a b) c.args.value.now)
    c.in_ok-keep_within-in-Binary.field-0 answer first second (operands_lie D.admits state op a b c.args.value.now both.0 both.1 law)))
