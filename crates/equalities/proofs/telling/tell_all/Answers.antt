use Rattle.std.proofs.Common.{rules, arith, suc, ◌≡◌, ℕ, ◌+◌, List, ◌∷◌, sym, subst, ap, ◌∙◌, drop, Some}
use Rattle.ext_int.specs.Valuation.{value_at}
use Rattle.num_api.specs.Exprs.{NExprTree, nexpr_tree}
use Rattle.num_api.specs.Value.{value_of}
use Rattle.std.proofs.Math.Seq.{drop-cons}
use Rattle.equalities.specs.declared.pairs.Equation.{Equation}
use Rattle.equalities.specs.Pairs.{equalities_of, AreSo}
use Rattle.num_api.proofs.PutOut.{adds_one, tells_one}
use Rattle.equalities.proofs.telling.tell_all.Goals as goal

pub loop-p-preserved : goal.loop-p-preserved
loop-p-preserved c =
    let next : suc c.loop-p.p-index ≡ c.loop-p.p-index + 1 = omega arith in
    let left : drop c.loop-p.p-index c.args.pairs.now ≡ c.p-item.result ∷ drop (c.loop-p.p-index + 1) c.args.pairs.now =
    subst (λ (n : ℕ). drop c.loop-p.p-index c.args.pairs.now ≡ c.p-item.result ∷ drop n c.args.pairs.now) next
    (drop-cons c.args.pairs.now c.loop-p.p-index c.p-item.result (search rules) ∙ ap (λ (q : Equation). q ∷ drop (suc c.loop-p.p-index) c.args.pairs.now) (search rules)) in
    record {
      adds = adds_one _ _ _ _ c.loop-p.invariant.adds c.in_ok-push.ensures.ok tt;
      tells = λ v a. tells_one v _ _ _ _ c.loop-p.invariant.adds c.in_ok-push.ensures.ok (c.loop-p.invariant.tells v a)
          (subst (λ (t : NExprTree). value_of v t ≡ Some (value_at v c.p-item.result.x.0)) (sym (c.in_ok-e.ensures ∙ ap nexpr_tree c.deref.ensures)) (subst (λ (l : List Equation). AreSo v (equalities_of l)) left (c.loop-p.invariant.left v a)).0);
      left = λ v a. (subst (λ (l : List Equation). AreSo v (equalities_of l)) left (c.loop-p.invariant.left v a)).1;
    }
