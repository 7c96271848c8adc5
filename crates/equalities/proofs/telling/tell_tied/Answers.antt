use Rattle.std.proofs.Common.{rules, arith, suc, ◌≡◌, ℕ, ◌+◌, List, ◌∷◌, subst, ap, ◌∙◌, drop}
use Rattle.std.proofs.Math.Seq.{drop-cons}
use Rattle.num_api.proofs.PutOut.{adds_twice, tells_twice}
use Rattle.equalities.specs.declared.pairs.Equation.{Equation}
use Rattle.equalities.specs.Pairs.{equalities_of, AreSo}
use Rattle.equalities.proofs.telling.tell_tied.Goals as goal

pub loop-p-preserved : goal.loop-p-preserved
loop-p-preserved c =
    let next : suc c.loop-p.p-index ≡ c.loop-p.p-index + 1 = omega arith in
    let left : drop c.loop-p.p-index c.args.pairs.now ≡ c.p-item.result ∷ drop (c.loop-p.p-index + 1) c.args.pairs.now =
    subst (λ (n : ℕ). drop c.loop-p.p-index c.args.pairs.now ≡ c.p-item.result ∷ drop n c.args.pairs.now) next
    (drop-cons c.args.pairs.now c.loop-p.p-index c.p-item.result (search rules) ∙ ap (λ (q : Equation). q ∷ drop (suc c.loop-p.p-index) c.args.pairs.now) (search rules)) in
    record {
      adds = adds_twice _ _ _ c.loop-p.invariant.adds c.in_ok-tell_where_tied.ensures.kept;
      tells = λ v a. tells_twice v _ _ _ c.loop-p.invariant.adds c.in_ok-tell_where_tied.ensures.kept (c.loop-p.invariant.tells v a)
          (c.in_ok-tell_where_tied.ensures.told v (subst (λ (l : List Equation). AreSo v (equalities_of l)) left (c.loop-p.invariant.left v a)).0);
      left = λ v a. (subst (λ (l : List Equation). AreSo v (equalities_of l)) left (c.loop-p.invariant.left v a)).1;
    }
