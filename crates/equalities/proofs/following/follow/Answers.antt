use Rattle.std.proofs.Common.{subst, Option, IfSome}
use Rattle.std.proofs.lemmas.Option.{IfSome_then}
use Rattle.ext_int.specs.Valuation.{value_at}
use Rattle.num_api.specs.Exprs.{nexpr_tree}
use Rattle.num_api.proofs.PutOut.{adds_twice, tells_twice}
use Rattle.equalities.specs.declared.following.Truth.{Truth}
use Rattle.equalities.specs.Pairs.{equalities_of}
use Rattle.equalities.specs.Telling.{HasTruth}
use Rattle.equalities.proofs.Lemmas.{found}
use Rattle.equalities.proofs.following.follow.Goals as goal

pub loop-preserved : goal.loop-preserved
loop-preserved g c =
    let x = c.in-Some.truth.x.0 in let t = nexpr_tree c.in-Some-find.e.now in let ps = equalities_of c.args.pairs.now in
    record {
      adds = adds_twice _ _ _ c.loop.invariant.adds c.in_ok-tell_comparison.ensures.kept;
      tells = λ v a. tells_twice v _ _ _ c.loop.invariant.adds c.in_ok-tell_comparison.ensures.kept (c.loop.invariant.tells v a)
          (c.in_ok-tell_comparison.ensures.told v (value_at v x) a.1 (found v x t ps a.0 c.in-Some-find.ensures.some)
          (subst (λ (o : Option Truth). IfSome o (HasTruth v)) c.in-Some.is (c.loop.invariant.stands v a)));
      stands = λ v a. IfSome_then c.tested_variable-next.result c.tested_variable-next.ensures (λ n f. f v (value_at v x) (found v x t ps a.0 c.in-Some-find.ensures.some)
          (subst (λ (o : Option Truth). IfSome o (HasTruth v)) c.in-Some.is (c.loop.invariant.stands v a)));
    }
