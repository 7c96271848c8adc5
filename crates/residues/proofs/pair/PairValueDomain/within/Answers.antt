use Rattle.std.proofs.Common.{◌≡◌, ℤ, pos, ap, ◌∙◌}
use Rattle.std.specs.Prelude.{IsTrue}
use Rattle.num_api.specs.Ranges.{IsPoint, NoWider}
use Rattle.residues.specs.Pair.{class_part, range_of_pair}
use Rattle.residues.proofs.Inward.{no_wider_trans, if_some_map}
use Rattle.residues.proofs.pair.PairValueDomain.within.Goals as goal

pub returns-in-Some-Some-clause-plain : goal.returns-in-Some-Some-clause-plain
returns-in-Some-Some-clause-plain g c =
    if_some_map
    (λ p. IsTrue g.V.ValueDomain.exact → NoWider (range_of_pair g.V.ValueDomain.known g.W.ValueDomain.class p) (g.V.ValueDomain.known c.in-Some-Some.bounds))
    (λ p. IsTrue g.V.ValueDomain.exact → NoWider (range_of_pair g.V.ValueDomain.known g.W.ValueDomain.class p) c.args.r)
    c.new.result
    (λ p h t. no_wider_trans _ _ _ (h t) (c.in-Some-Some.ensures.plain t))
    c.new.ensures.plain

pub returns-in-Some-Some-clause-fold : goal.returns-in-Some-Some-clause-fold
returns-in-Some-Some-clause-fold g c =
    if_some_map
    (λ p. class_part p ≡ c.in-Some-Some.class)
    (λ p. (n : ℤ) → IsTrue g.W.ValueDomain.folds → IsPoint c.args.r n → g.W.ValueDomain.class (class_part p) ≡ record { rem = n; modulus = pos 0 })
    c.new.result
    (λ p h n t q. ap g.W.ValueDomain.class h ∙ c.in-Some-Some.ensures'.fold n t q)
    c.new.ensures.class
