use Rattle.std.specs.Prelude.{IsTrue}
use Rattle.num_api.specs.Ranges.{NoWider}
use Rattle.residues.specs.Pair.{range_of_pair}
use Rattle.residues.proofs.Inward.{no_wider_itself, no_wider_trans, if_some_map}
use Rattle.residues.proofs.pair.PairValueDomain.meet.Goals as goal

pub returns-in-Some-Some-clause-plain : goal.returns-in-Some-Some-clause-plain
returns-in-Some-Some-clause-plain g c =
    if_some_map
    (λ p. IsTrue g.V.ValueDomain.exact → NoWider (range_of_pair g.V.ValueDomain.known g.W.ValueDomain.class p) (g.V.ValueDomain.known c.in-Some-Some.bounds))
    (λ p. IsTrue g.V.ValueDomain.exact → NoWider (range_of_pair g.V.ValueDomain.known g.W.ValueDomain.class p) (range_of_pair g.V.ValueDomain.known g.W.ValueDomain.class c.args.self.now) × NoWider (range_of_pair g.V.ValueDomain.known g.W.ValueDomain.class p) (range_of_pair g.V.ValueDomain.known g.W.ValueDomain.class c.args.other.now))
    c.new.result
    (λ p h t.
    let both = c.in-Some-Some.ensures.plain t in (
      no_wider_trans _ _ _ (h t) (no_wider_trans _ _ _ both.0 (no_wider_itself _ _ (c.tight.ensures.exact t))),
      no_wider_trans _ _ _ (h t) (no_wider_trans _ _ _ both.1 (no_wider_itself _ _ (c.tight-2.ensures.exact t))),
    ))
    c.new.ensures.plain
