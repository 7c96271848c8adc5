use Rattle.csharp.specs.States.{State}
use Rattle.mem_pairs.proofs.Facts.{IsTold, adds_both, tells_more}
use Rattle.mem_pairs.proofs.Results.{on_ok_then}
use Rattle.mem_pairs.proofs.paired.PairedMemDomain.facts.Goals as goal

pub returns-clause-told : goal.returns-clause-told
returns-clause-told g c = on_ok_then c.facts-2.result _ _ (λ h q f.
    let first = g.M.MemDomain.stands c.args.self.now.first in
    let second = g.N.MemDomain.stands c.args.self.now.second in
    adds_both c.args.out.now c.facts.new.out c.facts-2.new.out (IsTold q first) (IsTold q second) (IsTold q (λ (s : State). first s × second s))
    (λ x k. (k.0, λ s t. k.1 s t.0)) (λ x k. (k.0, λ s t. k.1 s t.1)) (c.in_ok-facts.ensures.told q f.0) (h q f.1)) c.facts-2.ensures.told

pub returns-clause-sharp : goal.returns-clause-sharp
returns-clause-sharp g c = on_ok_then c.facts-2.result _ _ (λ h q s f t.
    tells_more q s.memory c.facts.new.out c.facts-2.new.out (IsTold q (g.N.MemDomain.stands c.args.self.now.second)) (h q f.1) (c.in_ok-facts.ensures.sharp q s f.0 t.0)) c.facts-2.ensures.told
