use Rattle.num_api.proofs.PutOut.{adds_twice, tells_twice}
use Rattle.channels.proofs.linked.LinkedNumDomain.facts.Goals as goal

pub returns-clause-kept : goal.returns-clause-kept
returns-clause-kept g c = adds_twice _ _ _ c.in_ok-facts.ensures.kept c.in_ok-facts-2.ensures.kept

pub returns-clause-told : goal.returns-clause-told
returns-clause-told g c = λ v a.
    tells_twice v _ _ _ c.in_ok-facts.ensures.kept c.in_ok-facts-2.ensures.kept (c.in_ok-facts.ensures.told v a.0) (c.in_ok-facts-2.ensures.told v a.1)
