use Rattle.std.proofs.Common.{subst}
use Rattle.ext_int.specs.declared.Live.{Live as LiveOrDead}
use Rattle.num_api.specs.Lives.{is_live}
use Rattle.mem_api.specs.Abstract.{IsBelow}
use Rattle.mem_pairs.proofs.Results.{if_ok, below_also}
use Rattle.mem_pairs.proofs.paired.PairedMemDomain.assume.Goals as goal

pub returns-in-Live-clause-plain : goal.returns-in-Live-clause-plain
returns-in-Live-clause-plain g c = if_ok c.assume-in-Live.result _ (λ live q p r f u e.
    below_also g.M.MemDomain.under _ c.assume.new.self _ (is_live live) r (λ s h. h)
    (subst (λ (l : LiveOrDead). IsBelow g.M.MemDomain.under (is_live l) c.assume.new.self r) c.in-Live.is (c.in_ok-assume.ensures.plain q p r f.0 u e)))
