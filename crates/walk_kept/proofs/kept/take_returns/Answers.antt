use Rattle.std.proofs.Common.{⊎_elim}
use Rattle.walk_owes.specs.declared.way.Way.TheVariants as ways
use Rattle.walk_owes.proofs.Heads.{keeps_way}
use Rattle.walk_kept.proofs.kept.take_returns.Goals as goal

pub returns-clause-taken : goal.returns-clause-taken
returns-clause-taken g c = λ s h.
    ⊎_elim (λ t. t.1) (λ r. absurd (c.in_ok-found.ensures.gone (keeps_way g.M.MemDomain.stands _ ways.Return s r))) (c.in_ok-found.ensures.taken ways.Return s h)
