use Rattle.std.proofs.Common.{refl}
use Rattle.env_lift.proofs.Merging.{all_included}
use Rattle.env_lift.proofs.merges.covers_all.Goals as goal

pub returns-clause-included : goal.returns-clause-included
returns-clause-included g c = λ h v p.
    all_included g.V.ValueDomain.admits _ c.args.first.now c.args.second.now (c.all_met.ensures.met h) (λ a b n r q. r.1 refl n q) v p
