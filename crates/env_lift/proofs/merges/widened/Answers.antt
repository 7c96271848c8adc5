use Rattle.env_lift.proofs.Changing.{ok_map}
use Rattle.env_lift.proofs.Merging.{merged_left, merged_right}
use Rattle.env_lift.proofs.Weights.{merged_weight, merged_falls}
use Rattle.env_lift.proofs.merges.widened.Goals as goal

pub returns-clause-left : goal.returns-clause-left
returns-clause-left g c = ok_map _ _ c.merge.result c.merge.ensures
    (λ s m. merged_left g.V.ValueDomain.admits _ c.args.first.now c.args.second.now s m (λ a b d n r q. r.0 n q))

pub returns-clause-right : goal.returns-clause-right
returns-clause-right g c = ok_map _ _ c.merge.result c.merge.ensures
    (λ s m. merged_right g.V.ValueDomain.admits _ c.args.first.now c.args.second.now s m (λ a b d n r q. r.1.0 n q))

pub returns-clause-no_rise : goal.returns-clause-no_rise
returns-clause-no_rise g c = ok_map _ _ c.merge.result c.merge.ensures
    (λ s m. merged_weight (g.V.ValueDomain.weight g.S.Steps.list) _ (λ a b d r. r.1.1.0) c.args.first.now c.args.second.now s m)

pub returns-clause-falls : goal.returns-clause-falls
returns-clause-falls g c = ok_map _ _ c.merge.result c.merge.ensures
    (λ s m. merged_falls (g.V.ValueDomain.weight g.S.Steps.list) _ (λ a b d r. r.1.1.0) g.V.ValueDomain.holds (λ a b d r. r.1.1.1) c.args.first.now c.args.second.now s m)
