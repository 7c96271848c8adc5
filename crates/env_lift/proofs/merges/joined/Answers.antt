use Rattle.env_lift.proofs.Changing.{ok_map}
use Rattle.env_lift.proofs.Merging.{merged_left, merged_right, merged_under}
use Rattle.env_lift.proofs.merges.joined.Goals as goal

pub returns-clause-left : goal.returns-clause-left
returns-clause-left g c = ok_map _ _ c.merge.result c.merge.ensures
    (λ s m. merged_left g.V.ValueDomain.admits _ c.args.first.now c.args.second.now s m (λ a b d n r q. r.0 n q))

pub returns-clause-right : goal.returns-clause-right
returns-clause-right g c = ok_map _ _ c.merge.result c.merge.ensures
    (λ s m. merged_right g.V.ValueDomain.admits _ c.args.first.now c.args.second.now s m (λ a b d n r q. r.1.0 n q))

pub returns-clause-plain : goal.returns-clause-plain
returns-clause-plain g c = ok_map _ _ c.merge.result c.merge.ensures
    (λ s m given found x. merged_under g.V.ValueDomain.admits _ c.args.first.now c.args.second.now s m g.V.ValueDomain.known (λ a b d r. r.1.1 x) given found)
