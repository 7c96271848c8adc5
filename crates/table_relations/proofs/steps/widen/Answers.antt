use Rattle.num_api.proofs.PowersRamp.{powers_answer}
use Rattle.table_relations.proofs.steps.widen.Goals as goal

pub new-ramp-requires : goal.new-ramp-requires
new-ramp-requires c = powers_answer _ _ _ (λ n small. tt) (λ n r small post. search post)
