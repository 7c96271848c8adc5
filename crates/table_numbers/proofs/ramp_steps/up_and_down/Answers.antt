use Rattle.num_api.proofs.PowersRamp.{powers_answer}
use Rattle.table_numbers.proofs.ramp_steps.up_and_down.Goals as goal

pub new-ramp-requires : goal.new-ramp-requires
new-ramp-requires g = powers_answer _ _ _ (λ n small. tt) (λ n r small post. search post)
