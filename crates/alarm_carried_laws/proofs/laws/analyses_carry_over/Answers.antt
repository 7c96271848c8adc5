use Rattle.alarm_carried_laws.proofs.Carried as carried
use Rattle.alarm_carried_laws.proofs.laws.analyses_carry_over.Goals as goal

pub returns : goal.returns
returns c = carried.analyses_carry_over
