use Rattle.csharp_typed_laws.proofs.Jumps as jumps
use Rattle.csharp_typed_laws.proofs.laws.jumps_lead_around.Goals as goal

pub returns-clause-code : goal.returns-clause-code
returns-clause-code c = jumps.jumps_lead

pub returns-clause-bodies : goal.returns-clause-bodies
returns-clause-bodies c = jumps.bodies_return
