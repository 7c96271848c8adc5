use Rattle.mem_api.proofs.Owning.{owned_shut_all}
use Rattle.tests_layers.proofs.all_states.EverythingMemDomain.leave.Goals as goal

pub returns-clause-stands : goal.returns-clause-stands
returns-clause-stands c = λ s k. owned_shut_all c.args.self.now.objects s.memory c.args._names.now k
