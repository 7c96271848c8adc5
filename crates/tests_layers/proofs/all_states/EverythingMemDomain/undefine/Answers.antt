use Rattle.mem_api.proofs.Statements.{undefine_owned}
use Rattle.tests_layers.proofs.all_states.EverythingMemDomain.undefine.Goals as goal

pub returns-clause-stands : goal.returns-clause-stands
returns-clause-stands c = λ s t k g. undefine_owned c.args.self.now.objects s t k c.args._object g
