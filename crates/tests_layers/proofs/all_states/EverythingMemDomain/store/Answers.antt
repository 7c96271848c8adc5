use Rattle.csharp.specs.Trees.{csexpr_tree}
use Rattle.mem_api.proofs.Statements.{store_owned}
use Rattle.tests_layers.proofs.all_states.EverythingMemDomain.store.Goals as goal

pub returns-clause-stands : goal.returns-clause-stands
returns-clause-stands c = λ s t k g. store_owned c.args.self.now.objects s t k c.args._ty (csexpr_tree c.args._address.now) (csexpr_tree c.args._value.now) g
