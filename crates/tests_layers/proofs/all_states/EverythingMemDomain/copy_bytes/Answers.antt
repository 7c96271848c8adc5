use Rattle.csharp.specs.Trees.{csexpr_tree}
use Rattle.mem_api.proofs.Statements.{copy_owned}
use Rattle.tests_layers.proofs.all_states.EverythingMemDomain.copy_bytes.Goals as goal

pub returns-clause-stands : goal.returns-clause-stands
returns-clause-stands c = λ s t k g. copy_owned c.args.self.now.objects s t k c.args._size (csexpr_tree c.args._to.now) (csexpr_tree c.args._from.now) g
