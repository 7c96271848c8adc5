use Rattle.std.proofs.Common.{◌<◌, subst}
use Rattle.std.specs.Prelude.{All}
use Rattle.mem_api.proofs.Owning.{owned_open_all}
use Rattle.tests_layers.proofs.all_states.EverythingMemDomain.enter.Goals as goal

pub returns-clause-stands : goal.returns-clause-stands
returns-clause-stands c = λ q s same free k. owned_open_all c.args.self.now.objects q.objects s.memory c.args._names.now k
    (subst (λ n. All (λ x. x < n) c.args._names.now) c.requires.1 c.requires.2.numbers.2)
