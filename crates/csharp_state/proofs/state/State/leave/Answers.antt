use Rattle.std.proofs.Common.{◌≡◌, ap, sym, subst}
use Rattle.csharp.specs.States.{State}
use Rattle.csharp_state.specs.Belongs.{Belongs}
use Rattle.csharp_state.proofs.Belonging.{belongs_shut_all, keeps_at}
use Rattle.csharp_state.proofs.state.State.leave.Goals as goal

pub returns-clause-memory : goal.returns-clause-memory
returns-clause-memory c =
    let at : c.args.self.now.memory ≡ c.self.inside.memory = sym (ap (λ (s : State). s.memory) c.self.view_is) in
    keeps_at c.args.self.now.memory c.self.inside.memory c.shut_all.new.self at
    (λ objects k. subst (Belongs objects) (sym c.shut_all.ensures) (belongs_shut_all objects c.args.names.now c.self.inside.memory k))
