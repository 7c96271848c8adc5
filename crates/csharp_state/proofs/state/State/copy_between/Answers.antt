use Rattle.std.proofs.Common.{◌≡◌, ap, sym}
use Rattle.csharp.specs.States.{State}
use Rattle.csharp_state.proofs.Belonging.{belongs_copied, keeps_at}
use Rattle.csharp_state.proofs.state.State.copy_between.Goals as goal

pub returns-clause-memory : goal.returns-clause-memory
returns-clause-memory c =
    let at : c.args.self.now.memory ≡ c.self.inside.memory = sym (ap (λ (s : State). s.memory) c.self.view_is) in
    keeps_at c.args.self.now.memory c.self.inside.memory c.copy.new.self at
    (belongs_copied c.args.to c.args.from c.args.size c.self.inside.memory c.copy.new.self c.copy.ensures)
