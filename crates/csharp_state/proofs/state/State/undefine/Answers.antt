use Rattle.std.proofs.Common.{◌≡◌, ap, sym}
use Rattle.csharp.specs.States.{State}
use Rattle.csharp_state.proofs.Belonging.{belongs_undefined, keeps_at}
use Rattle.csharp_state.proofs.state.State.undefine.Goals as goal

pub returns-in-Some-clause-memory : goal.returns-in-Some-clause-memory
returns-in-Some-clause-memory c =
    let at : c.args.self.now.memory ≡ c.self.inside.memory = sym (ap (λ (s : State). s.memory) c.self.view_is) in
    keeps_at c.args.self.now.memory c.self.inside.memory c.undefine.new.self at
    (belongs_undefined c.args.object c.self.inside.memory c.undefine.new.self c.undefine.ensures)
