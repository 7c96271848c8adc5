use Rattle.std.proofs.Common.{◌≡◌, ap, sym}
use Rattle.csharp.specs.States.{State}
use Rattle.csharp_state.proofs.Belonging.{belongs_stored, keeps_at}
use Rattle.csharp_state.proofs.state.State.store_value.Goals as goal

pub returns-clause-memory : goal.returns-clause-memory
returns-clause-memory c =
    let at : c.args.self.now.memory ≡ c.self.inside.memory = sym (ap (λ (s : State). s.memory) c.self.view_is) in
    keeps_at c.args.self.now.memory c.self.inside.memory c.initialise.new.self at
    (belongs_stored c.type_of.result c.args.place c.args.v c.self.inside.memory c.initialise.new.self c.initialise.ensures)
