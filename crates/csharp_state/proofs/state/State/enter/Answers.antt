use Rattle.std.proofs.Common.{◌≡◌, ap, sym, subst, map}
use Rattle.c_syntax.specs.Types.{object_tree}
use Rattle.csharp.specs.States.{State}
use Rattle.csharp_state.specs.Belongs.{Belongs}
use Rattle.csharp_state.proofs.Belonging.{belongs_open_all, on_ok, all_there}
use Rattle.csharp_state.proofs.state.State.enter.Goals as goal

pub returns-clause-memory : goal.returns-clause-memory
returns-clause-memory c =
    let at : c.args.self.now.memory ≡ c.self.inside.memory = sym (ap (λ (s : State). s.memory) c.self.view_is) in
    let objects = map object_tree c.args.objects.now in
    on_ok c.open_all.result _ _ (λ e. subst (Belongs objects) (sym e) (belongs_open_all objects c.args.names.now c.self.inside.memory
    (all_there object_tree c.args.objects.now c.args.names.now c.requires.there) (subst (Belongs objects) at c.requires.objects))) c.open_all.ensures
