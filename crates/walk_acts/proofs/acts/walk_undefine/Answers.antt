use Rattle.std.proofs.Common.{refl}
use Rattle.csharp.specs.Trees.{csprogram_tree, Undefine}
use Rattle.csharp.specs.Actions.{undefine}
use Rattle.walk_owes.proofs.Acting.{acts_typed}
use Rattle.walk_owes.proofs.ExactActs.{acts_exact_typed}
use Rattle.walk_acts.proofs.acts.walk_undefine.Goals as goal

pub returns-clause-sound : goal.returns-clause-sound
returns-clause-sound g c = λ to kept out.
    let q = csprogram_tree c.args.program.now in
    acts_typed g.M.MemDomain.stands q to (Undefine c.args.object) (undefine c.args.object) c.args.state _ kept out (λ over n s. refl)
    c.in_ok-undefine.ensures.stands (λ s t. c.actions_keep_states_typed.ensures.undefine q s c.args.object t)

pub returns-clause-exact : goal.returns-clause-exact
returns-clause-exact g c = λ over to kept out.
    let q = csprogram_tree c.args.program.now in
    acts_exact_typed g.M.MemDomain.sharp over q to (Undefine c.args.object) (undefine c.args.object) c.args.state _ kept out (λ n s. refl)
    c.in_ok-undefine.ensures.sharp (λ s t. c.actions_keep_states_typed.ensures.undefine q s c.args.object t)
