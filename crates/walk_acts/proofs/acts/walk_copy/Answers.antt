use Rattle.std.proofs.Common.{refl}
use Rattle.csharp.specs.Trees.{csexpr_tree, csprogram_tree, CopyBytes}
use Rattle.csharp.specs.Actions.{copy_bytes}
use Rattle.walk_owes.proofs.Acting.{acts_typed}
use Rattle.walk_owes.proofs.ExactActs.{acts_exact_typed}
use Rattle.walk_acts.proofs.acts.walk_copy.Goals as goal

pub returns-clause-sound : goal.returns-clause-sound
returns-clause-sound g c = λ to kept out.
    let q = csprogram_tree c.args.program.now in
    acts_typed g.M.MemDomain.stands q to (CopyBytes c.args.size (csexpr_tree c.args.place.now) (csexpr_tree c.args.from.now)) (copy_bytes c.args.size (csexpr_tree c.args.place.now) (csexpr_tree c.args.from.now)) c.args.state _ kept out (λ over n s. refl)
    c.in_ok-copy_bytes.ensures.stands (λ s t. c.actions_keep_states_typed.ensures.copy q s c.args.size (csexpr_tree c.args.place.now) (csexpr_tree c.args.from.now) t c.requires.given.typed)

pub returns-clause-exact : goal.returns-clause-exact
returns-clause-exact g c = λ over to kept out.
    let q = csprogram_tree c.args.program.now in
    acts_exact_typed g.M.MemDomain.sharp over q to (CopyBytes c.args.size (csexpr_tree c.args.place.now) (csexpr_tree c.args.from.now)) (copy_bytes c.args.size (csexpr_tree c.args.place.now) (csexpr_tree c.args.from.now)) c.args.state _ kept out (λ n s. refl)
    c.in_ok-copy_bytes.ensures.sharp (λ s t. c.actions_keep_states_typed.ensures.copy q s c.args.size (csexpr_tree c.args.place.now) (csexpr_tree c.args.from.now) t c.requires.given.typed)
