use Rattle.std.proofs.Common.{refl}
use Rattle.csharp.specs.Trees.{csprogram_tree, Input}
use Rattle.csharp.specs.Actions.{input}
use Rattle.walk_owes.proofs.Acting.{waits_typed}
use Rattle.walk_owes.proofs.ExactActs.{input_exact}
use Rattle.walk_acts.proofs.acts.walk_input.Goals as goal

pub returns-clause-sound : goal.returns-clause-sound
returns-clause-sound g c = λ to kept out.
    let q = csprogram_tree c.args.program.now in
    waits_typed g.M.MemDomain.stands q to (Input c.args.temp c.args.ty) (input c.args.temp c.args.ty) c.args.state _ kept out (λ over n s. refl)
    c.in_ok-input.ensures.stands (λ s t. c.actions_keep_states_typed.ensures.input q s c.args.temp c.args.ty t c.requires.given.typed)

pub returns-clause-exact : goal.returns-clause-exact
returns-clause-exact g c = λ over to kept out.
    let q = csprogram_tree c.args.program.now in
    input_exact g.M.MemDomain.sharp over q to c.args.temp c.args.ty c.args.state _ kept out c.in_ok-input.ensures.sharp
