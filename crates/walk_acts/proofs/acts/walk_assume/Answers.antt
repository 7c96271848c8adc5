use Rattle.std.proofs.Common.{◌≡◌, true, false, refl}
use Rattle.csharp.specs.Trees.{csexpr_tree, csprogram_tree}
use Rattle.walk_owes.specs.Owes.{HasTyped}
use Rattle.walk_owes.proofs.Exactly.{assume_exact}
use Rattle.walk_owes.proofs.Steps.{assume_sound}
use Rattle.walk_acts.proofs.acts.walk_assume.Goals as goal

pub returns-in-Live-clause-sound : goal.returns-in-Live-clause-sound
returns-in-Live-clause-sound g c = λ to kept out.
    let q = csprogram_tree c.args.program.now in
    assume_sound (HasTyped g.M.MemDomain.stands q) q to (csexpr_tree c.args.condition.now) c.args.state _ kept out
    (λ s v h i t. ((c.in_ok-assume.ensures.stands s v h.0 i t).1, h.1))

pub returns-in-Dead-clause-sound : goal.returns-in-Dead-clause-sound
returns-in-Dead-clause-sound g c = λ to kept out.
    let q = csprogram_tree c.args.program.now in
    assume_sound (HasTyped g.M.MemDomain.stands q) q to (csexpr_tree c.args.condition.now) c.args.state _ kept out
    (λ s v h i t. let z = (c.in_ok-assume.ensures.stands s v h.0 i t).0 in let y : false ≡ true = rw c.in-Dead.is at z in absurd (cc))

pub returns-in-Live-clause-exact : goal.returns-in-Live-clause-exact
returns-in-Live-clause-exact g c = λ over to kept out.
    let q = csprogram_tree c.args.program.now in
    assume_exact (HasTyped g.M.MemDomain.sharp q) q to over (csexpr_tree c.args.condition.now) c.args.state _ kept out
    (λ s v h i t. (c.in_ok-assume.ensures.sharp s v h.0 i t, h.1))
    (λ s v h i t. let z = c.in_ok-assume.ensures.dead s v h.0 i t in let y : true ≡ false = rw c.in-Live.is at z in absurd (cc))

pub returns-in-Dead-clause-exact : goal.returns-in-Dead-clause-exact
returns-in-Dead-clause-exact g c = λ over to kept out.
    let q = csprogram_tree c.args.program.now in
    assume_exact (HasTyped g.M.MemDomain.sharp q) q to over (csexpr_tree c.args.condition.now) c.args.state _ kept out
    (λ s v h i t. let z = (c.in_ok-assume.ensures.stands s v (g.met.M.MemDomain.sharp_stands c.args.state s h.0) i t).0 in
    let y : false ≡ true = rw c.in-Dead.is at z in absurd (cc))
    (λ s v h i t. refl)
