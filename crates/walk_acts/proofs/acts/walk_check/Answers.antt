use Rattle.std.proofs.Common.{◌≡◌, true, false, refl}
use Rattle.csharp.specs.Trees.{cscheck_tree, csprogram_tree}
use Rattle.walk_owes.specs.Owes.{HasTyped}
use Rattle.walk_owes.proofs.Exactly.{check_exact}
use Rattle.walk_owes.proofs.Steps.{check_sound}
use Rattle.walk_acts.proofs.acts.walk_check.Goals as goal

pub returns-in-Live-clause-sound : goal.returns-in-Live-clause-sound
returns-in-Live-clause-sound g c = λ to kept.
    let q = csprogram_tree c.args.program.now in
    check_sound (HasTyped g.M.MemDomain.stands q) q to (cscheck_tree c.args.check.now) c.args.state _ kept _
    (λ s h e. ((c.in_ok-pass.ensures.stands q s c.requires.is_for h.0 e).1, h.1)) (λ s k x h. c.in_ok-judge.ensures.fails s k x h.0)

pub returns-in-Dead-clause-sound : goal.returns-in-Dead-clause-sound
returns-in-Dead-clause-sound g c = λ to kept.
    let q = csprogram_tree c.args.program.now in
    check_sound (HasTyped g.M.MemDomain.stands q) q to (cscheck_tree c.args.check.now) c.args.state _ kept _
    (λ s h e. let z = (c.in_ok-pass.ensures.stands q s c.requires.is_for h.0 e).0 in let y : false ≡ true = rw c.in-Dead.is at z in absurd (cc))
    (λ s k x h. c.in_ok-judge.ensures.fails s k x h.0)

pub returns-in-Live-clause-exact : goal.returns-in-Live-clause-exact
returns-in-Live-clause-exact g c = λ over to kept.
    let q = csprogram_tree c.args.program.now in
    check_exact (HasTyped g.M.MemDomain.sharp q) q to over (cscheck_tree c.args.check.now) c.args.state _ kept _ _
    (λ s h e. (c.in_ok-pass.ensures.sharp q s c.requires.is_for h.0 e, h.1))
    (λ s k x h e. let z = c.in_ok-pass.ensures.dead q s k x c.requires.is_for h.0 e in let y : true ≡ false = rw c.in-Live.is at z in absurd (cc))
    (λ s h e. c.in_ok-judge.ensures.passes s h.0 e) (λ s k x h e i. c.in_ok-judge.ensures.alone s k x h.0 e i)

pub returns-in-Dead-clause-exact : goal.returns-in-Dead-clause-exact
returns-in-Dead-clause-exact g c = λ over to kept.
    let q = csprogram_tree c.args.program.now in
    check_exact (HasTyped g.M.MemDomain.sharp q) q to over (cscheck_tree c.args.check.now) c.args.state _ kept _ _
    (λ s h e. let z = (c.in_ok-pass.ensures.stands q s c.requires.is_for (g.met.M.MemDomain.sharp_stands c.args.state s h.0) e).0 in
    let y : false ≡ true = rw c.in-Dead.is at z in absurd (cc))
    (λ s k x h e. refl)
    (λ s h e. c.in_ok-judge.ensures.passes s h.0 e) (λ s k x h e i. c.in_ok-judge.ensures.alone s k x h.0 e i)
