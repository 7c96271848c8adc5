use Rattle.std.proofs.Common.{ℤ, sym, subst, rules, to_z, of_z}
use Rattle.std.specs.Int.RustNames.{FitsSigned}
use Rattle.std.proofs.lemmas.Int.{to_z-of_z}
use mir.Syntax.{w128}
use Rattle.residues.specs.Class.{residue_of}
use Rattle.mem_shown.specs.Hulls.{IsHullOf, IsProperBounds, bounds}
use Rattle.mem_shown.proofs.Hulling.{hull_by, proper_hull}
use Rattle.mem_shown.proofs.bounds.Bounds.hull.Goals as goal

pub returns-clause-hull : goal.returns-clause-hull
returns-clause-hull c =
    let m = c.residue-class.result.modulus in let r = c.residue-class.result.rem in
    let fm : FitsSigned w128 m = search rules in let fr : FitsSigned w128 r = search rules in
    subst (λ (x : ℤ). IsHullOf c.args.self c.args.other (bounds c.lower.result c.upper.result x (to_z w128 (of_z w128 r)))) (sym (to_z-of_z w128 m fm))
    (subst (λ (x : ℤ). IsHullOf c.args.self c.args.other (bounds c.lower.result c.upper.result m x)) (sym (to_z-of_z w128 r fr))
    (hull_by c.args.self c.args.other (bounds c.lower.result c.upper.result m r) (residue_of c.class.result) (residue_of c.class-2.result) (residue_of c.join.result)
    c.class.ensures c.class-2.ensures c.residue-class.ensures.value c.lower.ensures c.upper.ensures c.join.ensures.left c.join.ensures.right c.join.ensures.least))

pub returns-clause-proper : goal.returns-clause-proper
returns-clause-proper c =
    let m = c.residue-class.result.modulus in let r = c.residue-class.result.rem in
    let fm : FitsSigned w128 m = search rules in let fr : FitsSigned w128 r = search rules in
    subst (λ (x : ℤ). IsProperBounds (bounds c.lower.result c.upper.result x (to_z w128 (of_z w128 r)))) (sym (to_z-of_z w128 m fm))
    (subst (λ (x : ℤ). IsProperBounds (bounds c.lower.result c.upper.result m x)) (sym (to_z-of_z w128 r fr))
    (proper_hull c.args.self c.args.other (bounds c.lower.result c.upper.result m r)
    (hull_by c.args.self c.args.other (bounds c.lower.result c.upper.result m r) (residue_of c.class.result) (residue_of c.class-2.result) (residue_of c.join.result)
    c.class.ensures c.class-2.ensures c.residue-class.ensures.value c.lower.ensures c.upper.ensures c.join.ensures.left c.join.ensures.right c.join.ensures.least)
    c.residue-class.ensures.proper c.requires.left c.requires.right))
