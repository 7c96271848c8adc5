use Rattle.std.proofs.Common.{◌≡◌, ℤ, pos, ◌^◌, ◌<ℤ◌, FitsSigned, rules}
use Rattle.std.specs.Prelude.{IfSome, IfNone}
use Rattle.std.proofs.lemmas.Int.{to_z-of_z}
use mir.Syntax.{w128}
use Rattle.num_api.specs.declared.message.Residue.{Residue}
use Rattle.residues.specs.Class.{residue_of}
use Rattle.residues.specs.Classes.{IsClassOf, IsGreatestDivisor, IsGap, IsJoin, IsFarApart}
use Rattle.residues.proofs.Lattice.{join_some, join_least_some, join_none, no_join_far, if_none}
use Rattle.residues.proofs.class.lattice.exact_join.Goals as goal

pub returns-clause-left : goal.returns-clause-left
returns-clause-left c =
    let a = residue_of c.args.a in
    let b = residue_of c.args.b in
    let f1 : FitsSigned w128 a.rem = search rules in
    let f2 : FitsSigned w128 b.rem = search rules in
    let f3 : FitsSigned w128 c.common_step-step.result = search rules in
    let f4 : FitsSigned w128 c.in_ok-gap.gap = search rules in
    let h : IsGap a.rem b.rem c.common_step-step.result c.in_ok-gap.gap = simp to_z-of_z at c.in_ok-gap.ensures.some in
    let i : IfSome c.small_class.result (λ r. (d : ℤ) × IsGreatestDivisor c.common_step-step.result c.in_ok-gap.gap d × IsClassOf a.rem d (residue_of r)) = simp to_z-of_z at c.small_class.ensures.some in
    (join_some a b c.common_step-step.result c.in_ok-gap.gap c.small_class.result c.common_step-step.ensures.step h i).0

pub returns-clause-right : goal.returns-clause-right
returns-clause-right c =
    let a = residue_of c.args.a in
    let b = residue_of c.args.b in
    let f1 : FitsSigned w128 a.rem = search rules in
    let f2 : FitsSigned w128 b.rem = search rules in
    let f3 : FitsSigned w128 c.common_step-step.result = search rules in
    let f4 : FitsSigned w128 c.in_ok-gap.gap = search rules in
    let h : IsGap a.rem b.rem c.common_step-step.result c.in_ok-gap.gap = simp to_z-of_z at c.in_ok-gap.ensures.some in
    let i : IfSome c.small_class.result (λ r. (d : ℤ) × IsGreatestDivisor c.common_step-step.result c.in_ok-gap.gap d × IsClassOf a.rem d (residue_of r)) = simp to_z-of_z at c.small_class.ensures.some in
    (join_some a b c.common_step-step.result c.in_ok-gap.gap c.small_class.result c.common_step-step.ensures.step h i).1

pub returns-clause-least : goal.returns-clause-least
returns-clause-least c =
    let a = residue_of c.args.a in
    let b = residue_of c.args.b in
    let f1 : FitsSigned w128 a.rem = search rules in
    let f2 : FitsSigned w128 b.rem = search rules in
    let f3 : FitsSigned w128 c.common_step-step.result = search rules in
    let f4 : FitsSigned w128 c.in_ok-gap.gap = search rules in
    let h : IsGap a.rem b.rem c.common_step-step.result c.in_ok-gap.gap = simp to_z-of_z at c.in_ok-gap.ensures.some in
    let i : IfSome c.small_class.result (λ r. (d : ℤ) × IsGreatestDivisor c.common_step-step.result c.in_ok-gap.gap d × IsClassOf a.rem d (residue_of r)) = simp to_z-of_z at c.small_class.ensures.some in
    join_least_some a b c.common_step-step.result c.in_ok-gap.gap c.small_class.result c.common_step-step.ensures.greatest h i

pub returns-clause-none : goal.returns-clause-none
returns-clause-none c =
    let a = residue_of c.args.a in
    let b = residue_of c.args.b in
    let f1 : FitsSigned w128 a.rem = search rules in
    let f2 : FitsSigned w128 b.rem = search rules in
    let f3 : FitsSigned w128 c.common_step-step.result = search rules in
    let f4 : FitsSigned w128 c.in_ok-gap.gap = search rules in
    let h : IsGap a.rem b.rem c.common_step-step.result c.in_ok-gap.gap = simp to_z-of_z at c.in_ok-gap.ensures.some in
    let i : IfNone c.small_class.result ((d : ℤ) × IsGreatestDivisor c.common_step-step.result c.in_ok-gap.gap d × (pos (2 ^ 100) <ℤ d)) = simp to_z-of_z at c.small_class.ensures.none in
    join_none a b c.common_step-step.result c.in_ok-gap.gap c.small_class.result c.common_step-step.ensures.step c.common_step-step.ensures.greatest h i

pub returns-in_err-gap-clause-none : goal.returns-in_err-gap-clause-none
returns-in_err-gap-clause-none c =
    let a = residue_of c.args.a in
    let b = residue_of c.args.b in
    let f1 : FitsSigned w128 a.rem = search rules in
    let f2 : FitsSigned w128 b.rem = search rules in
    let f3 : FitsSigned w128 c.common_step-step.result = search rules in
    let far = c.in_err-gap.ensures.none in
    let apart : IsFarApart a.rem b.rem = simp to_z-of_z at far.1 in
    let zero : c.common_step-step.result ≡ pos 0 = simp to_z-of_z at far.0 in
    if_none ((s : Residue) → IsJoin a b s → ⊥) c.from_residual.result (λ s join. no_join_far a b s c.common_step-step.result c.common_step-step.ensures.step zero apart join)
