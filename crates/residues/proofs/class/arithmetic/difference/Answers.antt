use Rattle.std.proofs.Common.{◌≡◌, ℤ, pos, ◌-ℤ◌, ◌≤ℤ◌, arith, subst, FitsSigned, rules}
use Rattle.std.proofs.lemmas.Int.{ints, to_z-of_z}
use mir.Syntax.{w128}
use Rattle.num_api.specs.Residues.{IsMultiple}
use Rattle.num_api.specs.Fold.{IsAlignment}
use Rattle.residues.specs.Class.{residue_of}
use Rattle.residues.specs.Classes.{IsClassOf}
use Rattle.residues.proofs.Moves.{unmoved}
use Rattle.residues.proofs.Steps.{common_wider}
use Rattle.residues.proofs.ClassBounds.{sum_bounds, step_positive}
use Rattle.residues.proofs.class.arithmetic.difference.Goals as goal

pub returns-in-Some-clause-step : goal.returns-in-Some-clause-step
returns-in-Some-clause-step c =
    let a = residue_of c.args.a in
    let b = residue_of c.args.b in
    let f : FitsSigned w128 a.rem = search rules in
    let g : FitsSigned w128 b.rem = search rules in
    let h : FitsSigned w128 c.in-Some.rem = search rules in
    let i : FitsSigned w128 c.common_step-step.result = search rules in
    let e : c.in-Some.rem ≡ a.rem -ℤ b.rem = (simp to_z-of_z at c.in-Some.ensures).1 in
    let p : IsClassOf c.in-Some.rem c.common_step-step.result (residue_of c.of.result) = simp to_z-of_z at c.of.ensures in
    record {
      step = c.common_step-step.result;
      common = c.common_step-step.ensures.step;
      is = subst (λ (z : ℤ). IsClassOf z c.common_step-step.result (residue_of c.of.result)) e p;
    }

pub returns-in-None-clause-step : goal.returns-in-None-clause-step
returns-in-None-clause-step c =
    let a = residue_of c.args.a in
    let b = residue_of c.args.b in
    let f : FitsSigned w128 a.rem = search rules in
    let g : FitsSigned w128 b.rem = search rules in
    let h : FitsSigned w128 c.positive_step.result = search rules in
    let i : FitsSigned w128 c.common_step-step.result = search rules in
    let j : pos 0 ≤ℤ c.positive_step.result = omega (arith, ints) in
    let p : IsClassOf (a.rem -ℤ b.rem) c.positive_step.result (residue_of c.wrapped_difference.result) = simp to_z-of_z at c.wrapped_difference.ensures in
    let q : IsMultiple c.positive_step.result c.common_step-step.result = simp to_z-of_z at c.positive_step.ensures.divides in
    let r = unmoved (λ (t : ℤ). (d : ℤ) → IsAlignment d → IsMultiple d t → IsMultiple d c.positive_step.result) c.common_step-step.result i c.positive_step.ensures.folds in
    record {
      step = c.positive_step.result;
      common = common_wider a.modulus b.modulus c.common_step-step.result c.positive_step.result c.common_step-step.ensures.step j c.positive_step.ensures.high q r;
      is = p;
    }

pub returns-in-Some-clause-bounds : goal.returns-in-Some-clause-bounds
returns-in-Some-clause-bounds c =
    let a = residue_of c.args.a in
    let b = residue_of c.args.b in
    let f : FitsSigned w128 a.rem = search rules in
    let g : FitsSigned w128 b.rem = search rules in
    let h : FitsSigned w128 c.in-Some.rem = search rules in
    let i : FitsSigned w128 c.common_step-step.result = search rules in
    let e : c.in-Some.rem ≡ a.rem -ℤ b.rem = (simp to_z-of_z at c.in-Some.ensures).1 in
    let p : IsClassOf c.in-Some.rem c.common_step-step.result (residue_of c.of.result) = simp to_z-of_z at c.of.ensures in
    sum_bounds a b (residue_of c.of.result) (a.rem -ℤ b.rem) c.common_step-step.result c.common_step-step.ensures.greatest
    (λ one. subst (λ (z : ℤ). IsClassOf z c.common_step-step.result (residue_of c.of.result)) e p)

pub returns-in-None-clause-bounds : goal.returns-in-None-clause-bounds
returns-in-None-clause-bounds c =
    let a = residue_of c.args.a in
    let b = residue_of c.args.b in
    let f : FitsSigned w128 a.rem = search rules in
    let g : FitsSigned w128 b.rem = search rules in
    let h : FitsSigned w128 c.positive_step.result = search rules in
    let i : FitsSigned w128 c.common_step-step.result = search rules in
    let p : IsClassOf (a.rem -ℤ b.rem) c.positive_step.result (residue_of c.wrapped_difference.result) = simp to_z-of_z at c.wrapped_difference.ensures in
    let same : pos 1 ≤ℤ c.common_step-step.result → c.positive_step.result ≡ c.common_step-step.result = simp to_z-of_z at c.positive_step.ensures.same in
    let step = c.common_step-step.ensures.step in
    sum_bounds a b (residue_of c.wrapped_difference.result) (a.rem -ℤ b.rem) c.common_step-step.result c.common_step-step.ensures.greatest
    (λ one. subst (λ (z : ℤ). IsClassOf (a.rem -ℤ b.rem) z (residue_of c.wrapped_difference.result)) (same (step_positive a b c.common_step-step.result one step.not_negative step.first step.second)) p)
