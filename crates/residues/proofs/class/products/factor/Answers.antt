use Rattle.std.proofs.Common.{ℤ, FitsSigned, rules}
use Rattle.std.proofs.lemmas.Int.{to_z-of_z}
use mir.Syntax.{w128}
use Rattle.num_api.specs.Residues.{IsMultiple}
use Rattle.residues.specs.Class.{residue_of}
use Rattle.residues.specs.Classes.{IsGreatestDivisor}
use Rattle.residues.proofs.Moves.{moved}
use Rattle.residues.proofs.Steps.{divides_greatest}
use Rattle.residues.proofs.Products.{class_multiple}
use Rattle.std.proofs.Common.{pos, ◌≤ℤ◌, arith}
use Rattle.std.proofs.lemmas.Int.{ints}
use Rattle.residues.specs.ClassBounds.{IsFactor}
use Rattle.residues.proofs.ClassBounds.{factor_of_size, factor_of_divisor}
use Rattle.std.proofs.Common.{◌≡◌, sym, subst}
use Rattle.residues.specs.Laws.{one_number}
use Rattle.residues.proofs.class.products.factor.Goals as goal

pub returns-then-a-eq0-clause-folds : goal.returns-then-a-eq0-clause-folds
returns-then-a-eq0-clause-folds c =
    let a = residue_of c.args.a in
    let f : FitsSigned w128 a.rem = search rules in
    let g : FitsSigned w128 c.size.result = search rules in
    λ d al h. moved (λ (t : ℤ). IsMultiple d t) c.size.result g
    (c.size.ensures.folds d al (moved (λ (t : ℤ). IsMultiple d t) a.rem f h.rem))

pub returns-clause-divides : goal.returns-clause-divides
returns-clause-divides c =
    let a = residue_of c.args.a in
    let f : FitsSigned w128 a.rem = search rules in
    let g : FitsSigned w128 a.modulus = search rules in
    let h : FitsSigned w128 c.greatest_divisor.result = search rules in
    let d : IsGreatestDivisor a.rem a.modulus c.greatest_divisor.result = simp to_z-of_z at c.greatest_divisor.ensures in
    λ x i. moved (λ (t : ℤ). IsMultiple t x) c.greatest_divisor.result h (class_multiple c.greatest_divisor.result a x d.first d.second i)

pub returns-clause-folds : goal.returns-clause-folds
returns-clause-folds c =
    let a = residue_of c.args.a in
    let f : FitsSigned w128 a.rem = search rules in
    let g : FitsSigned w128 a.modulus = search rules in
    let h : FitsSigned w128 c.greatest_divisor.result = search rules in
    let d : IsGreatestDivisor a.rem a.modulus c.greatest_divisor.result = simp to_z-of_z at c.greatest_divisor.ensures in
    λ e al i. moved (λ (t : ℤ). IsMultiple e t) c.greatest_divisor.result h (divides_greatest e a.rem a.modulus c.greatest_divisor.result d i.rem i.modulus)

pub returns-then-a-eq0-clause-factor : goal.returns-then-a-eq0-clause-factor
returns-then-a-eq0-clause-factor c =
    let a = residue_of c.args.a in
    let f : FitsSigned w128 a.rem = search rules in
    let g : FitsSigned w128 c.size.result = search rules in
    moved (λ (t : ℤ). IsFactor a t) c.size.result g (factor_of_size a c.size.result (rw (to_z-of_z w128 a.rem f) at c.size.ensures.size))

pub returns-clause-factor : goal.returns-clause-factor
returns-clause-factor c =
    let a = residue_of c.args.a in
    let f : FitsSigned w128 a.rem = search rules in
    let g : FitsSigned w128 a.modulus = search rules in
    let h : FitsSigned w128 c.greatest_divisor.result = search rules in
    let d : IsGreatestDivisor a.rem a.modulus c.greatest_divisor.result = simp to_z-of_z at c.greatest_divisor.ensures in
    let one : pos 1 ≤ℤ a.modulus = omega (arith, ints) in
    moved (λ (t : ℤ). IsFactor a t) c.greatest_divisor.result h (factor_of_divisor a c.greatest_divisor.result d one)

pub returns-then-a-eq0-clause-divides : goal.returns-then-a-eq0-clause-divides
returns-then-a-eq0-clause-divides c = λ x i.
    let a = residue_of c.args.a in
    let f : FitsSigned w128 a.rem = search rules in
    let k : FitsSigned w128 a.modulus = search rules in
    let g : FitsSigned w128 c.size.result = search rules in
    let e : a.modulus ≡ pos 0 = omega (arith, ints) in
    let d : IsMultiple c.size.result a.rem = rw (to_z-of_z w128 a.rem f) at c.size.ensures.divides in
    moved (λ (t : ℤ). IsMultiple t x) c.size.result g (subst (λ (t : ℤ). IsMultiple c.size.result t) (sym (one_number a x e i)) d)
