use Rattle.std.proofs.Common.{◌≡◌, ℤ, pos, ◌*ℤ◌, FitsSigned, subst, rules}
use Rattle.std.proofs.lemmas.Int.{to_z-of_z}
use mir.Syntax.{w128}
use Rattle.num_api.specs.Residues.{IsMultiple}
use Rattle.num_api.specs.Fold.{IsAlignment}
use Rattle.residues.specs.Class.{residue_of}
use Rattle.residues.specs.Classes.{IsClassOf}
use Rattle.residues.proofs.Moves.{unmoved}
use Rattle.residues.proofs.Products.{multiples_hold, multiples_fold}
use Rattle.residues.proofs.class.products.multiples.Goals as goal

pub returns-clause-holds : goal.returns-clause-holds
returns-clause-holds c =
    let f : FitsSigned w128 c.args.f = c.ranges.f in
    let g : FitsSigned w128 c.args.g = c.ranges.g in
    let h : FitsSigned w128 c.power_in.result = search rules in
    let i : FitsSigned w128 c.power_in-2.result = search rules in
    let j : FitsSigned w128 c.powers_product.result = search rules in
    let k : IsClassOf (pos 0) c.powers_product.result (residue_of c.of.result) = simp to_z-of_z at c.of.ensures in
    let e : c.powers_product.result ≡ c.power_in.result *ℤ c.power_in-2.result = simp to_z-of_z at c.powers_product.ensures.value in
    let p : IsClassOf (pos 0) (c.power_in.result *ℤ c.power_in-2.result) (residue_of c.of.result) = subst (λ (t : ℤ). IsClassOf (pos 0) t (residue_of c.of.result)) e k in
    let u : IsMultiple c.power_in.result c.args.f = simp to_z-of_z at c.power_in.ensures.divides in
    let v : IsMultiple c.power_in-2.result c.args.g = simp to_z-of_z at c.power_in-2.ensures.divides in
    λ x y d e. multiples_hold c.args.f c.args.g c.power_in.result c.power_in-2.result x y (residue_of c.of.result) p u v d e

pub returns-clause-folds : goal.returns-clause-folds
returns-clause-folds c =
    let f : FitsSigned w128 c.args.f = c.ranges.f in
    let g : FitsSigned w128 c.args.g = c.ranges.g in
    let h : FitsSigned w128 c.power_in.result = search rules in
    let i : FitsSigned w128 c.power_in-2.result = search rules in
    let j : FitsSigned w128 c.powers_product.result = search rules in
    let k : IsClassOf (pos 0) c.powers_product.result (residue_of c.of.result) = simp to_z-of_z at c.of.ensures in
    let e : c.powers_product.result ≡ c.power_in.result *ℤ c.power_in-2.result = simp to_z-of_z at c.powers_product.ensures.value in
    let p : IsClassOf (pos 0) (c.power_in.result *ℤ c.power_in-2.result) (residue_of c.of.result) = subst (λ (t : ℤ). IsClassOf (pos 0) t (residue_of c.of.result)) e k in
    let u = unmoved (λ (t : ℤ). (d : ℤ) → IsAlignment d → IsMultiple d t → IsMultiple d c.power_in.result) c.args.f f c.power_in.ensures.folds in
    let v = unmoved (λ (t : ℤ). (d : ℤ) → IsAlignment d → IsMultiple d t → IsMultiple d c.power_in-2.result) c.args.g g c.power_in-2.ensures.folds in
    λ d al k. multiples_fold d c.args.f c.args.g c.power_in.result c.power_in-2.result (residue_of c.of.result) p (u d al) (v d al) k
