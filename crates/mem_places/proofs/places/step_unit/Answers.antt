use Rattle.std.proofs.Common.{◌≡◌, ℤ, pos, ◌*ℤ◌, FitsSigned, Some, None, rules, sym, ◌∙◌, subst}
use mir.Syntax.{w128}
use Rattle.std.proofs.lemmas.Int.{to_z-of_z}
use Rattle.csharp.specs.Trees.{csexpr_tree}
use Rattle.mem_places.specs.Units.{IsUnit}
use Rattle.mem_places.specs.Places.{IsUnitOf, constant_of}
use Rattle.mem_places.proofs.Moving.{unit_of_constant, unit_of_size}
use Rattle.mem_places.proofs.places.step_unit.Goals as goal

pub returns-in-Some : goal.returns-in-Some
returns-in-Some c =
    let e = csexpr_tree c.args.count.now in let u = c.product_unit.result in
    let fits : FitsSigned w128 u = search rules in let n_fits : FitsSigned w128 c.in-Some.n = search rules in
    let is : constant_of e ≡ Some c.in-Some.n = sym c.constant.ensures ∙ c.in-Some.is in
    subst (IsUnitOf c.args.size e) (sym (to_z-of_z w128 u fits))
    (unit_of_constant c.args.size e c.in-Some.n u is
    (subst (λ (x : ℤ). IsUnit (pos c.args.size *ℤ x) u) (to_z-of_z w128 c.in-Some.n n_fits) c.product_unit.ensures))

pub returns-in-None : goal.returns-in-None
returns-in-None c =
    let e = csexpr_tree c.args.count.now in let u = c.unit.result in let n = c.from.result in
    let fits : FitsSigned w128 u = search rules in let n_fits : FitsSigned w128 n = search rules in
    let is : constant_of e ≡ None = sym c.constant.ensures ∙ c.in-None.is in
    subst (IsUnitOf c.args.size e) (sym (to_z-of_z w128 u fits))
    (unit_of_size c.args.size e u is (subst (λ (x : ℤ). IsUnit x u) (to_z-of_z w128 n n_fits ∙ c.from.ensures) c.unit.ensures))
