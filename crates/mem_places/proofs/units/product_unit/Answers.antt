use Rattle.std.proofs.Common.{◌≡◌, ◌≤◌, ℤ, pos, ◌*ℤ◌, ◌%◌, FitsSigned, to_z, of_z, rules, arith, sym, ap, ◌∙◌, subst}
use mir.Syntax.{w128}
use Rattle.std.specs.Int.{int_rem_euclid}
use Rattle.std.specs.Int.RustNames.{unsigned_abs}
use Rattle.std.proofs.lemmas.Int.{ints, to_z-of_z, fits_signed_mul}
use Rattle.mem_places.specs.Units.{IsUnit}
use Rattle.mem_places.proofs.Dividing.{unit_product, off_by_eight, rest_small}
use Rattle.mem_places.proofs.units.product_unit.Goals as goal

pub returns : goal.returns
returns c =
    let a = c.from-count.result in let b = c.rem_euclid-n.result in let n = c.args.n in
    let a_fits : FitsSigned w128 a = search rules in let b_fits : FitsSigned w128 b = search rules in let u_fits : FitsSigned w128 c.unit.result = search rules in
    let n_fits : FitsSigned w128 n = search rules in
    let first : a ≡ pos (c.args.count % 8) = c.from-count.ensures in
    let second : b ≡ int_rem_euclid n (pos 8) = c.rem_euclid-n.ensures.value ∙ ap (λ (t : ℤ). int_rem_euclid t (pos 8)) (to_z-of_z w128 n n_fits) in
    let a_small : unsigned_abs a ≤ 7 = subst (λ (t : ℤ). unsigned_abs t ≤ 7) (sym first) (omega (arith, ints)) in
    let b_small : unsigned_abs b ≤ 7 = subst (λ (t : ℤ). unsigned_abs t ≤ 7) (sym second) (rest_small n) in
    let p_fits = fits_signed_mul w128 a b 7 7 a_small b_small (omega arith) in
    let whole : to_z w128 (of_z w128 (to_z w128 (of_z w128 a) *ℤ to_z w128 (of_z w128 b))) ≡ pos (c.args.count % 8) *ℤ int_rem_euclid n (pos 8) =
    ap (λ (t : ℤ). to_z w128 (of_z w128 (t *ℤ to_z w128 (of_z w128 b)))) (to_z-of_z w128 a a_fits)
    ∙ ap (λ (t : ℤ). to_z w128 (of_z w128 (a *ℤ t))) (to_z-of_z w128 b b_fits) ∙ to_z-of_z w128 (a *ℤ b) p_fits
    ∙ ap (λ (t : ℤ). t *ℤ b) first ∙ ap (λ (t : ℤ). pos (c.args.count % 8) *ℤ t) second in
    subst (IsUnit (pos c.args.count *ℤ n)) (sym (to_z-of_z w128 c.unit.result u_fits))
    (unit_product (pos c.args.count) n (pos (c.args.count % 8)) (int_rem_euclid n (pos 8)) c.unit.result (off_by_eight (pos c.args.count)) (off_by_eight n)
    (subst (λ (t : ℤ). IsUnit t c.unit.result) whole c.unit.ensures))
