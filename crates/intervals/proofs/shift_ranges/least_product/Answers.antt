use Rattle.std.proofs.Common.{◌≡◌, ℤ, pos, ◌-◌, ◌^◌, ◌*ℤ◌, arith, rules, sym, ◌∙◌, subst, FitsSigned, true, false}
use Rattle.std.specs.Int.Signed.{lt_z}
use Rattle.std.proofs.lemmas.Int.{ints, to_z-of_z}
use mir.Syntax.{w128}
use Rattle.ext_int.specs.declared.Ext.{Ext}
use Rattle.ext_int.specs.declared.Ext.TheVariants.{Low, Fin}
use Rattle.ext_int.specs.Ext.{Below, AtMost}
use Rattle.intervals.specs.Shifts.{AreProductsBetween}
use Rattle.intervals.proofs.LeftShifts.{low_minus, low_natural, most_product, least_product}
use Rattle.intervals.proofs.shift_ranges.least_product.Goals as goal

same_number : (n p : ℤ) → Fin p ≡ Fin n → p ≡ n
same_number n p e = cc

pub returns-then-n-lt0-clause-holds : goal.returns-then-n-lt0-clause-holds
returns-then-n-lt0-clause-holds c = λ x k at_x at_k.
    let n = c.in-Fin.n in
    let f : FitsSigned w128 n = search rules in
    let test : lt_z n (pos 0) ≡ true = rw (to_z-of_z w128 n f) at c.if-n-lt0.true in
    let some = rw (to_z-of_z w128 n f) at c.product.ensures.some in
    let none = rw (to_z-of_z w128 n f) at c.product.ensures.none in
    subst (λ (e : Ext). Below e (x *ℤ pos (2 ^ k))) (sym c.end_or.ensures)
    (low_minus n x c.product.result c.args.b.now k (omega (arith, ints)) some (subst (λ (e : Ext). Below e x) c.in-Fin.is at_x) at_k)

pub returns-then-n-lt0-clause-least : goal.returns-then-n-lt0-clause-least
returns-then-n-lt0-clause-least c = λ p l h is fits_l fits_h between.
    let n = c.in-Fin.n in
    let f : FitsSigned w128 n = search rules in
    let some = rw (to_z-of_z w128 n f) at c.product.ensures.some in
    let none = rw (to_z-of_z w128 n f) at c.product.ensures.none in
    let same : p ≡ n = same_number n p (sym is ∙ c.in-Fin.is) in
    subst (λ (e : Ext). AtMost (Fin l) e) (sym c.end_or.ensures)
    (most_product Low l h n c.product.result c.args.b.now fits_l fits_h (subst (λ (z : ℤ). AreProductsBetween l h z c.args.b.now) same between) some none).0

pub returns-else-n-lt0-clause-holds : goal.returns-else-n-lt0-clause-holds
returns-else-n-lt0-clause-holds c = λ x k at_x at_k.
    let n = c.in-Fin.n in
    let f : FitsSigned w128 n = search rules in
    let test : lt_z n (pos 0) ≡ false = rw (to_z-of_z w128 n f) at c.if-n-lt0.false in
    let some = rw (to_z-of_z w128 n f) at c.product-else-n-lt0.ensures.some in
    let none = rw (to_z-of_z w128 n f) at c.product-else-n-lt0.ensures.none in
    subst (λ (e : Ext). Below e (x *ℤ pos (2 ^ k))) (sym c.end_or-else-n-lt0.ensures)
    (low_natural n x c.product-else-n-lt0.result c.args.b.now k (omega (arith, ints)) some none (subst (λ (e : Ext). Below e x) c.in-Fin.is at_x) at_k)

pub returns-else-n-lt0-clause-least : goal.returns-else-n-lt0-clause-least
returns-else-n-lt0-clause-least c = λ p l h is fits_l fits_h between.
    let n = c.in-Fin.n in
    let f : FitsSigned w128 n = search rules in
    let some = rw (to_z-of_z w128 n f) at c.product-else-n-lt0.ensures.some in
    let none = rw (to_z-of_z w128 n f) at c.product-else-n-lt0.ensures.none in
    let same : p ≡ n = same_number n p (sym is ∙ c.in-Fin.is) in
    subst (λ (e : Ext). AtMost (Fin l) e) (sym c.end_or-else-n-lt0.ensures)
    (least_product (Fin (pos (2 ^ 127 - 1))) l h n c.product-else-n-lt0.result c.args.b.now fits_l fits_h (subst (λ (z : ℤ). AreProductsBetween l h z c.args.b.now) same between) some none).0
