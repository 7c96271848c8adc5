use Rattle.std.proofs.Common.{rules, ◌≡◌, pos, ◌≤ℤ◌, ◌<ℤ◌, ◌-ℤ◌, FitsSigned, sym, ◌∙◌, arith}
use Rattle.std.specs.Int.{w128, int_rem_euclid}
use Rattle.std.proofs.lemmas.Int.{ints, to_z-of_z}
use Rattle.c_layout.proofs.Wrapping.{wrapped_has, wrapped_past}
use Rattle.c_layout.proofs.integer.wrap.Goals as goal

pub returns-then-low-from : goal.returns-then-low-from
returns-then-low-from c =
    let low_fits : FitsSigned w128 c.rem_euclid-low.result = search rules in
    let count_fits : FitsSigned w128 c.count_of-count.result = search rules in
    let n_is = to_z-of_z w128 c.args.n c.ranges.n in
    let count_is = to_z-of_z w128 c.count_of-count.result count_fits in
    let value : c.rem_euclid-low.result ≡ int_rem_euclid c.args.n c.count_of-count.result = simp (n_is, count_is) at c.rem_euclid-low.ensures.value in
    let past : pos c.greatest.result <ℤ c.rem_euclid-low.result = omega (arith, ints, c.from.ensures, c.if-low-from.true) in
    let found = wrapped_past c.args.t c.args.n c.rem_euclid-low.result c.count_of-count.result c.greatest.result value c.count_of-count.ensures c.greatest.ensures past in
    let difference : FitsSigned w128 (c.rem_euclid-low.result -ℤ c.count_of-count.result) = search rules in
    simp (count_is, to_z-of_z w128 _ low_fits) (to_z-of_z w128 _ difference ∙ sym found)

pub returns-else-low-from : goal.returns-else-low-from
returns-else-low-from c =
    let low_fits : FitsSigned w128 c.rem_euclid-low.result = search rules in
    let count_fits : FitsSigned w128 c.count_of-count.result = search rules in
    let n_is = to_z-of_z w128 c.args.n c.ranges.n in
    let count_is = to_z-of_z w128 c.count_of-count.result count_fits in
    let value : c.rem_euclid-low.result ≡ int_rem_euclid c.args.n c.count_of-count.result = simp (n_is, count_is) at c.rem_euclid-low.ensures.value in
    let has : c.rem_euclid-low.result ≤ℤ pos c.greatest.result = omega (arith, ints, c.from.ensures, c.if-low-from.false) in
    to_z-of_z w128 _ low_fits ∙ sym (wrapped_has c.args.t c.args.n c.rem_euclid-low.result c.count_of-count.result c.greatest.result value c.count_of-count.ensures c.greatest.ensures has)
