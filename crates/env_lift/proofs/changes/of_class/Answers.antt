use Rattle.std.proofs.Common.{rules, ap, sym, ℤ, ◌*ℤ◌, refl, Some}
use Rattle.num_api.proofs.Parts.{in_point}
use Rattle.env_lift.proofs.changes.of_class.Goals as goal

pub returns : goal.returns
returns g c = λ n h.
    let rem = c.in-Some.ensures.some c.args.c.rem (search (rules, in_point)) in
    let modulus = c.in-Some-within.ensures.some c.args.c.modulus (search (rules, in_point)) in
    let product = c.binary-multiples.ensures.holds h.0 c.args.c.modulus (h.0 *ℤ c.args.c.modulus) (c.top-2.ensures h.0) modulus refl in
    c.binary.ensures.holds c.args.c.rem (h.0 *ℤ c.args.c.modulus) n rem product (ap (λ (k : ℤ). Some k) (sym h.1))
