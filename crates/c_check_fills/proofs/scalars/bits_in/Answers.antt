use Rattle.std.proofs.Common.{◌≡◌, true, pos, FitsSigned, ap, rules, arith}
use Rattle.std.specs.Prelude.{int_lt, nat_abs}
use Rattle.std.specs.Int.{w128}
use Rattle.std.proofs.lemmas.Int.{to_z-of_z}
use Rattle.c_values.proofs.Ranges.{code_bits, bits_below}
use Rattle.c_check_fills.proofs.scalars.bits_in.Goals as goal

pub returns-then-n-lt0 : goal.returns-then-n-lt0
returns-then-n-lt0 c =
    let fn : FitsSigned w128 c.args.n = c.ranges.n in
    let fl : FitsSigned w128 c.least.result = search rules in
    let low : int_lt c.args.n (pos 0) ≡ true = simp to_z-of_z at c.if-n-lt0.true in
    ap nat_abs (code_bits c.args.t c.args.n c.least.result c.requires low fn fl c.least.ensures)

pub overflow_cast-result : goal.overflow_cast-result
overflow_cast-result c =
    let fn : FitsSigned w128 c.args.n = c.ranges.n in
    let fl : FitsSigned w128 c.least.result = search rules in
    let low : int_lt c.args.n (pos 0) ≡ true = simp to_z-of_z at c.if-n-lt0.true in
    let e = code_bits c.args.t c.args.n c.least.result c.requires low fn fl c.least.ensures in
    rw e (tt, omega (arith, bits_below c.args.t c.args.n c.requires low))
