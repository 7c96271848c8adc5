use Rattle.std.proofs.Common.{pos, ◌+ℤ◌, ◌-ℤ◌, FitsSigned, rules}
use Rattle.std.proofs.lemmas.Int.{to_z-of_z}
use mir.Syntax.{w128}
use Rattle.mem_shown.proofs.Ends.{outside_by}
use Rattle.mem_shown.proofs.span.Span.outside.Goals as goal

pub returns : goal.returns
returns c =
    let lo = c.args.lo in
    let hi = c.args.hi in
    let fl : FitsSigned w128 lo = c.ranges.lo in
    let fh : FitsSigned w128 hi = c.ranges.hi in
    let fb : FitsSigned w128 (lo -ℤ pos 1) = search rules in
    let fa : FitsSigned w128 (hi +ℤ pos 1) = search rules in
    outside_by c.args.self lo hi c.greatest_to-below.result c.least_from-above.result c.nearer.result
    (simp to_z-of_z at c.greatest_to-below.ensures) (simp to_z-of_z at c.least_from-above.ensures) c.nearer.ensures
