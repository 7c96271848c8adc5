use Rattle.std.proofs.Common.{FitsSigned, rules}
use Rattle.std.proofs.lemmas.Int.{to_z-of_z}
use mir.Syntax.{w128}
use Rattle.mem_shown.proofs.Unfailing.{number_outside}
use Rattle.mem_shown.proofs.number.failing_number.Goals as goal

pub returns-in-Overflow : goal.returns-in-Overflow
returns-in-Overflow c =
    let check = c.args.check.now in
    let fl : FitsSigned w128 check.lo = search rules in
    let fh : FitsSigned w128 check.hi = search rules in
    number_outside check c.args.span c.outside.result c.in-Overflow.is (simp to_z-of_z at c.outside.ensures)
