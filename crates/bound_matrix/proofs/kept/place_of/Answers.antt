use Rattle.std.proofs.Common.{arith, ◌≡◌, ◌+◌, ◌∙◌}
use Rattle.bound_matrix.specs.Bound.{bar, row_start}
use Rattle.bound_matrix.proofs.Places.{place-direct, place-mirrored}
use Rattle.bound_matrix.proofs.kept.place_of.Goals as goal

pub returns-then-j-columns : goal.returns-then-j-columns
returns-then-j-columns c = let e = c.columns.ensures in c.place_in_row.ensures ∙ place-direct c.args.i c.args.j (let t = c.if-j-columns.true in omega arith)

pub returns-else-j-columns : goal.returns-else-j-columns
returns-else-j-columns c = let e = c.columns.ensures in
    let z : row_start c.partner.result + c.partner-else-j-columns.result ≡ row_start (bar c.args.j) + bar c.args.i = (let a = c.partner.ensures in let b = c.partner-else-j-columns.ensures in cc) in
    c.place_in_row-else-j-columns.ensures ∙ (z ∙ place-mirrored c.args.i c.args.j (let t = c.if-j-columns.false in omega arith))
