use Rattle.std.proofs.Common.{FitsSigned, rules}
use Rattle.std.proofs.lemmas.Int.{to_z-of_z}
use mir.Syntax.{w128}
use Rattle.mem_shown.proofs.Ends.{IsStop, IsLast, greatest_some, greatest_none}
use Rattle.mem_shown.proofs.span.Span.greatest_to.Goals as goal

pub returns-then-is_above : goal.returns-then-is_above
returns-then-is_above c =
    let s = c.args.self in
    let n = c.args.n in
    let start = c.end_to.result in
    let found = c.last_member-found.result in
    let fn : FitsSigned w128 n = c.ranges.n in
    let fs : FitsSigned w128 start = search rules in
    let ff : FitsSigned w128 found = search rules in
    let e = c.end_to.ensures in
    let b = c.last_member-found.ensures in
    let first : IsStop s n start = record { end = e.end; to = simp to_z-of_z at e.to; greatest = simp to_z-of_z at e.greatest } in
    let next : IsLast s start found = record { member = b.member; below = simp to_z-of_z at b.below; greatest = simp to_z-of_z at b.greatest; within = b.within } in
    simp to_z-of_z (greatest_some s n start found first next ((simp to_z-of_z at c.is_above.ensures).0 c.if-is_above.true))

pub returns-else-is_above : goal.returns-else-is_above
returns-else-is_above c =
    let s = c.args.self in
    let n = c.args.n in
    let start = c.end_to.result in
    let found = c.last_member-found.result in
    let fn : FitsSigned w128 n = c.ranges.n in
    let fs : FitsSigned w128 start = search rules in
    let ff : FitsSigned w128 found = search rules in
    let e = c.end_to.ensures in
    let b = c.last_member-found.ensures in
    let first : IsStop s n start = record { end = e.end; to = simp to_z-of_z at e.to; greatest = simp to_z-of_z at e.greatest } in
    let next : IsLast s start found = record { member = b.member; below = simp to_z-of_z at b.below; greatest = simp to_z-of_z at b.greatest; within = b.within } in
    greatest_none s n start found first next (λ k. let t = (simp to_z-of_z at c.is_above.ensures).1 k in let f = c.if-is_above.false in cc)
