use Rattle.std.proofs.Common.{FitsSigned, rules}
use Rattle.std.proofs.lemmas.Int.{to_z-of_z}
use mir.Syntax.{w128}
use Rattle.mem_shown.proofs.Ends.{IsStart, IsNext, least_some, least_none}
use Rattle.mem_shown.proofs.span.Span.least_from.Goals as goal

pub returns-then-is_below : goal.returns-then-is_below
returns-then-is_below c =
    let s = c.args.self in
    let n = c.args.n in
    let start = c.start_from.result in
    let found = c.next_member-found.result in
    let fn : FitsSigned w128 n = c.ranges.n in
    let fs : FitsSigned w128 start = search rules in
    let ff : FitsSigned w128 found = search rules in
    let e = c.start_from.ensures in
    let b = c.next_member-found.ensures in
    let first : IsStart s n start = record { end = e.end; from = simp to_z-of_z at e.from; least = simp to_z-of_z at e.least } in
    let next : IsNext s start found = record { member = b.member; above = simp to_z-of_z at b.above; least = simp to_z-of_z at b.least; within = b.within } in
    simp to_z-of_z (least_some s n start found first next ((simp to_z-of_z at c.is_below.ensures).0 c.if-is_below.true))

pub returns-else-is_below : goal.returns-else-is_below
returns-else-is_below c =
    let s = c.args.self in
    let n = c.args.n in
    let start = c.start_from.result in
    let found = c.next_member-found.result in
    let fn : FitsSigned w128 n = c.ranges.n in
    let fs : FitsSigned w128 start = search rules in
    let ff : FitsSigned w128 found = search rules in
    let e = c.start_from.ensures in
    let b = c.next_member-found.ensures in
    let first : IsStart s n start = record { end = e.end; from = simp to_z-of_z at e.from; least = simp to_z-of_z at e.least } in
    let next : IsNext s start found = record { member = b.member; above = simp to_z-of_z at b.above; least = simp to_z-of_z at b.least; within = b.within } in
    least_none s n start found first next (λ k. let t = (simp to_z-of_z at c.is_below.ensures).1 k in let f = c.if-is_below.false in cc)
