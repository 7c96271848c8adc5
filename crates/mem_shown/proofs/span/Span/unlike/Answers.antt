use Rattle.std.proofs.Common.{FitsSigned, rules}
use Rattle.std.proofs.lemmas.Int.{to_z-of_z}
use mir.Syntax.{w128}
use Rattle.mem_shown.proofs.Ends.{all_alike, unlike_beside}
use Rattle.mem_shown.proofs.span.Span.unlike.Goals as goal

pub returns-then-are_alike-2 : goal.returns-then-are_alike-2
returns-then-are_alike-2 c =
    let s = c.args.self in
    let n = c.args.n in
    let found = c.in_ok-found.found in
    let fn : FitsSigned w128 n = c.ranges.n in
    let ff : FitsSigned w128 found = search rules in
    let fm : FitsSigned w128 s.modulus = search rules in
    all_alike s found n c.args.size c.in_ok-found.ensures.0
    ((simp to_z-of_z at c.are_alike.ensures.alike) c.if-are_alike.true) ((simp to_z-of_z at c.are_alike-then-are_alike.ensures.alike) c.if-are_alike-2.true)

pub returns-else-are_alike-2 : goal.returns-else-are_alike-2
returns-else-are_alike-2 c =
    let s = c.args.self in
    let n = c.args.n in
    let found = c.in_ok-found.found in
    let fn : FitsSigned w128 n = c.ranges.n in
    let ff : FitsSigned w128 found = search rules in
    let fm : FitsSigned w128 s.modulus = search rules in
    unlike_beside s found n c.args.size c.beside.result c.in_ok-found.ensures.0
    ((simp to_z-of_z at c.are_alike.ensures.alike) c.if-are_alike.true) ((simp to_z-of_z at c.are_alike-then-are_alike.ensures.unlike) c.if-are_alike-2.false)
    (simp to_z-of_z at c.beside.ensures)

pub returns-else-are_alike : goal.returns-else-are_alike
returns-else-are_alike c =
    let n = c.args.n in
    let found = c.in_ok-found.found in
    let fn : FitsSigned w128 n = c.ranges.n in
    let ff : FitsSigned w128 found = search rules in
    simp to_z-of_z (c.in_ok-found.ensures.0, (simp to_z-of_z at c.are_alike.ensures.unlike) c.if-are_alike.false)
