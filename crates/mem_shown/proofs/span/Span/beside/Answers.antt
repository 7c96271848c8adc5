use Rattle.std.proofs.Common.{◌+ℤ◌, ◌-ℤ◌, refl, FitsSigned, rules}
use Rattle.std.proofs.lemmas.Int.{to_z-of_z}
use mir.Syntax.{w128}
use Rattle.mem_shown.proofs.Ends.{beside_above, beside_below, beside_none}
use Rattle.mem_shown.proofs.span.Span.beside.Goals as goal

pub returns-then-is_below : goal.returns-then-is_below
returns-then-is_below c =
    let s = c.args.self in
    let n = c.args.n in
    let fn : FitsSigned w128 n = c.ranges.n in
    let fm : FitsSigned w128 s.modulus = search rules in
    let fs : FitsSigned w128 (n +ℤ s.modulus) = search rules in
    simp to_z-of_z (beside_above s n (n +ℤ s.modulus) c.requires.span c.requires.inside refl ((simp to_z-of_z at c.is_below.ensures).0 c.if-is_below.true))

pub returns-then-is_above : goal.returns-then-is_above
returns-then-is_above c =
    let s = c.args.self in
    let n = c.args.n in
    let fn : FitsSigned w128 n = c.ranges.n in
    let fm : FitsSigned w128 s.modulus = search rules in
    let fs : FitsSigned w128 (n -ℤ s.modulus) = search rules in
    simp to_z-of_z (beside_below s n (n -ℤ s.modulus) c.requires.span c.requires.inside refl ((simp to_z-of_z at c.is_above.ensures).0 c.if-is_above.true))

pub returns-else-is_above : goal.returns-else-is_above
returns-else-is_above c =
    let s = c.args.self in
    let n = c.args.n in
    let fn : FitsSigned w128 n = c.ranges.n in
    let fm : FitsSigned w128 s.modulus = search rules in
    let fs : FitsSigned w128 (n +ℤ s.modulus) = search rules in
    let fd : FitsSigned w128 (n -ℤ s.modulus) = search rules in
    beside_none s n (n +ℤ s.modulus) (n -ℤ s.modulus) c.requires.span c.requires.inside refl
    (λ k. let t = (simp to_z-of_z at c.is_below.ensures).1 k in let f = c.if-is_below.false in cc) refl
    (λ k. let t = (simp to_z-of_z at c.is_above.ensures).1 k in let f = c.if-is_above.false in cc)
