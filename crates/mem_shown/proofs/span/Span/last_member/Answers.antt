use Rattle.std.proofs.Common.{◌≡◌, ℤ, ◌-ℤ◌, ◌≤ℤ◌, sym, subst, FitsSigned, rules}
use Rattle.std.specs.Int.{int_rem_euclid}
use Rattle.std.proofs.lemmas.Int.{to_z-of_z}
use mir.Syntax.{w128}
use Rattle.c_syntax.specs.Admission.{IsInClass}
use Rattle.mem_shown.proofs.Classes.{last_in, last_last}
use Rattle.mem_shown.proofs.span.Span.last_member.Goals as goal

pub returns-clause-member : goal.returns-clause-member
returns-clause-member c =
    let s = c.args.self in
    let n = c.args.n in
    let r = c.remainder.result in
    let fn : FitsSigned w128 n = c.ranges.n in
    let fr : FitsSigned w128 s.rem = search rules in
    let fm : FitsSigned w128 s.modulus = search rules in
    let fd : FitsSigned w128 (n -ℤ s.rem) = search rules in
    let ff : FitsSigned w128 r = search rules in
    let fs : FitsSigned w128 (n -ℤ r) = search rules in
    let value : r ≡ int_rem_euclid (n -ℤ s.rem) s.modulus = simp to_z-of_z at c.remainder.ensures.value in
    simp to_z-of_z (subst (λ (t : ℤ). IsInClass s.modulus s.rem (n -ℤ t)) (sym value) (last_in s.modulus s.rem n c.requires.span.modulus_low))

pub returns-clause-greatest : goal.returns-clause-greatest
returns-clause-greatest c = λ m i l.
    let s = c.args.self in
    let n = c.args.n in
    let r = c.remainder.result in
    let fn : FitsSigned w128 n = c.ranges.n in
    let fr : FitsSigned w128 s.rem = search rules in
    let fm : FitsSigned w128 s.modulus = search rules in
    let fd : FitsSigned w128 (n -ℤ s.rem) = search rules in
    let ff : FitsSigned w128 r = search rules in
    let fs : FitsSigned w128 (n -ℤ r) = search rules in
    let value : r ≡ int_rem_euclid (n -ℤ s.rem) s.modulus = simp to_z-of_z at c.remainder.ensures.value in
    simp to_z-of_z (subst (λ (t : ℤ). m ≤ℤ (n -ℤ t)) (sym value) (last_last s.modulus s.rem n m c.requires.span.modulus_low i l))
