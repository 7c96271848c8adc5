use Rattle.std.proofs.Common.{◌≡◌, ℤ, pos, ◌+ℤ◌, ◌-ℤ◌, ◌≤ℤ◌, ◌<ℤ◌, ap, ◌∙◌, subst, FitsSigned, rules}
use Rattle.std.specs.Int.{int_rem_euclid}
use Rattle.std.proofs.lemmas.Int.{to_z-of_z}
use mir.Syntax.{w128}
use Rattle.num_api.specs.Residues.{InResidue}
use Rattle.ext_int.specs.declared.Ext.TheVariants.{Fin}
use Rattle.num_api.specs.Residues.{class_of}
use Rattle.residues.specs.Inward.{inward_low}
use Rattle.residues.proofs.Moves.{moved}
use Rattle.residues.proofs.Inward.{gap_up, low_is_next, low_stays, rest_fits}
use Rattle.residues.proofs.ends.raised.Goals as goal

pub returns-in-Some : goal.returns-in-Some
returns-in-Some c =
    let p = c.requires.proper in
    let one : pos 1 ≤ℤ c.args.c.modulus = c.requires.positive in
    let n = c.args.n in
    let fn : FitsSigned w128 n = c.ranges.n in
    let fr : FitsSigned w128 c.args.c.rem = search rules in
    let fm : FitsSigned w128 c.args.c.modulus = search rules in
    let s = c.remainder.result in
    let fs : FitsSigned w128 s = search rules in
    let s_high : s <ℤ c.args.c.modulus = simp to_z-of_z at c.remainder.ensures.high in
    let fd : FitsSigned w128 (c.args.c.rem -ℤ s) = rest_fits c.args.c.rem s c.args.c.modulus (p.rem_low one) (p.rem_high one) c.remainder.ensures.low s_high p.bounded in
    let same : InResidue (class_of s c.args.c.modulus) n = simp to_z-of_z at c.remainder.ensures.same in
    let gap = c.remainder-gap.result in
    let fg : FitsSigned w128 gap = search rules in
    let value : gap ≡ int_rem_euclid (c.args.c.rem -ℤ s) c.args.c.modulus = simp to_z-of_z at c.remainder-gap.ensures.value in
    let found : gap ≡ int_rem_euclid (c.args.c.rem -ℤ n) c.args.c.modulus = value ∙ gap_up c.args.c n s one same in
    let member = c.in-Some.member in
    let fme : FitsSigned w128 member = search rules in
    let e : member ≡ n +ℤ gap = (simp to_z-of_z at c.in-Some.ensures).1 in
    moved (λ (t : ℤ). Fin t ≡ inward_low c.args.c (Fin n)) member fme (low_is_next c.args.c n member one (e ∙ ap (λ (t : ℤ). n +ℤ t) found) fme)

pub returns-in-None : goal.returns-in-None
returns-in-None c =
    let p = c.requires.proper in
    let one : pos 1 ≤ℤ c.args.c.modulus = c.requires.positive in
    let n = c.args.n in
    let fn : FitsSigned w128 n = c.ranges.n in
    let fr : FitsSigned w128 c.args.c.rem = search rules in
    let fm : FitsSigned w128 c.args.c.modulus = search rules in
    let s = c.remainder.result in
    let fs : FitsSigned w128 s = search rules in
    let s_high : s <ℤ c.args.c.modulus = simp to_z-of_z at c.remainder.ensures.high in
    let fd : FitsSigned w128 (c.args.c.rem -ℤ s) = rest_fits c.args.c.rem s c.args.c.modulus (p.rem_low one) (p.rem_high one) c.remainder.ensures.low s_high p.bounded in
    let same : InResidue (class_of s c.args.c.modulus) n = simp to_z-of_z at c.remainder.ensures.same in
    let gap = c.remainder-gap.result in
    let fg : FitsSigned w128 gap = search rules in
    let value : gap ≡ int_rem_euclid (c.args.c.rem -ℤ s) c.args.c.modulus = simp to_z-of_z at c.remainder-gap.ensures.value in
    let found : gap ≡ int_rem_euclid (c.args.c.rem -ℤ n) c.args.c.modulus = value ∙ gap_up c.args.c n s one same in
    let unfit : FitsSigned w128 (n +ℤ gap) → ⊥ = simp to_z-of_z at c.in-None.ensures in
    moved (λ (t : ℤ). Fin t ≡ inward_low c.args.c (Fin n)) n fn (low_stays c.args.c n one fn (subst (λ (t : ℤ). FitsSigned w128 (n +ℤ t) → ⊥) found unfit))
