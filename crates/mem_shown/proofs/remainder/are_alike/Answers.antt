use Rattle.std.proofs.Common.{◌≡◌, ℤ, pos, ap, ◌∙◌, FitsSigned, rules}
use Rattle.std.specs.Int.{int_rem_euclid}
use Rattle.std.proofs.lemmas.Int.{to_z-of_z}
use mir.Syntax.{w128}
use Rattle.mem_shown.proofs.Classes.{alike_told, unlike_told}
use Rattle.mem_shown.proofs.remainder.are_alike.Goals as goal

pub returns-clause-alike : goal.returns-clause-alike
returns-clause-alike c =
    let fa : FitsSigned w128 c.args.a = c.ranges.a in
    let fb : FitsSigned w128 c.args.b = c.ranges.b in
    let fs : FitsSigned w128 c.from-size.result = search rules in
    let fr : FitsSigned w128 c.remainder.result = search rules in
    let fq : FitsSigned w128 c.remainder-2.result = search rules in
    let r : c.remainder.result ≡ int_rem_euclid c.args.a c.from-size.result = simp to_z-of_z at c.remainder.ensures.value in
    let q : c.remainder-2.result ≡ int_rem_euclid c.args.b c.from-size.result = simp to_z-of_z at c.remainder-2.ensures.value in
    let size : c.from-size.result ≡ pos c.args.size = c.from-size.ensures in
    alike_told c.args.a c.args.b c.remainder.result c.remainder-2.result c.args.size c.requires fr fq
    (r ∙ ap (λ (t : ℤ). int_rem_euclid c.args.a t) size) (q ∙ ap (λ (t : ℤ). int_rem_euclid c.args.b t) size)

pub returns-clause-unlike : goal.returns-clause-unlike
returns-clause-unlike c =
    let fa : FitsSigned w128 c.args.a = c.ranges.a in
    let fb : FitsSigned w128 c.args.b = c.ranges.b in
    let fs : FitsSigned w128 c.from-size.result = search rules in
    let r : c.remainder.result ≡ int_rem_euclid c.args.a c.from-size.result = simp to_z-of_z at c.remainder.ensures.value in
    let q : c.remainder-2.result ≡ int_rem_euclid c.args.b c.from-size.result = simp to_z-of_z at c.remainder-2.ensures.value in
    let size : c.from-size.result ≡ pos c.args.size = c.from-size.ensures in
    unlike_told c.args.a c.args.b c.remainder.result c.remainder-2.result c.args.size c.requires
    (r ∙ ap (λ (t : ℤ). int_rem_euclid c.args.a t) size) (q ∙ ap (λ (t : ℤ). int_rem_euclid c.args.b t) size)
