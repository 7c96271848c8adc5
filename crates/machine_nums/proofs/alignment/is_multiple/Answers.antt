use Rattle.std.proofs.Common.{ℤ, sym, ◌∙◌, ap, rules, to_z, of_z, FitsSigned}
use Rattle.std.specs.Int.{int_rem_euclid}
use Rattle.std.proofs.lemmas.Int.{to_z-of_z}
use mir.Syntax.{w128}
use Rattle.machine_nums.proofs.Alignments.{multiple_from, no_rest, zero_from, zero_true}
use Rattle.machine_nums.proofs.alignment.is_multiple.Goals as goal

pub returns-clause-yes : goal.returns-clause-yes
returns-clause-yes c = λ e.
    let r = c.rem_euclid.result in let n = c.args.n in let m = c.args.m in
    let fits : FitsSigned w128 r = search rules in
    let is = c.rem_euclid.ensures.value ∙ ap (λ (x : ℤ). int_rem_euclid x (to_z w128 (of_z w128 m))) (to_z-of_z w128 n c.ranges.n) ∙ ap (int_rem_euclid n)
    (to_z-of_z w128 m c.ranges.m) in
    multiple_from m n c.requires (sym is ∙ zero_from r fits e)

pub returns-clause-no : goal.returns-clause-no
returns-clause-no c = λ e h.
    let r = c.rem_euclid.result in let n = c.args.n in let m = c.args.m in
    let is = c.rem_euclid.ensures.value ∙ ap (λ (x : ℤ). int_rem_euclid x (to_z w128 (of_z w128 m))) (to_z-of_z w128 n c.ranges.n) ∙ ap (int_rem_euclid n)
    (to_z-of_z w128 m c.ranges.m) in
    zero_true r e (is ∙ no_rest m n c.requires h)
