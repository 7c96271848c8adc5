use Rattle.std.proofs.Common.{rules, subst, sym, ◌≤ℤ◌, pos, ℤ, FitsSigned, length}
use Rattle.std.proofs.lemmas.Int.{to_z-of_z}
use mir.Syntax.{w128}
use Rattle.octagons_linear.specs.Forms.{IsUpToZero}
use Rattle.octagons_linear.specs.declared.forms.Linear.{Linear}
use Rattle.octagons_pack.specs.Packs.{picked}
use Rattle.octagons_changes.proofs.lowering.limit_lowering.Goals as goal

pub returns-in-Number-clause-within : goal.returns-in-Number-clause-within
returns-in-Number-clause-within c = c.number_lowering.ensures.within (length c.args.pack.now)

pub returns-in-Number-clause-met : goal.returns-in-Number-clause-met
returns-in-Number-clause-met c = λ v h.
    let fits : FitsSigned w128 c.in-Number.n = search rules in
    let zero : c.in-Number.n ≤ℤ pos 0 = subst (λ (l : Linear). IsUpToZero v l) c.in-Number.is h in
    c.number_lowering.ensures.met (subst (λ (z : ℤ). z ≤ℤ pos 0) (sym (to_z-of_z w128 c.in-Number.n fits)) zero) (picked v c.args.pack.now)
