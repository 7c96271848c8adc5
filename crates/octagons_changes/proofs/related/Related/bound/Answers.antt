use Rattle.std.proofs.Common.{sym, ◌∙◌, ◌<◌, ◌+◌, ap, arith}
use Rattle.bound_matrix.specs.Bound.{bound_at}
use Rattle.bound_matrix.proofs.Places.{entry-out}
use Rattle.octagons_changes.specs.States.{OctagonView}
use Rattle.octagons_changes.proofs.related.Related.bound.Goals as goal
use Rattle.octagons_changes.proofs.related.Related.bound.Goals.{else-i-indices-via-then-i-indices+else-j-indices, else-i-indices-via-else-i-indices}

pub returns-else-i-indices-clause-value : goal.returns-else-i-indices-clause-value
returns-else-i-indices-clause-value c =
    let m = c.self.inside.bounds in
    let n = c.vars-indices.ensures.value in
    let out : c.args.i < m.vars + m.vars → c.args.j < m.vars + m.vars → ⊥ = elim c.else-i-indices.branch [
      | else-i-indices-via-then-i-indices+else-j-indices w ↦ (λ a b. let h = w.if-j-indices.false in absurd (omega arith))
      | else-i-indices-via-else-i-indices w ↦ (λ a b. let h = w.if-i-indices.false in absurd (omega arith))
    ] in
    sym (entry-out m.vars m.kept c.args.i c.args.j out) ∙ ap (λ (o : OctagonView). bound_at o.matrix c.args.i c.args.j) c.self.view_is
