use Rattle.std.proofs.Common.{sym, arith}
use Rattle.bound_matrix.proofs.Places.{entry-out}
use Rattle.octagons_sources.proofs.between.bound_or_none.Goals as goal
use Rattle.octagons_sources.proofs.between.bound_or_none.Goals.{else-i-indices-via-then-i-indices+else-j-indices, else-i-indices-via-else-i-indices}

pub returns-else-i-indices-clause-value : goal.returns-else-i-indices-clause-value
returns-else-i-indices-clause-value c = sym (entry-out c.args.m.now.vars c.args.m.now.kept c.args.i c.args.j (λ a b.
    let e = c.vars-indices.ensures.value in
    elim c.else-i-indices.branch [ else-i-indices-via-then-i-indices+else-j-indices w ↦ omega arith | else-i-indices-via-else-i-indices w ↦ omega arith ]))
