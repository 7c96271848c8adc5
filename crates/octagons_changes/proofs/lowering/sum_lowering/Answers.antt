use Rattle.std.proofs.Common.{subst, sym}
use Rattle.ext_int.specs.Ext.{Above}
use Rattle.octagons_changes.proofs.Bounding.{sum-at}
use Rattle.octagons_changes.proofs.lowering.sum_lowering.Goals as goal

pub returns-in-Some-Some-clause-met : goal.returns-in-Some-Some-clause-met
returns-in-Some-Some-clause-met c = λ v h.
    let b = c.in-Some-Some in
    let x = b.ensures.some in let y = b.ensures'.some in
    subst (Above c.args.most)
    (sym (sum-at v c.args.pack.now c.args.s c.args.t b.k b.l c.index_of.result c.index_of-in-Some-Some.result x.0 x.1 y.0 y.1 c.index_of.ensures c.index_of-in-Some-Some.ensures)) h
