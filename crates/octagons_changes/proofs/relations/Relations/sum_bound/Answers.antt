use Rattle.std.proofs.Common.{rules, neg_ℤ, subst, sym, ◌≡◌, ◌<◌, ◌+ℤ◌, length}
use Rattle.ext_int.specs.Ext.{Above}
use Rattle.ext_int.specs.declared.Ext.{Ext}
use Rattle.bound_matrix.specs.Points.{signed}
use Rattle.octagons_pack.specs.Packs.{picked, at}
use Rattle.octagons_changes.proofs.Bounding.{sum-at}
use Rattle.octagons_changes.proofs.relations.Relations.sum_bound.Goals as goal

pub returns-in-Some-Some-clause-above : goal.returns-in-Some-Some-clause-above
returns-in-Some-Some-clause-above c = λ v h.
    let b = c.in-Some-Some in
    let pack = c.args.self.now.pack in
    let hk : b.k < length pack = search rules in
    let ek : at pack b.k ≡ c.args.s.var = search rules in
    let hl : b.l < length pack = search rules in
    let el : at pack b.l ≡ c.args.t.var = search rules in
    let i = c.index_of.result in let j = c.index_of-in-Some-Some.result in
    subst (Above c.bound.result) (sum-at v pack c.args.s c.args.t b.k b.l i j hk ek hl el c.index_of.ensures c.index_of-in-Some-Some.ensures)
    (subst (λ (e : Ext). Above e (signed (picked v pack) j +ℤ neg_ℤ (signed (picked v pack) i))) (sym c.bound.ensures.value) (h.meets i j))
