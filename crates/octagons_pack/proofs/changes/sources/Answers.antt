use Rattle.std.proofs.Common.{ℕ, sym, subst, ◌≡◌, ◌≢◌, ◌<◌, ◌≤◌, ◌∙◌, length, arith, below_more, get_or-set_other, get_or-set_same}
use Rattle.std.proofs.Math.ListN.{length-set}
use Rattle.octagons_sources.specs.Sources.{IsDrawn, source_at}
use Rattle.octagons_pack.specs.Packs.{picked}
use Rattle.octagons_pack.proofs.Picking.{picked-at}
use Rattle.octagons_pack.proofs.changes.sources.Goals as goal

pub returns : goal.returns
returns c = λ v w h k l.
    let i = c.loop-k.invariant in let e = c.loop-k-test.false in
    subst (IsDrawn (source_at c.loop-k.from k) (picked v c.args.old.now)) (sym (picked-at w c.args.pack.now k l)) (i.before v w h k (omega arith))

pub loop-k-preserved : goal.loop-k-preserved
loop-k-preserved c =
    let i = c.loop-k.invariant in let h = c.loop-k-test.true in let few = c.requires.few in let z = i.size in
    record {
      size = simp length-set i.size;
      before = λ v w changes. below_more _ _
          (λ p l. let ne : p ≢ c.loop-k.k = omega arith in rw get_or-set_other (i.before v w changes p l))
          (let lt : c.loop-k.k < length c.loop-k.from = omega arith in rw get_or-set_same (c.source_of.ensures v w changes));
    }
