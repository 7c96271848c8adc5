use Rattle.std.proofs.Common.{ℤ, ◌≡◌, ◌<◌, ◌*◌, ◌+ℤ◌, neg_ℤ, sym, subst, ◌∙◌, arith, true, IsTrue}
use Rattle.ext_int.specs.Ext.{Above}
use Rattle.ext_int.specs.declared.Ext.{Ext}
use Rattle.bound_matrix.specs.Bound.{bound_at}
use Rattle.bound_matrix.specs.Points.{signed}
use Rattle.bound_matrix.proofs.Storing.{lowering-meets}
use Rattle.bound_matrix.proofs.Promises.{signed-opposite}
use Rattle.octagons_sources.proofs.Soundness.{drawn-above}
use Rattle.octagons_sources.proofs.Steps.{row-step}
use Rattle.octagons_sources.proofs.drawing.draw_row.Goals as goal
use Rattle.octagons_sources.proofs.drawing.draw_row.Goals.{then-is_exact, else-is_exact}

pub loop-j-preserved : goal.loop-j-preserved
loop-j-preserved c =
    let i = c.loop-j.invariant in
    let n = c.args.new.now.vars in
    let e = i.end in let t = c.loop-j-test.true in let r = c.requires.row in
    let column : c.loop-j.j < 2 * n = omega arith in
    record {
      vars = c.lower.ensures.vars ∙ i.vars;
      end = i.end;
      points = λ v w h all s. lowering-meets c.args.i c.loop-j.j c.find-found.result.bound (bound_at c.loop-j.new) (bound_at c.lower.new.self) c.lower.ensures.lowered (signed w) (signed-opposite w) (i.points v w h all s)
          (subst (λ (b : Ext). Above b (signed w c.loop-j.j +ℤ neg_ℤ (signed w c.args.i))) (sym c.find-found.ensures.value) (drawn-above c.args.from.now c.args.m.now n c.args.i c.loop-j.j v w h all r column));
      whole = λ x. elim c.if-is_exact.branch [
        | then-is_exact w ↦
            let so : IsTrue c.find-found.result.is_exact = cc in
            let was : IsTrue c.loop-j.is_exact = cc in
            let f = c.find-found.ensures.exact so in
            row-step c.args.from.now c.args.m.now c.args.i c.loop-j.j c.find-found.result.bound (bound_at c.args.new.now) (bound_at c.loop-j.new) (bound_at c.lower.new.self) c.lower.ensures.lowered f.0 f.1 (i.whole was)
        | else-is_exact w ↦ cc
      ];
    }
