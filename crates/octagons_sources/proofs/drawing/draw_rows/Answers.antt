use Rattle.std.proofs.Common.{ℕ, ℤ, List, ◌≡◌, ◌<◌, ◌*◌, sym, subst, ◌∙◌, ap, arith, true, IsTrue}
use Rattle.bound_matrix.specs.Bound.{bound_at}
use Rattle.octagons_sources.specs.Sources.{AllDrawn}
use Rattle.octagons_sources.specs.Drawn.{DrawsRow}
use Rattle.octagons_sources.proofs.Steps.{rows-step}
use Rattle.octagons_sources.proofs.drawing.draw_rows.Goals as goal
use Rattle.octagons_sources.proofs.drawing.draw_rows.Goals.{then-is_exact, else-is_exact}

pub loop-i-preserved : goal.loop-i-preserved
loop-i-preserved c =
    let i = c.loop-i.invariant in
    let r = c.draw_row-is_whole.ensures in
    record {
      vars = r.vars ∙ i.vars;
      end = i.end;
      points = λ v w h all. r.points v w h (subst (λ (n : ℕ). AllDrawn c.args.from.now n v w) (sym i.vars) all) (i.points v w h all);
      whole = λ x. elim c.if-is_exact.branch [
        | then-is_exact w ↦
            let so : IsTrue c.draw_row-is_whole.result = cc in
            let was : IsTrue c.loop-i.is_exact = cc in
            let e : 2 * c.loop-i.new.vars ≡ 2 * c.vars-i-end.result = ap (λ (n : ℕ). 2 * n) i.vars ∙ sym i.end in
            rows-step c.args.from.now c.loop-i.i (2 * c.vars-i-end.result) (bound_at c.args.m.now) (bound_at c.loop-i.new) (bound_at c.draw_row-is_whole.new.new)
            (subst (λ (n : ℕ). DrawsRow c.args.from.now c.loop-i.i n (bound_at c.args.m.now) (bound_at c.loop-i.new) (bound_at c.draw_row-is_whole.new.new)) e (r.whole so)) (i.whole was)
        | else-is_exact w ↦ cc
      ];
    }

pub returns-clause-whole : goal.returns-clause-whole
returns-clause-whole c = λ t p q k l.
    let i = c.loop-i.invariant in
    let v = i.vars in let e = i.end in let f = c.loop-i-test.false in
    (i.whole t).rows p q (omega arith) (omega arith)
