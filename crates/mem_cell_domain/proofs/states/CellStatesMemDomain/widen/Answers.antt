use Rattle.std.proofs.Common.{◌∙◌, map, subst, sym}
use Rattle.mem_cell_exprs.specs.Known.{StandsFor}
use Rattle.std.proofs.lemmas.Result.{IfOk-weaker, on_ok_weaker}
use Rattle.c_syntax.specs.Types.{object_tree}
use Rattle.mem_cell_domain.proofs.Sets.{known-same}
use Rattle.mem_cell_domain.proofs.states.CellStatesMemDomain.widen.Goals as goal

pub returns : goal.returns
returns g c =
    let m = c.args.self.now in let o = c.args.next.now in
    let os = map object_tree m.objects in
    record {
      is_for = λ q f. (f.0, c.widen.ensures.types ∙ f.1);
      left = on_ok_weaker c.widen.result (λ law s st. law os s st) c.widen.ensures.left;
      right = on_ok_weaker c.widen.result (λ law s st. law os s (c.requires.one.2.1 ∙ sym c.requires.one.1.1)
          (subst (λ ys. StandsFor g.D.Oracle.admits ys o.known s) (c.requires.one.2.0 ∙ sym c.requires.one.1.0) st)) c.widen.ensures.right;
      fell = c.widen.ensures.fell;
      same = IfOk-weaker c.widen.result _ _ (λ falls h no. known-same m c.widen.new.known (h no)) c.widen.ensures.same;
    }
