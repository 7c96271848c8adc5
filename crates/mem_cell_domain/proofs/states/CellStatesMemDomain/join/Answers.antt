use Rattle.std.proofs.Common.{◌∙◌, map, subst, sym}
use Rattle.mem_cell_exprs.specs.Known.{StandsFor}
use Rattle.std.proofs.lemmas.Result.{on_ok_weaker}
use Rattle.c_syntax.specs.Types.{object_tree}
use Rattle.mem_cell_domain.proofs.Items.{on-ok}
use Rattle.mem_cell_domain.proofs.states.CellStatesMemDomain.join.Goals as goal

pub returns : goal.returns
returns g c =
    let m = c.args.self.now in let o = c.args.other.now in
    let os = map object_tree m.objects in
    record {
      is_for = λ q f. (f.0, c.join.ensures.types ∙ f.1);
      left = on_ok_weaker c.join.result (λ law s st. law os s st) c.join.ensures.left;
      right = on_ok_weaker c.join.result (λ law s st. law os s (c.requires.2.1 ∙ sym c.requires.1.1)
          (subst (λ ys. StandsFor g.D.Oracle.admits ys o.known s) (c.requires.2.0 ∙ sym c.requires.1.0) st)) c.join.ensures.right;
      plain = on-ok c.join.result (λ p no other. absurd no);
    }
