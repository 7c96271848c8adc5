use Rattle.std.proofs.Common.{◌∙◌, map}
use Rattle.std.proofs.lemmas.Result.{on_ok_weaker}
use Rattle.c_syntax.specs.Types.{object_tree}
use Rattle.mem_cell_domain.proofs.Items.{on-ok}
use Rattle.mem_cell_domain.proofs.states.CellStatesMemDomain.leave.Goals as goal

pub returns : goal.returns
returns g c = record {
  is_for = λ q f. (f.0, c.leave.ensures.types ∙ f.1);
  stands = on_ok_weaker c.leave.result (λ law s st. law (map object_tree c.args.self.now.objects) s st) c.leave.ensures.stands;
  sharp = on-ok c.leave.result (λ s no. absurd no);
  plain = on-ok c.leave.result (λ p no. absurd no);
}
