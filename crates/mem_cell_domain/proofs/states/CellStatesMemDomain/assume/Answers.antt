use Rattle.std.proofs.Common.{◌∙◌, map}
use Rattle.std.proofs.lemmas.Result.{IfOk-weaker}
use Rattle.c_syntax.specs.Types.{object_tree}
use Rattle.mem_cell_domain.proofs.Items.{if-ok}
use Rattle.mem_cell_domain.proofs.states.CellStatesMemDomain.assume.Goals as goal

pub returns : goal.returns
returns g c = record {
  is_for = λ q f. (f.0, c.assume.ensures.shape.types ∙ f.1);
  stands = IfOk-weaker c.assume.result _ _ (λ live law s v st is truth. law (map object_tree c.args.self.now.objects) s v st is truth) c.assume.ensures.stands;
  sharp = if-ok c.assume.result _ (λ live s v no is truth. absurd no);
  dead = if-ok c.assume.result _ (λ live s v no is truth. absurd no);
  plain = if-ok c.assume.result _ (λ live q p r f no step. absurd no);
}
