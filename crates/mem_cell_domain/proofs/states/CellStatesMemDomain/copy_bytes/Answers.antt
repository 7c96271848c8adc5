use Rattle.std.proofs.Common.{◌∙◌, map}
use Rattle.csharp.specs.Trees.{csexpr_tree}
use Rattle.std.proofs.lemmas.Result.{on_ok_weaker}
use Rattle.c_syntax.specs.Types.{object_tree}
use Rattle.mem_cell_domain.proofs.Items.{on-ok}
use Rattle.mem_cell_domain.proofs.states.CellStatesMemDomain.copy_bytes.Goals as goal

pub returns : goal.returns
returns g c = record {
  is_for = λ q f. (f.0, c.copy_bytes.ensures.types ∙ f.1);
  stands = on_ok_weaker c.copy_bytes.result (λ law s t st step. law (csexpr_tree c.args._from.now) (map object_tree c.args.self.now.objects) s t st step) c.copy_bytes.ensures.stands;
  sharp = on-ok c.copy_bytes.result (λ s t no step. absurd no);
  plain = on-ok c.copy_bytes.result (λ p q no step. absurd no);
}
