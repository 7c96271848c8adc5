use Rattle.std.proofs.Common.{◌∙◌, ap, map, slice_get}
use Rattle.std.proofs.lemmas.Result.{on_ok_weaker}
use Rattle.c_syntax.specs.Types.{object_tree}
use Rattle.mem_cell_domain.proofs.Items.{on-ok}
use Rattle.mem_cell_domain.proofs.states.CellStatesMemDomain.load.Goals as goal

pub load-requires : goal.load-requires
load-requires g c = ap (λ ts. slice_get ts c.args.temp) c.requires.1.1 ∙ c.requires.2.typed.1.1

pub returns : goal.returns
returns g c = record {
  is_for = λ q f. (f.0, c.load.ensures.types ∙ f.1);
  stands = on_ok_weaker c.load.result (λ law s t st step. law (map object_tree c.args.self.now.objects) s t st step) c.load.ensures.stands;
  sharp = on-ok c.load.result (λ s t no step. absurd no);
  plain = on-ok c.load.result (λ p q no step. absurd no);
}
