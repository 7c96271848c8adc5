use Rattle.std.proofs.Common.{◌∙◌, ap, map, slice_get}
use Rattle.std.proofs.lemmas.Result.{on_ok_weaker}
use Rattle.c_syntax.specs.Types.{object_tree}
use Rattle.mem_cell_domain.proofs.Items.{on-ok}
use Rattle.mem_cell_domain.proofs.states.CellStatesMemDomain.input.Goals as goal

pub input-requires : goal.input-requires
input-requires g c = ap (λ ts. slice_get ts c.args.temp) c.requires.1.1 ∙ c.requires.2.typed.1

pub returns : goal.returns
returns g c = record {
  is_for = λ q f. (f.0, c.input.ensures.types ∙ f.1);
  stands = on_ok_weaker c.input.result (λ law s t st step. law (map object_tree c.args.self.now.objects) s t st step) c.input.ensures.stands;
  sharp = λ s no. absurd no;
  plain = on-ok c.input.result (λ p q no step. absurd no);
}
