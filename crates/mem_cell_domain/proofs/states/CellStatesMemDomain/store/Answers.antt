use Rattle.std.proofs.Common.{◌∙◌, map}
use Rattle.csharp.specs.Trees.{csexpr_tree}
use Rattle.mem_cell_domain.proofs.Typed.{store-typed}
use Rattle.std.proofs.lemmas.Result.{on_ok_weaker}
use Rattle.c_syntax.specs.Types.{object_tree}
use Rattle.mem_cell_domain.proofs.Items.{on-ok}
use Rattle.mem_cell_domain.proofs.states.CellStatesMemDomain.store.Goals as goal

pub returns : goal.returns
returns g c =
    let m = c.args.self.now in
    let os = map object_tree m.objects in
    record {
      is_for = λ q f. (f.0, c.store.ensures.types ∙ f.1);
      stands = on_ok_weaker c.store.result (λ law s t st step. law os s t st
          (store-typed g.D.Oracle.admits os m.known c.requires.0 c.values_are_typed.ensures c.requires.1.0 c.requires.1.1 c.args.ty (csexpr_tree c.args.address.now)
          (csexpr_tree c.args.value.now) c.requires.2.typed s st) step) c.store.ensures.stands;
      sharp = on-ok c.store.result (λ s t no step. absurd no);
      plain = on-ok c.store.result (λ q p r f no step. absurd no);
    }
