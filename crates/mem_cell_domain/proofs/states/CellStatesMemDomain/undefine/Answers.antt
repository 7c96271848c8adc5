use Rattle.std.proofs.Common.{◌∙◌, ◌≤◌, ap, arith, map}
use Rattle.c_objects.specs.Opening.{size_of}
use Rattle.std.proofs.lemmas.Result.{on_ok_weaker}
use Rattle.c_syntax.specs.Types.{object_tree}
use Rattle.mem_cell_domain.proofs.Items.{on-ok}
use Rattle.mem_cell_domain.proofs.states.CellStatesMemDomain.undefine.Goals as goal

pub returns : goal.returns
returns g c =
    let os = map object_tree c.args.self.now.objects in
    let size_is = c.size_at-size.ensures ∙ ap (λ l. size_of (map object_tree l) c.args.object) c.as_slice.ensures in
    let small : c.size_at-size.result ≤ size_of os c.args.object = omega (arith, size_is) in
    record {
      is_for = λ q f. (f.0, c.undefine.ensures.types ∙ f.1);
      stands = on_ok_weaker c.undefine.result (λ law s t st step. law os s t small st step) c.undefine.ensures.stands;
      sharp = on-ok c.undefine.result (λ s t no step. absurd no);
      plain = on-ok c.undefine.result (λ p q no step. absurd no);
    }
