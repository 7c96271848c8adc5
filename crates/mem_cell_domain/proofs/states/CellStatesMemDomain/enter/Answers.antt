use Rattle.std.proofs.Common.{◌<◌, ◌∙◌, ap, length, map, subst, sym}
use Rattle.std.specs.Prelude.{All, IsTrue, OnOk}
use Rattle.csharp.specs.States.{State}
use Rattle.csharp.specs.Actions as acts
use Rattle.mem_cell_exprs.specs.Known.{StandsFor}
use Rattle.std.proofs.lemmas.Result.{on_ok_weaker}
use Rattle.c_syntax.specs.Types.{object_tree}
use Rattle.mem_cell_domain.proofs.Items.{on-ok}
use Rattle.mem_cell_domain.proofs.states.CellStatesMemDomain.enter.Goals as goal

pub returns : goal.returns
returns g c =
    let m = c.args.self.now in
    let os = map object_tree m.objects in
    let xs = c.args.names.now in
    let admits = g.D.Oracle.admits in
    let law = subst (λ ys. OnOk c.enter.result ((s : State) → All (λ x. x < length ys) xs → IsTrue (acts.are_free xs s) → StandsFor admits ys m.known s
    → StandsFor admits ys c.enter.new.known (acts.enter ys xs s))) (ap (map object_tree) c.as_slice.ensures) c.enter.ensures.stands in
    record {
      is_for = λ q f. (f.0, c.enter.ensures.types ∙ f.1);
      stands = on_ok_weaker c.enter.result (λ h q s f free st. subst (λ ys. StandsFor admits os c.enter.new.known (acts.enter ys xs s)) f.0
          (h s (subst (λ ys. All (λ x. x < length ys) xs) (sym c.requires.1.0) c.requires.2.numbers.2) free st)) law;
      sharp = on-ok c.enter.result (λ q s f free no. absurd no);
      plain = on-ok c.enter.result (λ q p r f no step. absurd no);
    }
