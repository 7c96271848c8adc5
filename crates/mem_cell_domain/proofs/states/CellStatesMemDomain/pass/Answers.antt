use Rattle.std.proofs.Common.{◌≡◌, ◌∙◌, ◌∷◌, [], ap, map, subst}
use Rattle.std.specs.Prelude.{IfOk, IsTrue}
use Rattle.c_values.specs.Looks.{Passes, judge}
use Rattle.num_api.specs.Lives.{is_live}
use Rattle.csharp.specs.Trees.{cscheck_tree}
use Rattle.csharp.specs.States.{State, look_of}
use Rattle.mem_cell_exprs.specs.Known.{StandsFor}
use Rattle.std.proofs.lemmas.Result.{IfOk-weaker}
use Rattle.c_syntax.specs.Types.{object_tree}
use Rattle.mem_cell_domain.proofs.Items.{if-ok}
use Rattle.mem_cell_domain.proofs.states.CellStatesMemDomain.pass.Goals as goal

pub returns : goal.returns
returns g c =
    let m = c.args.self.now in
    let os = map object_tree m.objects in
    let admits = g.D.Oracle.admits in
    let check = cscheck_tree c.args.check.now in
    let law = subst (λ ys. IfOk c.pass.result (λ live. (s : State) → StandsFor admits ys m.known s → judge ys (look_of check s ∷ []) ≡ Passes
    → IsTrue (is_live live) × StandsFor admits ys c.pass.new.known s)) (ap (map object_tree) c.as_slice.ensures) c.pass.ensures.stands in
    record {
      is_for = λ q f. (f.0, c.pass.ensures.shape.types ∙ f.1);
      stands = IfOk-weaker c.pass.result _ _ (λ live h q s f st passes. h s st (ap (λ ys. judge ys (look_of check s ∷ [])) f.0 ∙ passes)) law;
      sharp = if-ok c.pass.result _ (λ live q s f no passes. absurd no);
      dead = if-ok c.pass.result _ (λ live q s k x f no fails. absurd no);
      plain = if-ok c.pass.result _ (λ live q p r f no step. absurd no);
    }
