use Rattle.std.proofs.Common.{◌∙◌, ap, length, map, subst}
use Rattle.std.proofs.lemmas.Result.{IfOk-weaker}
use Rattle.c_syntax.specs.Admission.{IsInShown}
use Rattle.c_syntax.specs.Types.{object_tree}
use Rattle.mem_shown.specs.Decisions.{NamesObjects}
use Rattle.mem_cell_domain.proofs.Items.{if-ok, map-length}
use Rattle.mem_cell_domain.proofs.states.CellStatesMemDomain.show.Goals as goal

pub show-requires : goal.show-requires
show-requires g c = (c.requires.0, c.requires.2)

pub returns : goal.returns
returns g c =
    let m = c.args.self.now in
    let os = map object_tree m.objects in
    record {
      holds = IfOk-weaker c.show.result _ _ (λ w law q s x f st at. subst (λ ys. IsInShown ys x w) f.0 (law os s x st at)) c.show.ensures.holds;
      form = c.show.ensures.form;
      names = IfOk-weaker c.show.result _ _ (λ w law q f. subst (λ n. NamesObjects n w)
          (ap length c.as_slice.ensures ∙ map-length object_tree m.objects ∙ ap length f.0) law) c.show.ensures.names;
      proper = c.show.ensures.proper;
      sharp = if-ok c.show.result _ (λ w q s x f no at. absurd no);
      plain = if-ok c.show.result _ (λ w q p x f no suspect inside fails. absurd no);
      named = if-ok c.show.result _ (λ w q e o n no. cc);
      fixed = if-ok c.show.result _ (λ w q e f no. cc);
    }
