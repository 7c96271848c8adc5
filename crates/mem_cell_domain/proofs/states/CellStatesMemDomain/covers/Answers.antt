use Rattle.std.proofs.Common.{◌∙◌, map, subst, sym}
use Rattle.std.proofs.lemmas.Result.{IfOk-weaker}
use Rattle.c_syntax.specs.Types.{object_tree}
use Rattle.mem_cell_exprs.specs.Known.{StandsFor}
use Rattle.mem_cell_domain.proofs.states.CellStatesMemDomain.covers.Goals as goal

pub returns : goal.returns
returns g c =
    let m = c.args.self.now in let o = c.args.other.now in
    IfOk-weaker c.covers.result _ _ (λ covered law yes s st. law yes (map object_tree m.objects) s (c.requires.2.1 ∙ sym c.requires.1.1)
    (subst (λ ys. StandsFor g.D.Oracle.admits ys o.known s) (c.requires.2.0 ∙ sym c.requires.1.0) st)) c.covers.ensures
