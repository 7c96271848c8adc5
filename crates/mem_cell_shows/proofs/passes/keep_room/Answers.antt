use Rattle.std.proofs.Common.{◌∙◌, ap, map, subst, sym}
use Rattle.std.proofs.lemmas.Result.{IfOk-weaker}
use Rattle.csharp.specs.Trees.{csexpr_tree}
use Rattle.mem_cell_shows.specs.Insides.{HasRoom}
use Rattle.mem_cell_shows.proofs.Keeping.{all-kept}
use Rattle.mem_cell_shows.proofs.Looks.{first-same}
use Rattle.mem_cell_shows.proofs.passes.keep_room.Goals as goal

pub returns-in-Some-clause-stands : goal.returns-in-Some-clause-stands
returns-in-Some-clause-stands g c =
    let e = csexpr_tree c.in-Some.e.now in
    IfOk-weaker c.keep_inside.result _ _
    (λ live stands objects s st h. stands objects s st
    (h.0, subst (λ x. HasRoom x c.args.count objects s) (sym (first-same e h.1.0 (sym (ap (map csexpr_tree) c.in-Some.ensures) ∙ h.1.1))) h.1.2)) c.keep_inside.ensures.stands

pub returns-in-None-clause-stands : goal.returns-in-None-clause-stands
returns-in-None-clause-stands g c = λ objects s st h. all-kept g.D.Oracle.admits objects c.args.known.now s st
