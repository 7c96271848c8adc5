use Rattle.machine_nums.specs.MExprs.{mexpr_tree}
use Rattle.mem_cell_shows.proofs.Truthful.{number-truths}
use Rattle.mem_cell_shows.proofs.truths.of_number.Goals as goal

pub returns : goal.returns
returns g c = λ e number.
    number-truths g.D.Oracle.admits c.args.known.now e (mexpr_tree c.args.m.now) (record { yes = c.in_ok-yes.yes; no = c.in_ok-no.no }) number c.in_ok-yes.ensures c.in_ok-no.ensures
