use Rattle.mem_cell_shows.proofs.Keeping.{all-kept}
use Rattle.mem_cell_shows.proofs.compares.keep_relation.Goals as goal

pub returns-in-Same-clause-stands : goal.returns-in-Same-clause-stands
returns-in-Same-clause-stands g c = rw c.in-Same.is c.keep_same.ensures.stands

pub returns-in-Apart-clause-stands : goal.returns-in-Apart-clause-stands
returns-in-Apart-clause-stands g c = rw c.in-Apart.is c.keep_apart.ensures.stands

pub returns-in-Ordered-clause-stands : goal.returns-in-Ordered-clause-stands
returns-in-Ordered-clause-stands g c = λ objects s st h. all-kept g.D.Oracle.admits objects c.args.known.now s st
