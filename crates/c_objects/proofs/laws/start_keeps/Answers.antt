use Rattle.c_objects.proofs.Starting.{start_fits, start_placed, start_keeps_objects, start_is_kept}
use Rattle.c_objects.proofs.laws.start_keeps.Goals as goal

pub returns-clause-fits : goal.returns-clause-fits
returns-clause-fits c = λ program w. start_fits program w

pub returns-clause-placed : goal.returns-clause-placed
returns-clause-placed c = λ program w h x s. start_placed program w h x s

pub returns-clause-kept : goal.returns-clause-kept
returns-clause-kept c = λ program w h. start_keeps_objects program w h

pub returns-clause-whole : goal.returns-clause-whole
returns-clause-whole c = λ program w h b. start_is_kept program w h b
