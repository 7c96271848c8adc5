use Rattle.std.proofs.Common.{◌++◌, ap, ◌∙◌}
use Rattle.walk_owes.proofs.Admits.{gains_append}
use Rattle.walk_owes.proofs.Lists.{listed_front, listed_back}
use Rattle.walk_alarms.proofs.alarms.add_alarms.Goals as goal

pub returns-clause-old : goal.returns-clause-old
returns-clause-old c = λ q calls at k x m h. rw c.in_ok-append.ensures.items (listed_front q c.args.out.now.items c.args.found.items calls at k x m h)

pub returns-clause-new : goal.returns-clause-new
returns-clause-new c = λ q calls at k x m h. rw c.in_ok-append.ensures.items (listed_back q c.args.out.now.items c.args.found.items calls at k x m h)

pub returns-clause-gains : goal.returns-clause-gains
returns-clause-gains c = λ q a h. rw c.in_ok-append.ensures.items (gains_append q a c.args.out.now.items c.args.found.items h)

pub returns-clause-alone : goal.returns-clause-alone
returns-clause-alone c = λ e. c.in_ok-append.ensures.items ∙ ap (λ l. l ++ c.args.found.items) e
