use Rattle.alarm_lists.proofs.lists.in_order.Goals as goal

pub returns-clause-order : goal.returns-clause-order
returns-clause-order c =
    let made = c.in_ok-sorted.ensures.made in
    rw c.from_vec.ensures record { serves = made.serves; holds = made.holds; ordered = made.ordered c.requires.form }
