use Rattle.ramp_constants.proofs.StepLists.{rising_once, same_once}
use Rattle.ramp_constants.proofs.list.StepList.of_numbers.Goals as goal

pub returns-clause-rising : goal.returns-clause-rising
returns-clause-rising c = rising_once c.sort.new.self.items c.dedup.new.self.items c.in_ok-sort.ensures.sorted c.dedup.ensures.filtered

pub returns-clause-same : goal.returns-clause-same
returns-clause-same c =
    same_once c.args.numbers.items c.sort.new.self.items c.dedup.new.self.items c.sort.ensures.permutation c.dedup.ensures.filtered
