use Rattle.mem_temps.proofs.ByKind.{shows_exact, shows_value, shows_truth, shows_end, shows_set}
use Rattle.mem_temps.proofs.checks.shown_one.Goals as goal

pub returns-in-Overflow : goal.returns-in-Overflow
returns-in-Overflow c = shows_exact c.args.value c.args.exact c.shown_number.result c.args.kind c.in-Overflow.is c.shown_number.ensures

pub returns-in-DivideByZero : goal.returns-in-DivideByZero
returns-in-DivideByZero c =
    shows_value c.args.value c.args.exact c.shown_number-in-DivideByZero.result c.args.kind c.in-DivideByZero.is c.shown_number-in-DivideByZero.ensures

pub returns-in-AssertFailed : goal.returns-in-AssertFailed
returns-in-AssertFailed c =
    shows_truth c.args.value c.args.exact c.shown_number-in-AssertFailed.result c.args.kind c.truth_range.result c.in-AssertFailed.is c.truth_range.ensures
    c.shown_number-in-AssertFailed.ensures

pub returns-in-NoValue : goal.returns-in-NoValue
returns-in-NoValue c = shows_end c.args.value c.args.exact c.shown_ends.result c.args.kind c.in-NoValue.is c.shown_ends.ensures

pub returns-in-NullUse : goal.returns-in-NullUse
returns-in-NullUse c = shows_set c.args.value c.args.exact c.shown_set.result c.shown_set.ensures c.args.kind c.in-NullUse.is
