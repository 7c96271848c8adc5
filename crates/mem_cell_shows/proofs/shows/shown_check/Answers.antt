use Rattle.std.proofs.Common.{map, subst, sym, ◌∙◌, ap}
use Rattle.csharp.specs.Trees.{csexpr_tree}
use Rattle.mem_cell_shows.specs.Checks.{IsShown}
use Rattle.mem_cell_shows.specs.Ends.{number_shown}
use Rattle.mem_cell_shows.proofs.ByKind.{end-kind, marks-kind, numbers-kind, results-kind, set-kind, truth-kind}
use Rattle.mem_cell_shows.proofs.shows.shown_check.Goals as goal

pub returns-in_ok-results_shown-in-Overflow : goal.returns-in_ok-results_shown-in-Overflow
returns-in_ok-results_shown-in-Overflow g c =
    subst (IsShown g.D.Oracle.admits c.args.known.now c.args.count c.args.kind c.args.ty (map csexpr_tree c.args.operands.now)) (sym c.shown.ensures)
    (results-kind g.D.Oracle.admits c.args.known.now c.args.count c.args.ty (map csexpr_tree c.args.operands.now) c.args.kind c.in_ok-results_shown-in-Overflow.field-0 c.in-Overflow.is c.in_ok-results_shown-in-Overflow.ensures)

pub returns-in_ok-numbers_shown-in-DivideByZero : goal.returns-in_ok-numbers_shown-in-DivideByZero
returns-in_ok-numbers_shown-in-DivideByZero g c =
    subst (IsShown g.D.Oracle.admits c.args.known.now c.args.count c.args.kind c.args.ty (map csexpr_tree c.args.operands.now)) (sym c.shown-in-DivideByZero.ensures)
    (numbers-kind g.D.Oracle.admits c.args.known.now c.args.count c.args.ty (map csexpr_tree c.args.operands.now) c.args.kind c.in_ok-numbers_shown-in-DivideByZero.field-0 c.in-DivideByZero.is c.in_ok-numbers_shown-in-DivideByZero.ensures)

pub returns-in_ok-truths_shown-in-AssertFailed : goal.returns-in_ok-truths_shown-in-AssertFailed
returns-in_ok-truths_shown-in-AssertFailed g c =
    subst (IsShown g.D.Oracle.admits c.args.known.now c.args.count c.args.kind c.args.ty (map csexpr_tree c.args.operands.now))
    (sym (c.shown-in-AssertFailed.ensures ∙ ap number_shown c.numbers.ensures))
    (truth-kind g.D.Oracle.admits c.args.known.now c.args.count c.args.ty (map csexpr_tree c.args.operands.now) c.args.kind c.in_ok-truths_shown-in-AssertFailed.field-0 c.in-AssertFailed.is c.in_ok-truths_shown-in-AssertFailed.ensures)

pub returns-in_ok-truths_shown-in-NoValue : goal.returns-in_ok-truths_shown-in-NoValue
returns-in_ok-truths_shown-in-NoValue g c =
    subst (IsShown g.D.Oracle.admits c.args.known.now c.args.count c.args.kind c.args.ty (map csexpr_tree c.args.operands.now)) (sym c.ends.ensures)
    (end-kind g.D.Oracle.admits c.args.known.now c.args.count c.args.ty (map csexpr_tree c.args.operands.now) c.args.kind c.in_ok-truths_shown-in-NoValue.field-0 c.in-NoValue.is c.in_ok-truths_shown-in-NoValue.ensures)

pub returns-in_ok-marks_shown-in-Indeterminate : goal.returns-in_ok-marks_shown-in-Indeterminate
returns-in_ok-marks_shown-in-Indeterminate g c =
    subst (IsShown g.D.Oracle.admits c.args.known.now c.args.count c.args.kind c.args.ty (map csexpr_tree c.args.operands.now)) (sym c.shown-in-Indeterminate.ensures)
    (marks-kind g.D.Oracle.admits c.args.known.now c.args.count c.args.ty (map csexpr_tree c.args.operands.now) c.args.kind c.in_ok-marks_shown-in-Indeterminate.field-0 c.in-Indeterminate.is c.in_ok-marks_shown-in-Indeterminate.ensures)

pub returns-in_ok-set_shown-in-Bounds : goal.returns-in_ok-set_shown-in-Bounds
returns-in_ok-set_shown-in-Bounds g c = set-kind g.D.Oracle.admits c.args.known.now c.args.count c.args.ty (map csexpr_tree c.args.operands.now) c.args.kind c.in_ok-set_shown-in-Bounds.field-0 c.in-Bounds.is c.in_ok-set_shown-in-Bounds.ensures
