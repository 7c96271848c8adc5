use Rattle.std.proofs.Common.{ℤ, ◌≤ℤ◌, FitsSigned, map, rules, subst, sym}
use Rattle.std.specs.Int.{w128}
use Rattle.std.proofs.lemmas.Int.{to_z-of_z}
use Rattle.std.proofs.lemmas.Result.{IfOk-weaker}
use Rattle.csharp.specs.Trees.{csexpr_tree}
use Rattle.mem_cell_shows.proofs.Keeping.{all-kept}
use Rattle.mem_cell_shows.proofs.Passing.{access-room, amount-of, bounds-room, dead-spared, null-spared, result-lies, true-of}
use Rattle.mem_cell_shows.proofs.passes.keep_passing.Goals as goal

pub returns-in-DivideByZero-clause-stands : goal.returns-in-DivideByZero-clause-stands
returns-in-DivideByZero-clause-stands g c = let check = c.args.check.now in let es = map csexpr_tree c.args.operands.now in
    IfOk-weaker c.keep_true.result _ _
    (λ live stands objects s st h. stands objects s st (true-of objects check c.args._ty es s check.kind c.in-DivideByZero.is h.1)) c.keep_true.ensures.stands

pub returns-in-NullUse-clause-stands : goal.returns-in-NullUse-clause-stands
returns-in-NullUse-clause-stands g c = let check = c.args.check.now in let es = map csexpr_tree c.args.operands.now in
    IfOk-weaker c.keep_all_without.result _ _
    (λ live stands objects s st h. stands objects s st (null-spared s objects check c.args._ty es check.kind c.in-NullUse.is h.1)) c.keep_all_without.ensures.stands

pub returns-in-Dangling-clause-stands : goal.returns-in-Dangling-clause-stands
returns-in-Dangling-clause-stands g c = let check = c.args.check.now in let es = map csexpr_tree c.args.operands.now in
    IfOk-weaker c.keep_all_without-in-Dangling.result _ _
    (λ live stands objects s st h. stands objects s st (dead-spared s objects check c.args._ty es check.kind c.in-Dangling.is h.1)) c.keep_all_without-in-Dangling.ensures.stands

pub returns-in-ShiftAmount-clause-stands : goal.returns-in-ShiftAmount-clause-stands
returns-in-ShiftAmount-clause-stands g c = let check = c.args.check.now in let es = map csexpr_tree c.args.operands.now in
    let fits_lo : FitsSigned w128 check.lo = search rules in
    let fits_hi : FitsSigned w128 check.hi = search rules in
    IfOk-weaker c.keep_amount.result _ _
    (λ live stands objects s st h.
    let r = amount-of objects check c.args._ty es s check.kind c.in-ShiftAmount.is h.1 in
    let low = subst (λ (x : ℤ). x ≤ℤ r.2.1) (sym (to_z-of_z w128 check.lo fits_lo)) r.2.3 in
    let high = subst (λ (x : ℤ). r.2.1 ≤ℤ x) (sym (to_z-of_z w128 check.hi fits_hi)) r.2.4 in
    stands objects s st (r.0, r.1, (r.2.0, r.2.1, r.2.2, low, high)))
    c.keep_amount.ensures.stands

pub returns-in-Overflow-clause-stands : goal.returns-in-Overflow-clause-stands
returns-in-Overflow-clause-stands g c =
    let check = c.args.check.now in let es = map csexpr_tree c.args.operands.now in
    let fits_lo : FitsSigned w128 check.lo = search rules in
    let fits_hi : FitsSigned w128 check.hi = search rules in
    IfOk-weaker c.keep_result.result _ _
    (λ live stands objects s st h.
    let r = result-lies objects check c.args._ty es s check.kind c.in-Overflow.is h.1 in
    let low = subst (λ (x : ℤ). x ≤ℤ r.2.0) (sym (to_z-of_z w128 check.lo fits_lo)) r.2.2 in
    let high = subst (λ (x : ℤ). r.2.0 ≤ℤ x) (sym (to_z-of_z w128 check.hi fits_hi)) r.2.3 in
    stands objects s st (r.0, r.1, (r.2.0, r.2.1, low, high))) c.keep_result.ensures.stands

pub returns-in-Indeterminate-clause-stands : goal.returns-in-Indeterminate-clause-stands
returns-in-Indeterminate-clause-stands g c = λ objects s st h. all-kept g.D.Oracle.admits objects c.args.known.now s st

pub returns-in-Bounds-clause-stands : goal.returns-in-Bounds-clause-stands
returns-in-Bounds-clause-stands g c =
    let check = c.args.check.now in let es = map csexpr_tree c.args.operands.now in
    IfOk-weaker c.keep_room.result _ _
    (λ live stands objects s st h. stands objects s st (h.0, bounds-room objects check c.args._ty es s check.kind c.in-Bounds.is h.1)) c.keep_room.ensures.stands

pub returns-in-Access-clause-stands : goal.returns-in-Access-clause-stands
returns-in-Access-clause-stands g c =
    let check = c.args.check.now in let es = map csexpr_tree c.args.operands.now in
    IfOk-weaker c.keep_room-in-Access.result _ _
    (λ live stands objects s st h. stands objects s st (h.0, access-room objects check c.args._ty es s check.kind c.in-Access.is h.1)) c.keep_room-in-Access.ensures.stands
