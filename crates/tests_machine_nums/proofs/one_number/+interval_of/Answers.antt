use Rattle.std.proofs.Common.{◌≡◌, Some, sym, subst, ap, ◌∙◌}
use Rattle.num_api.specs.Exprs.{NExprTree, nexpr_tree, Unary, Binary}
use Rattle.num_api.specs.Value.{value_of}
use Rattle.num_api.proofs.Trees.{nexpr_unary, nexpr_binary}
use Rattle.intervals.specs.Interval as intervals
use Rattle.tests_machine_nums.proofs.Parts.{one_part, two_parts}
use Rattle.tests_machine_nums.proofs.one_number.+interval_of.Goals as goal

pub returns-in-Unary : goal.returns-in-Unary
returns-in-Unary t c v n admitted is =
    let op = c.in-Unary.op in let part = nexpr_tree c.deref.result.now in
    let tree : Unary op part ≡ nexpr_tree c.args.e.now = sym (ap nexpr_tree c.in-Unary.is ∙ nexpr_unary op c.in-Unary.a ∙ ap (λ e. Unary op (nexpr_tree e)) (sym c.deref.ensures)) in
    one_part (intervals.Admits c.interval_of.result) (intervals.Admits c.unary.result) v op part n (λ x h. c.interval_of.ensures v x admitted h)
    c.unary.ensures.holds (subst (λ (e : NExprTree). value_of v e ≡ Some n) (sym tree) is)

pub returns-in-Binary : goal.returns-in-Binary
returns-in-Binary t c v n admitted is =
    let op = c.in-Binary.op in let left = nexpr_tree c.deref-in-Binary.result.now in let right = nexpr_tree c.deref-in-Binary-2.result.now in
    let tree : Binary op left right ≡ nexpr_tree c.args.e.now = sym (ap nexpr_tree c.in-Binary.is ∙ nexpr_binary op c.in-Binary.a c.in-Binary.b
    ∙ ap (λ e. Binary op (nexpr_tree e) (nexpr_tree c.in-Binary.b.value)) (sym c.deref-in-Binary.ensures) ∙ ap (λ e. Binary op left (nexpr_tree e)) (sym c.deref-in-Binary-2.ensures)) in
    two_parts (intervals.Admits c.interval_of-in-Binary.result) (intervals.Admits c.interval_of-in-Binary-2.result) (intervals.Admits c.binary.result) v op left right n
    (λ x h. c.interval_of-in-Binary.ensures v x admitted h) (λ y h. c.interval_of-in-Binary-2.ensures v y admitted h)
    c.binary.ensures.holds (subst (λ (e : NExprTree). value_of v e ≡ Some n) (sym tree) is)
