use Rattle.std.proofs.Common.{pos, sym, subst}
use Rattle.std.proofs.lemmas.Int.{to_z-of_z}
use mir.Syntax.{w128}
use Rattle.num_api.specs.Residues.{IsMultiple}
use Rattle.machine_nums.proofs.Alignments.{by_one, divides_eight, divides_four, divides_two, divides_one}
use Rattle.machine_nums.proofs.alignment.alignment.Goals as goal

pub returns-then-is_multiple-clause-divides : goal.returns-then-is_multiple-clause-divides
returns-then-is_multiple-clause-divides c = subst (IsMultiple (pos 8)) (to_z-of_z w128 c.args.n c.ranges.n) (c.is_multiple.ensures.yes c.if-is_multiple.true)

pub returns-then-is_multiple-clause-greatest : goal.returns-then-is_multiple-clause-greatest
returns-then-is_multiple-clause-greatest c = λ d one h. divides_eight d one

pub returns-then-is_multiple-2-clause-divides : goal.returns-then-is_multiple-2-clause-divides
returns-then-is_multiple-2-clause-divides c = subst (IsMultiple (pos 4)) (to_z-of_z w128 c.args.n c.ranges.n)
    (c.is_multiple-else-is_multiple.ensures.yes c.if-is_multiple-2.true)

pub returns-then-is_multiple-2-clause-greatest : goal.returns-then-is_multiple-2-clause-greatest
returns-then-is_multiple-2-clause-greatest c = λ d one h.
    divides_four d c.args.n one h (λ k. c.is_multiple.ensures.no c.if-is_multiple.false
    (subst (IsMultiple (pos 8)) (sym (to_z-of_z w128 c.args.n c.ranges.n)) k))

pub returns-then-is_multiple-3-clause-divides : goal.returns-then-is_multiple-3-clause-divides
returns-then-is_multiple-3-clause-divides c = subst (IsMultiple (pos 2)) (to_z-of_z w128 c.args.n c.ranges.n)
    (c.is_multiple-else-is_multiple-2.ensures.yes c.if-is_multiple-3.true)

pub returns-then-is_multiple-3-clause-greatest : goal.returns-then-is_multiple-3-clause-greatest
returns-then-is_multiple-3-clause-greatest c = λ d one h.
    divides_two d c.args.n one h (λ k. c.is_multiple-else-is_multiple.ensures.no c.if-is_multiple-2.false
    (subst (IsMultiple (pos 4)) (sym (to_z-of_z w128 c.args.n c.ranges.n)) k))

pub returns-else-is_multiple-3-clause-divides : goal.returns-else-is_multiple-3-clause-divides
returns-else-is_multiple-3-clause-divides c = by_one c.args.n

pub returns-else-is_multiple-3-clause-greatest : goal.returns-else-is_multiple-3-clause-greatest
returns-else-is_multiple-3-clause-greatest c = λ d one h.
    divides_one d c.args.n one h (λ k. c.is_multiple-else-is_multiple-2.ensures.no c.if-is_multiple-3.false
    (subst (IsMultiple (pos 2)) (sym (to_z-of_z w128 c.args.n c.ranges.n)) k))
