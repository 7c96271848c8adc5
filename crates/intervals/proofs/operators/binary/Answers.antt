use Rattle.std.proofs.Common.{◌+ℤ◌, ◌-ℤ◌, ◌*ℤ◌}
use Rattle.intervals.specs.Operations.{IsTests}
use Rattle.intervals.specs.Order.{may_equal, may_differ, may_be_less, may_be_at_most}
use Rattle.intervals.proofs.Carried.{IsTotal, carries_sum, carries_difference, carries_product}
use Rattle.intervals.proofs.Quotients.{IsQuotientOf, carries_quotient}
use Rattle.intervals.proofs.Comparisons.{carries_equal, carries_other, carries_less, carries_at_most}
use Rattle.intervals.proofs.operators.binary.Goals as goal

pub returns-in-Add-clause-carries : goal.returns-in-Add-clause-carries
returns-in-Add-clause-carries c =
    let result : IsTotal (λ x y. x +ℤ y) c.args.a.now c.args.b.now c.add.result = record { keeps = c.add.ensures.keeps; point = c.add.ensures.point; least = c.add.ensures.least } in
    rw c.in-Add.is (carries_sum c.args.a.now c.args.b.now c.add.result result)

pub returns-in-Sub-clause-carries : goal.returns-in-Sub-clause-carries
returns-in-Sub-clause-carries c =
    let result : IsTotal (λ x y. x -ℤ y) c.args.a.now c.args.b.now c.sub.result = record { keeps = c.sub.ensures.keeps; point = c.sub.ensures.point; least = c.sub.ensures.least } in
    rw c.in-Sub.is (carries_difference c.args.a.now c.args.b.now c.sub.result result)

pub returns-in-Mul-clause-carries : goal.returns-in-Mul-clause-carries
returns-in-Mul-clause-carries c =
    let result : IsTotal (λ x y. x *ℤ y) c.args.a.now c.args.b.now c.mul.result = record { keeps = c.mul.ensures.keeps; point = c.mul.ensures.point; least = c.mul.ensures.least } in
    rw c.in-Mul.is (carries_product c.args.a.now c.args.b.now c.mul.result result)

pub returns-in-Quot-clause-carries : goal.returns-in-Quot-clause-carries
returns-in-Quot-clause-carries c =
    let result : IsQuotientOf c.args.a.now c.args.b.now c.quot.result = record { keeps = c.quot.ensures.keeps; point = c.quot.ensures.point; least = c.quot.ensures.least } in
    rw c.in-Quot.is (carries_quotient c.args.a.now c.args.b.now c.quot.result result)

pub returns-in-Eq-clause-carries : goal.returns-in-Eq-clause-carries
returns-in-Eq-clause-carries c =
    let result : IsTests (may_equal c.args.a.now c.args.b.now) (may_differ c.args.a.now c.args.b.now) c.tests.result = rw (c.may_equal.ensures, c.may_differ.ensures) at c.tests.ensures in
    rw c.in-Eq.is (carries_equal c.args.a.now c.args.b.now c.tests.result result)

pub returns-in-Ne-clause-carries : goal.returns-in-Ne-clause-carries
returns-in-Ne-clause-carries c =
    let result : IsTests (may_differ c.args.a.now c.args.b.now) (may_equal c.args.a.now c.args.b.now) c.tests-in-Ne.result = rw (c.may_differ-in-Ne.ensures, c.may_equal-in-Ne.ensures) at c.tests-in-Ne.ensures in
    rw c.in-Ne.is (carries_other c.args.a.now c.args.b.now c.tests-in-Ne.result result)

pub returns-in-Lt-clause-carries : goal.returns-in-Lt-clause-carries
returns-in-Lt-clause-carries c =
    let result : IsTests (may_be_less c.args.a.now c.args.b.now) (may_be_at_most c.args.b.now c.args.a.now) c.tests-in-Lt.result = rw (c.may_be_less.ensures, c.may_be_at_most.ensures) at c.tests-in-Lt.ensures in
    rw c.in-Lt.is (carries_less c.args.a.now c.args.b.now c.tests-in-Lt.result result)

pub returns-in-Le-clause-carries : goal.returns-in-Le-clause-carries
returns-in-Le-clause-carries c =
    let result : IsTests (may_be_at_most c.args.a.now c.args.b.now) (may_be_less c.args.b.now c.args.a.now) c.tests-in-Le.result = rw (c.may_be_at_most-in-Le.ensures, c.may_be_less-in-Le.ensures) at c.tests-in-Le.ensures in
    rw c.in-Le.is (carries_at_most c.args.a.now c.args.b.now c.tests-in-Le.result result)
