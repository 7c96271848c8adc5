use Rattle.std.proofs.Common.{◌≡◌, ℤ, ◌<ℤ◌, ◌≤ℤ◌, to_z, of_z, arith, rules, FitsSigned, true, false, subst}
use Rattle.std.specs.Int.Signed.{lt_z}
use Rattle.std.proofs.lemmas.Int.{ints, to_z-of_z}
use mir.Syntax.{w128}
use Rattle.intervals.proofs.Remainders.{rem_between}
use Rattle.intervals.proofs.RemBounds.{not_smaller, zero_not_greater}
use Rattle.intervals.proofs.ShiftBounds.{low_admitted, high_admitted}
use Rattle.intervals.proofs.operators.is_smaller.Goals as goal

less : (n m : ℤ) → FitsSigned w128 n → FitsSigned w128 m → lt_z (to_z w128 (of_z w128 n)) (to_z w128 (of_z w128 m)) ≡ true → n <ℤ m
less n m f g h =
    let e : lt_z n m ≡ true = subst (λ (z : ℤ). lt_z n z ≡ true) (to_z-of_z w128 m g) (subst (λ (z : ℤ). lt_z z (to_z w128 (of_z w128 m)) ≡ true) (to_z-of_z w128 n f) h) in
    omega (arith, ints)

pub returns-then-size-minus_size-clause-same : goal.returns-then-size-minus_size-clause-same
returns-then-size-minus_size-clause-same c = λ t.
    let it = c.in-Fin-Fin-Some in
    let lo : FitsSigned w128 it.lo = search rules in
    let hi : FitsSigned w128 it.hi = search rules in
    let size : FitsSigned w128 it.size = search rules in
    let u : FitsSigned w128 c.minus_size.result = record { sfits = c.minus_size.type_inv } in
    let v : FitsSigned w128 c.minus_size-then-size-minus_size.result = record { sfits = c.minus_size-then-size-minus_size.type_inv } in
    rem_between c.args.a.now c.args.b.now it.lo it.hi it.size c.minus_size.result c.minus_size-then-size-minus_size.result it.is-0 it.is-1 it.ensures.far.0 it.ensures.far.1
    (rw (to_z-of_z w128 it.lo lo) at c.minus_size.ensures.low)
    (rw (to_z-of_z w128 it.hi hi) at c.minus_size-then-size-minus_size.ensures.high)
    (less it.size c.minus_size.result size u c.if-size-minus_size.true)
    (less it.size c.minus_size-then-size-minus_size.result size v t)

not_less : (n m : ℤ) → FitsSigned w128 n → FitsSigned w128 m → lt_z (to_z w128 (of_z w128 n)) (to_z w128 (of_z w128 m)) ≡ false → m ≤ℤ n
not_less n m f g h =
    let e : lt_z n m ≡ false = subst (λ (z : ℤ). lt_z n z ≡ false) (to_z-of_z w128 m g) (subst (λ (z : ℤ). lt_z z (to_z w128 (of_z w128 m)) ≡ false) (to_z-of_z w128 n f) h) in
    omega (arith, ints)

pub returns-then-size-minus_size-clause-other : goal.returns-then-size-minus_size-clause-other
returns-then-size-minus_size-clause-other c = λ t finite all.
    let it = c.in-Fin-Fin-Some in
    let hi : FitsSigned w128 it.hi = search rules in
    let size : FitsSigned w128 it.size = search rules in
    let v : FitsSigned w128 c.minus_size-then-size-minus_size.result = record { sfits = c.minus_size-then-size-minus_size.type_inv } in
    not_smaller c.args.a.now c.args.b.now it.hi it.size c.minus_size-then-size-minus_size.result (high_admitted c.args.a.now it.hi it.is-1) it.ensures.reached it.ensures.far.0
    (rw (to_z-of_z w128 it.hi hi) at c.minus_size-then-size-minus_size.ensures.reached)
    (not_less it.size c.minus_size-then-size-minus_size.result size v t) all

pub returns-else-size-minus_size-clause-other : goal.returns-else-size-minus_size-clause-other
returns-else-size-minus_size-clause-other c = λ t finite all.
    let it = c.in-Fin-Fin-Some in
    let lo : FitsSigned w128 it.lo = search rules in
    let size : FitsSigned w128 it.size = search rules in
    let u : FitsSigned w128 c.minus_size.result = record { sfits = c.minus_size.type_inv } in
    not_smaller c.args.a.now c.args.b.now it.lo it.size c.minus_size.result (low_admitted c.args.a.now it.lo it.is-0) it.ensures.reached it.ensures.far.0
    (rw (to_z-of_z w128 it.lo lo) at c.minus_size.ensures.reached)
    (not_less it.size c.minus_size.result size u c.if-size-minus_size.false) all

pub returns-in_default-clause-other : goal.returns-in_default-clause-other
returns-in_default-clause-other c = λ t finite all. zero_not_greater c.args.a.now c.args.b.now c.in_default.ensures.none all
