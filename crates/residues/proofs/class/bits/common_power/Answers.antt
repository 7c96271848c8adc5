use Rattle.std.proofs.Common.{pos, ◌*ℤ◌, to_z, FitsSigned}
use Rattle.std.proofs.lemmas.Int.{to_z-of_z}
use mir.Syntax.{w128}
use Rattle.residues.proofs.LowBits.{power_one, step_fits, step_positive, next_power}
use Rattle.std.proofs.Common.{of_z, ap}
use Rattle.residues.specs.LowBits.{IsPowerDividing}
use Rattle.residues.proofs.LowBits.{next_fits}
use Rattle.residues.proofs.ClassBounds.{power_stops, last_power, first_leaves, second_leaves}
use Rattle.residues.proofs.class.bits.common_power.Goals.{then-remainder-ne0-via-then-remainder-ne0, then-remainder-ne0-via-else-remainder-ne0+then-remainder-ne0-2}
use Rattle.residues.proofs.class.bits.common_power.Goals as goal

pub loop-bits-init : goal.loop-bits-init
loop-bits-init c = power_one _ _

pub overflow_mul-next : goal.overflow_mul-next
overflow_mul-next c = step_fits c.loop-bits._bits _ _ (to_z w128 c.loop-bits.step-bits) c.loop-bits-test.true c.loop-bits.invariant

pub remainder-requires : goal.remainder-requires
remainder-requires c =
    let s = to_z w128 c.loop-bits.step-bits in
    let f = step_fits c.loop-bits._bits _ _ s c.loop-bits-test.true c.loop-bits.invariant in
    rw (to_z-of_z w128 (s *ℤ pos 2) f) (step_positive c.loop-bits._bits _ _ s c.loop-bits-test.true c.loop-bits.invariant)

pub loop-bits-preserved : goal.loop-bits-preserved
loop-bits-preserved c =
    let s = to_z w128 c.loop-bits.step-bits in
    let f = step_fits c.loop-bits._bits _ _ s c.loop-bits-test.true c.loop-bits.invariant in
    let p : FitsSigned w128 c.remainder.result = record { sfits = c.remainder.type_inv } in
    let q : FitsSigned w128 c.remainder-else-remainder-ne0.result = record { sfits = c.remainder-else-remainder-ne0.type_inv } in
    rw (to_z-of_z w128 (s *ℤ pos 2) f)
    (next_power c.loop-bits._bits _ _ s c.remainder.result c.remainder-else-remainder-ne0.result c.loop-bits-test.true c.loop-bits.invariant p q c.if-remainder-ne0.false c.if-remainder-ne0-2.false
    (rw (to_z-of_z w128 (s *ℤ pos 2) f) at c.remainder.ensures.same) (rw (to_z-of_z w128 (s *ℤ pos 2) f) at c.remainder-else-remainder-ne0.ensures.same))

pub returns-then-remainder-ne0-clause-greatest : goal.returns-then-remainder-ne0-clause-greatest
returns-then-remainder-ne0-clause-greatest c =
    let m = c.args.m in
    let n = c.args.n in
    let k = c.loop-bits._bits in
    let s = to_z w128 c.loop-bits.step-bits in
    let d : IsPowerDividing k m n s = rw (to_z-of_z w128 m c.ranges.m, to_z-of_z w128 n c.ranges.n) at c.loop-bits.invariant in
    let f = step_fits k m n s c.loop-bits-test.true d in
    let one = step_positive k m n s c.loop-bits-test.true d in
    power_stops k m n s (s *ℤ pos 2) d (next_fits k s c.loop-bits-test.true d.is)
    (elim c.then-remainder-ne0.branch [
      | then-remainder-ne0-via-then-remainder-ne0 w ↦
          first_leaves m n c.remainder.result (s *ℤ pos 2) one (rw (to_z-of_z w128 m c.ranges.m, to_z-of_z w128 (s *ℤ pos 2) f) at c.remainder.ensures.value) (λ e. w.if-remainder-ne0.true (ap (of_z w128) e))
      | then-remainder-ne0-via-else-remainder-ne0+then-remainder-ne0-2 w ↦
          second_leaves m n w.remainder-else-remainder-ne0.result (s *ℤ pos 2) one (rw (to_z-of_z w128 n c.ranges.n, to_z-of_z w128 (s *ℤ pos 2) f) at w.remainder-else-remainder-ne0.ensures.value) (λ e. w.if-remainder-ne0-2.true (ap (of_z w128) e))
    ])

pub returns-clause-greatest : goal.returns-clause-greatest
returns-clause-greatest c =
    last_power c.loop-bits._bits c.args.m c.args.n (to_z w128 c.loop-bits.step-bits) c.loop-bits-test.false
    (rw (to_z-of_z w128 c.args.m c.ranges.m, to_z-of_z w128 c.args.n c.ranges.n) at c.loop-bits.invariant)
