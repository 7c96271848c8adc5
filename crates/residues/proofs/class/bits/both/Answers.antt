use Rattle.std.proofs.Common.{FitsSigned}
use Rattle.std.proofs.lemmas.Int.{to_z-of_z}
use mir.Syntax.{w128}
use Rattle.residues.specs.Class.{residue_of}
use Rattle.residues.proofs.LowBits.{power_low, power_high, zero_left, zero_right}
use Rattle.std.proofs.Common.{◌≡◌, ℤ, ◌≤ℤ◌, ◌<ℤ◌, to_z, of_z, true, false, refl, arith}
use Rattle.std.specs.Int.Signed.{lt_z, le_z}
use Rattle.std.proofs.lemmas.Int.{ints}
use Rattle.num_api.specs.declared.expr.NOp.TheVariants.{And}
use Rattle.num_api.specs.Value.{bits_of_both}
use Rattle.residues.proofs.ClassBounds.{and_left, and_right, and_known, low_bounds}
use Rattle.residues.proofs.class.bits.both.Goals.{else-first-step-via-then-first-step+else-first-second, else-first-step-via-else-first-step}
use Rattle.residues.proofs.class.bits.both.Goals as goal

less : (n m : ℤ) → FitsSigned w128 n → FitsSigned w128 m → lt_z (to_z w128 (of_z w128 n)) (to_z w128 (of_z w128 m)) ≡ true → n <ℤ m
less n m f g h = let e : lt_z n m ≡ true = rw (to_z-of_z w128 n f, to_z-of_z w128 m g) at h in omega (arith, ints)

not_less : (n m : ℤ) → FitsSigned w128 n → FitsSigned w128 m → lt_z (to_z w128 (of_z w128 n)) (to_z w128 (of_z w128 m)) ≡ false → m ≤ℤ n
not_less n m f g h = let e : lt_z n m ≡ false = rw (to_z-of_z w128 n f, to_z-of_z w128 m g) at h in omega (arith, ints)

at_most : (n m : ℤ) → FitsSigned w128 n → FitsSigned w128 m → le_z (to_z w128 (of_z w128 n)) (to_z w128 (of_z w128 m)) ≡ true → n ≤ℤ m
at_most n m f g h = let e : le_z n m ≡ true = rw (to_z-of_z w128 n f, to_z-of_z w128 m g) at h in omega (arith, ints)

above : (n m : ℤ) → FitsSigned w128 n → FitsSigned w128 m → le_z (to_z w128 (of_z w128 n)) (to_z w128 (of_z w128 m)) ≡ false → m ≤ℤ n
above n m f g h = let e : le_z n m ≡ false = rw (to_z-of_z w128 n f, to_z-of_z w128 m g) at h in omega (arith, ints)

pub of-requires-clause-low : goal.of-requires-clause-low
of-requires-clause-low c =
    let f : FitsSigned w128 c.common_factor-first.result = record { sfits = c.common_factor-first.type_inv } in
    rw (to_z-of_z w128 c.common_factor-first.result f) (power_low (residue_of c.args.a).rem (residue_of c.args.a).modulus c.common_factor-first.result c.common_factor-first.ensures.power)

pub of-requires-clause-high : goal.of-requires-clause-high
of-requires-clause-high c =
    let f : FitsSigned w128 c.common_factor-first.result = record { sfits = c.common_factor-first.type_inv } in
    rw (to_z-of_z w128 c.common_factor-first.result f) (power_high (residue_of c.args.a).rem (residue_of c.args.a).modulus c.common_factor-first.result c.common_factor-first.ensures.power)

pub of-requires-then-second-step-clause-low : goal.of-requires-then-second-step-clause-low
of-requires-then-second-step-clause-low c =
    let f : FitsSigned w128 c.common_factor-second.result = record { sfits = c.common_factor-second.type_inv } in
    rw (to_z-of_z w128 c.common_factor-second.result f) (power_low (residue_of c.args.b).rem (residue_of c.args.b).modulus c.common_factor-second.result c.common_factor-second.ensures.power)

pub of-requires-then-second-step-clause-high : goal.of-requires-then-second-step-clause-high
of-requires-then-second-step-clause-high c =
    let f : FitsSigned w128 c.common_factor-second.result = record { sfits = c.common_factor-second.type_inv } in
    rw (to_z-of_z w128 c.common_factor-second.result f) (power_high (residue_of c.args.b).rem (residue_of c.args.b).modulus c.common_factor-second.result c.common_factor-second.ensures.power)

pub returns-then-first-second-clause-holds : goal.returns-then-first-second-clause-holds
returns-then-first-second-clause-holds c = λ x y n h k e.
    let f : FitsSigned w128 c.common_factor-first.result = record { sfits = c.common_factor-first.type_inv } in
    zero_left (residue_of c.args.a) (residue_of c.of.result) c.common_factor-first.result x y n c.common_factor-first.ensures.power (rw (to_z-of_z w128 c.common_factor-first.result f) at c.of.ensures) h e

pub returns-then-second-step-clause-holds : goal.returns-then-second-step-clause-holds
returns-then-second-step-clause-holds c = λ x y n h k e.
    let f : FitsSigned w128 c.common_factor-second.result = record { sfits = c.common_factor-second.type_inv } in
    zero_right (residue_of c.args.b) (residue_of c.of-then-second-step.result) c.common_factor-second.result x y n c.common_factor-second.ensures.power (rw (to_z-of_z w128 c.common_factor-second.result f) at c.of-then-second-step.ensures) k e

pub returns-then-first-second-clause-bounds : goal.returns-then-first-second-clause-bounds
returns-then-first-second-clause-bounds c =
    let a = residue_of c.args.a in
    let b = residue_of c.args.b in
    let first = c.common_factor-first.result in
    let second = c.common_factor-second.result in
    let step = c.args.step in
    let f : FitsSigned w128 first = record { sfits = c.common_factor-first.type_inv } in
    let g : FitsSigned w128 second = record { sfits = c.common_factor-second.type_inv } in
    and_left a b (residue_of c.of.result) first second step c.common_factor-first.ensures.power c.common_factor-second.ensures.power c.requires.power c.common_factor-first.ensures.greatest c.common_factor-second.ensures.greatest c.requires.greatest
    (less step first c.ranges.step f c.if-first-step.true) (at_most second first g f c.if-first-second.true) (rw (to_z-of_z w128 first f) at c.of.ensures)

pub returns-then-second-step-clause-bounds : goal.returns-then-second-step-clause-bounds
returns-then-second-step-clause-bounds c =
    let a = residue_of c.args.a in
    let b = residue_of c.args.b in
    let first = c.common_factor-first.result in
    let second = c.common_factor-second.result in
    let step = c.args.step in
    let f : FitsSigned w128 first = record { sfits = c.common_factor-first.type_inv } in
    let g : FitsSigned w128 second = record { sfits = c.common_factor-second.type_inv } in
    let more = less step second c.ranges.step g c.if-second-step.true in
    let most : first ≤ℤ second = elim c.else-first-step.branch [
      | else-first-step-via-then-first-step+else-first-second w ↦ above second first g f w.if-first-second.false
      | else-first-step-via-else-first-step w ↦ let less_first = not_less step first c.ranges.step f w.if-first-step.false in omega (arith, ints)
    ] in
    and_right a b (residue_of c.of-then-second-step.result) first second step c.common_factor-first.ensures.power c.common_factor-second.ensures.power c.requires.power c.common_factor-first.ensures.greatest c.common_factor-second.ensures.greatest c.requires.greatest more most (rw (to_z-of_z w128 second g) at c.of-then-second-step.ensures)

pub returns-else-second-step-clause-bounds : goal.returns-else-second-step-clause-bounds
returns-else-second-step-clause-bounds c =
    let a = residue_of c.args.a in
    let b = residue_of c.args.b in
    let first = c.common_factor-first.result in
    let second = c.common_factor-second.result in
    let step = c.args.step in
    let f : FitsSigned w128 first = record { sfits = c.common_factor-first.type_inv } in
    let g : FitsSigned w128 second = record { sfits = c.common_factor-second.type_inv } in
    let lesser = not_less step second c.ranges.step g c.if-second-step.false in
    let most : first ≤ℤ step = elim c.else-first-step.branch [
      | else-first-step-via-then-first-step+else-first-second w ↦ let over = above second first g f w.if-first-second.false in omega (arith, ints)
      | else-first-step-via-else-first-step w ↦ not_less step first c.ranges.step f w.if-first-step.false
    ] in
    let known = rw (to_z-of_z w128 step c.ranges.step) at c.known_bits.ensures.bounds in
    and_known a b (residue_of c.known_bits.result) first second step (bits_of_both a.rem b.rem) c.common_factor-first.ensures.power c.common_factor-second.ensures.power c.requires.power c.common_factor-first.ensures.greatest c.common_factor-second.ensures.greatest most lesser refl
    (λ j d. known tt j (bits_of_both a.rem b.rem) d refl)
    (low_bounds And a b (residue_of c.known_bits.result) step c.requires.greatest (λ j n d e. known tt j n d e))

pub returns-else-second-step-clause-holds : goal.returns-else-second-step-clause-holds
returns-else-second-step-clause-holds c = λ x y n h k e. c.known_bits.ensures.holds x y n tt h k e
