use Rattle.std.proofs.Common.{FitsSigned, rules}
use Rattle.std.proofs.lemmas.Int.{to_z-of_z}
use mir.Syntax.{w128}
use Rattle.residues.specs.Class.{residue_of}
use Rattle.residues.proofs.LowBits.{power_low, power_high, known_holds}
use Rattle.std.proofs.Common.{pos, ◌^◌}
use Rattle.intervals.proofs.BitPoints.{value_fits}
use Rattle.residues.proofs.ClassBounds.{known_lies, power_one_up}
use Rattle.residues.proofs.class.bits.known_bits.Goals as goal

pub of-requires-clause-low : goal.of-requires-clause-low
of-requires-clause-low c = rw (to_z-of_z w128 c.args.step c.ranges.step) (power_low (residue_of c.args.a).modulus (residue_of c.args.b).modulus c.args.step c.requires)

pub of-requires-clause-high : goal.of-requires-clause-high
of-requires-clause-high c = rw (to_z-of_z w128 c.args.step c.ranges.step) (power_high (residue_of c.args.a).modulus (residue_of c.args.b).modulus c.args.step c.requires)

pub returns-clause-holds : goal.returns-clause-holds
returns-clause-holds c = λ x y n l h k e.
    let a = residue_of c.args.a in
    let b = residue_of c.args.b in
    let f : FitsSigned w128 a.rem = search rules in
    let g : FitsSigned w128 b.rem = search rules in
    known_holds c.args.op l a b (residue_of c.at_numbers.result) (residue_of c.of.result) (residue_of c.sum.result) c.args.step c.requires
    (rw (to_z-of_z w128 a.rem f, to_z-of_z w128 b.rem g) at c.at_numbers.ensures.holds)
    (rw (to_z-of_z w128 c.args.step c.ranges.step) at c.of.ensures) c.sum.ensures.step x y n h k e

pub returns-clause-bounds : goal.returns-clause-bounds
returns-clause-bounds c = λ l j n d e.
    let a = residue_of c.args.a in
    let b = residue_of c.args.b in
    let f : FitsSigned w128 a.rem = search rules in
    let g : FitsSigned w128 b.rem = search rules in
    known_lies (residue_of c.at_numbers.result) (residue_of c.of.result) (residue_of c.sum.result) n c.args.step (pos (2 ^ j))
    ((rw (to_z-of_z w128 a.rem f, to_z-of_z w128 b.rem g) at c.at_numbers.ensures.value) n e (value_fits c.args.op l a.rem b.rem n f g e))
    (rw (to_z-of_z w128 c.args.step c.ranges.step) at c.of.ensures) (power_one_up a.modulus b.modulus c.args.step c.requires) d c.sum.ensures.bounds
