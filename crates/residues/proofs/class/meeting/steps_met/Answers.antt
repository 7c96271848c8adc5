use Rattle.std.proofs.Common.{◌≡◌, ℤ, pos, ◌-ℤ◌, ◌≤ℤ◌, ◌<ℤ◌, arith, ◌∙◌, ap, subst, FitsSigned, of_z, rules}
use Rattle.std.proofs.lemmas.Int.{ints, to_z-of_z}
use mir.Syntax.{w128}
use Rattle.std.specs.Int.{int_rem_euclid}
use Rattle.num_api.specs.Residues.{InResidue, IsMultiple}
use Rattle.residues.specs.Class.{residue_of}
use Rattle.num_api.specs.Residues.{class_of}
use Rattle.residues.specs.Classes.{IsGreatestDivisor, SharesBy}
use Rattle.residues.proofs.Moves.{moved}
use Rattle.num_api.proofs.Multiples.{multiple_along, off_from_in, in_from_off}
use Rattle.num_api.proofs.Remainders.{rem_unique}
use Rattle.residues.proofs.Divisors.{divisor_positive}
use Rattle.residues.proofs.Crt.{shares_from, difference_fits}
use Rattle.residues.proofs.Crt.{some_number}
use Rattle.residues.proofs.class.meeting.steps_met.Goals as goal

pub returns-then-remainder-ne0-clause-none : goal.returns-then-remainder-ne0-clause-none
returns-then-remainder-ne0-clause-none c =
    let a = residue_of c.args.a in
    let b = residue_of c.args.b in
    let g = c.greatest_divisor-common.result in
    let fa : FitsSigned w128 a.rem = search rules in
    let fb : FitsSigned w128 b.rem = search rules in
    let fam : FitsSigned w128 a.modulus = search rules in
    let fbm : FitsSigned w128 b.modulus = search rules in
    let fg : FitsSigned w128 g = search rules in
    let d : IsGreatestDivisor a.modulus b.modulus g = simp to_z-of_z at c.greatest_divisor-common.ensures in
    let one : pos 1 ≤ℤ g = divisor_positive g a.modulus d.first c.requires.first d.not_negative in
    let fd : FitsSigned w128 (b.rem -ℤ a.rem) = difference_fits b.rem a.rem b.modulus a.modulus (c.args.b.proper.rem_low c.requires.second) (c.args.b.proper.rem_high c.requires.second) c.args.b.proper.bounded (c.args.a.proper.rem_low c.requires.first) (c.args.a.proper.rem_high c.requires.first) c.args.a.proper.bounded in
    let r = c.remainder.result in
    let fr : FitsSigned w128 r = search rules in
    let same : InResidue (class_of r g) (b.rem -ℤ a.rem) = simp to_z-of_z at c.remainder.ensures.same in
    let value : r ≡ int_rem_euclid (b.rem -ℤ a.rem) g = simp to_z-of_z at c.remainder.ensures.value in
    λ n h k.
    let off : InResidue (class_of (pos 0) g) (b.rem -ℤ a.rem) = in_from_off (pos 0) g (b.rem -ℤ a.rem) (multiple_along g (b.rem -ℤ a.rem) ((b.rem -ℤ a.rem) -ℤ pos 0) (less_zero (b.rem -ℤ a.rem)) (shares_from a b g n d h k)) in
    let zero : r ≡ pos 0 = value ∙ rem_unique (b.rem -ℤ a.rem) g (pos 0) one off (zero_low) (zero_high g one) in
    c.if-remainder-ne0.true (ap (of_z w128) zero)
  where
    less_zero : (x : ℤ) → x ≡ x -ℤ pos 0
    less_zero x = omega (arith, ints)

    zero_low : pos 0 ≤ℤ pos 0
    zero_low = omega (arith, ints)

    zero_high : (g : ℤ) → pos 1 ≤ℤ g → pos 0 <ℤ g
    zero_high g h = omega (arith, ints)

pub shared-requires : goal.shared-requires
shared-requires c =
    let a = residue_of c.args.a in
    let b = residue_of c.args.b in
    let g = c.greatest_divisor-common.result in
    let fa : FitsSigned w128 a.rem = search rules in
    let fb : FitsSigned w128 b.rem = search rules in
    let fam : FitsSigned w128 a.modulus = search rules in
    let fbm : FitsSigned w128 b.modulus = search rules in
    let fg : FitsSigned w128 g = search rules in
    let d : IsGreatestDivisor a.modulus b.modulus g = simp to_z-of_z at c.greatest_divisor-common.ensures in
    let one : pos 1 ≤ℤ g = divisor_positive g a.modulus d.first c.requires.first d.not_negative in
    let fd : FitsSigned w128 (b.rem -ℤ a.rem) = difference_fits b.rem a.rem b.modulus a.modulus (c.args.b.proper.rem_low c.requires.second) (c.args.b.proper.rem_high c.requires.second) c.args.b.proper.bounded (c.args.a.proper.rem_low c.requires.first) (c.args.a.proper.rem_high c.requires.first) c.args.a.proper.bounded in
    let r = c.remainder.result in
    let fr : FitsSigned w128 r = search rules in
    let same : InResidue (class_of r g) (b.rem -ℤ a.rem) = simp to_z-of_z at c.remainder.ensures.same in
    let zero : r ≡ pos 0 = omega (arith, ints) in
    let off : IsMultiple g ((b.rem -ℤ a.rem) -ℤ pos 0) = subst (λ (t : ℤ). IsMultiple g ((b.rem -ℤ a.rem) -ℤ t)) zero (off_from_in r g (b.rem -ℤ a.rem) same) in
    moved (λ (x : ℤ). SharesBy a b x) g fg (record { first = c.requires.first; second = c.requires.second; divisor = d; shares = multiple_along g _ _ (less_zero (b.rem -ℤ a.rem)) off })
  where
    less_zero : (x : ℤ) → x -ℤ pos 0 ≡ x
    less_zero x = omega (arith, ints)

pub returns-clause-common : goal.returns-clause-common
returns-clause-common c =
    let a = residue_of c.args.a in
    let b = residue_of c.args.b in
    let g = c.greatest_divisor-common.result in
    let fa : FitsSigned w128 a.rem = search rules in
    let fb : FitsSigned w128 b.rem = search rules in
    let fam : FitsSigned w128 a.modulus = search rules in
    let fbm : FitsSigned w128 b.modulus = search rules in
    let fg : FitsSigned w128 g = search rules in
    let d : IsGreatestDivisor a.modulus b.modulus g = simp to_z-of_z at c.greatest_divisor-common.ensures in
    let one : pos 1 ≤ℤ g = divisor_positive g a.modulus d.first c.requires.first d.not_negative in
    let fd : FitsSigned w128 (b.rem -ℤ a.rem) = difference_fits b.rem a.rem b.modulus a.modulus (c.args.b.proper.rem_low c.requires.second) (c.args.b.proper.rem_high c.requires.second) c.args.b.proper.bounded (c.args.a.proper.rem_low c.requires.first) (c.args.a.proper.rem_high c.requires.first) c.args.a.proper.bounded in
    let r = c.remainder.result in
    let fr : FitsSigned w128 r = search rules in
    let same : InResidue (class_of r g) (b.rem -ℤ a.rem) = simp to_z-of_z at c.remainder.ensures.same in
    let zero : r ≡ pos 0 = omega (arith, ints) in
    let off : IsMultiple g ((b.rem -ℤ a.rem) -ℤ pos 0) = subst (λ (t : ℤ). IsMultiple g ((b.rem -ℤ a.rem) -ℤ t)) zero (off_from_in r g (b.rem -ℤ a.rem) same) in
    some_number a b g (record { first = c.requires.first; second = c.requires.second; divisor = d; shares = multiple_along g _ _ (less_zero (b.rem -ℤ a.rem)) off })
  where
    less_zero : (x : ℤ) → x -ℤ pos 0 ≡ x
    less_zero x = omega (arith, ints)
