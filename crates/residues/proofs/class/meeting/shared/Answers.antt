use Rattle.std.proofs.Common.{◌≡◌, ◌^◌, ℤ, pos, ◌*ℤ◌, ◌<ℤ◌, sym, FitsSigned, rules}
use Rattle.std.proofs.lemmas.Int.{to_z-of_z}
use mir.Syntax.{w128}
use Rattle.num_api.specs.declared.message.Residue.{Residue}
use Rattle.num_api.specs.Residues.{InResidue, IsMultiple}
use Rattle.residues.specs.Class.{residue_of}
use Rattle.residues.specs.Classes.{IsClassOf, SharesBy, Meets}
use Rattle.residues.proofs.Moves.{unmoved}
use Rattle.residues.proofs.Crt.{meets_by, meets_itself}
use Rattle.residues.proofs.class.meeting.shared.Goals as goal

pub returns-in-Some : goal.returns-in-Some
returns-in-Some c =
    let a = residue_of c.args.a in
    let b = residue_of c.args.b in
    let g = c.args.common in
    let m = c.in-Some.modulus in
    let x = c.common_number.result in
    let fm : FitsSigned w128 m = search rules in
    let fx : FitsSigned w128 x = search rules in
    let i : IsClassOf x m (residue_of c.of.result) = simp to_z-of_z at c.of.ensures in
    let some = unmoved (λ (t : ℤ). (q : ℤ) → q *ℤ t ≡ a.modulus → m ≡ q *ℤ b.modulus) g c.ranges.common c.in-Some.ensures.some.2 in
    from a b (residue_of c.of.result) g x m c.requires some c.common_number.ensures.first c.common_number.ensures.second i c.requires.divisor.first
  where
    from : (a b r : Residue) (g x m : ℤ) → SharesBy a b g → ((q : ℤ) → q *ℤ g ≡ a.modulus → m ≡ q *ℤ b.modulus) → InResidue a x → InResidue b x → IsClassOf x m r → IsMultiple g a.modulus → Meets a b r
    from a b r g x m d some h k i (q, e) = meets_by a b r g q x m d (sym e) (some q (sym e)) h k i

pub returns-in-None : goal.returns-in-None
returns-in-None c =
    let a = residue_of c.args.a in
    let b = residue_of c.args.b in
    let large = unmoved (λ (t : ℤ). (q : ℤ) → q *ℤ t ≡ a.modulus → pos (2 ^ 100) <ℤ (q *ℤ b.modulus)) c.args.common c.ranges.common c.in-None.ensures.none in
    meets_itself a b c.args.common c.requires large
