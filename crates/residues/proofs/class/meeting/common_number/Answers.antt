use Rattle.std.proofs.Common.{◌≡◌, ◌^◌, ℤ, pos, ◌*ℤ◌, ◌≤ℤ◌}
use Rattle.residues.specs.Class.{residue_of}
use Rattle.residues.specs.Classes.{SharesBy}
use Rattle.residues.proofs.Moves.{moved}
use Rattle.residues.proofs.Crt.{shares_swap, small_swap}
use Rattle.residues.proofs.class.meeting.common_number.Goals as goal

pub number_in-requires-2-clause-shares : goal.number_in-requires-2-clause-shares
number_in-requires-2-clause-shares c = moved (λ (x : ℤ). SharesBy (residue_of c.args.b) (residue_of c.args.a) x) c.args.common c.ranges.common (shares_swap (residue_of c.args.a) (residue_of c.args.b) c.args.common c.requires.shares)

pub number_in-requires-2-clause-small : goal.number_in-requires-2-clause-small
number_in-requires-2-clause-small c =
    let a = residue_of c.args.a in
    let b = residue_of c.args.b in
    moved (λ (x : ℤ). (q : ℤ) → q *ℤ x ≡ b.modulus → (q *ℤ a.modulus) ≤ℤ pos (2 ^ 100)) c.args.common c.ranges.common (small_swap a b c.args.common c.requires.shares c.requires.small)
