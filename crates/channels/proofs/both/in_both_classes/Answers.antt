use Rattle.std.proofs.Common.{ℤ, subst, sym, Option, IfNone}
use Rattle.num_api.specs.declared.message.Residue.{Residue}
use Rattle.num_api.specs.Residues.{InResidue}
use Rattle.num_api.proofs.Multiples.{in_itself}
use Rattle.residues.specs.declared.class.Class.{Class}
use Rattle.residues.specs.Class.{residue_of}
use Rattle.residues.proofs.Crt.{lies_in_itself}
use Rattle.channels.proofs.both.in_both_classes.Goals as goal

pub returns-in-None-clause-meets : goal.returns-in-None-clause-meets
returns-in-None-clause-meets c =
    let first = c.new.result in let second = c.new-2.result in
    let apart : (n : ℤ) → InResidue (residue_of first) n → InResidue (residue_of second) n → ⊥ = subst (λ (r : Option Class). IfNone r ((n : ℤ) → InResidue (residue_of first) n → InResidue (residue_of second) n → ⊥)) c.in-None.is c.meet.ensures.none in
    let none : (n : ℤ) → InResidue c.args.a n → InResidue c.args.b n → ⊥ = λ n h k.
    apart n (subst (λ (r : Residue). InResidue r n) (sym c.new.ensures) h) (subst (λ (r : Residue). InResidue r n) (sym c.new-2.ensures) k) in
    record {
      holds = λ n h k. absurd (none n h k);
      first = lies_in_itself c.args.a;
      second = λ s m. absurd (none s.rem (m.first s.rem (in_itself s.rem s.modulus)) (m.second s.rem (in_itself s.rem s.modulus)));
    }
