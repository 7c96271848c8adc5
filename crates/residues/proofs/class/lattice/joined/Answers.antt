use Rattle.std.proofs.Common.{sym, subst}
use Rattle.num_api.specs.declared.message.Residue.{Residue}
use Rattle.residues.specs.Class.{residue_of}
use Rattle.residues.specs.Classes.{LiesIn}
use Rattle.residues.proofs.Lattice.{lies_in_all}
use Rattle.std.proofs.Common.{◌≡◌, pos, arith, FitsSigned, rules}
use Rattle.std.proofs.lemmas.Int.{ints}
use mir.Syntax.{w128}
use Rattle.residues.proofs.Crt.{lies_in_itself}
use Rattle.residues.proofs.Keeping.{lies_in_any}
use Rattle.residues.proofs.class.lattice.joined.Goals as goal

pub returns-in-None-clause-left : goal.returns-in-None-clause-left
returns-in-None-clause-left c = subst (λ (r : Residue). LiesIn (residue_of c.args.a) r) (sym c.all.ensures) (lies_in_all (residue_of c.args.a))

pub returns-in-None-clause-right : goal.returns-in-None-clause-right
returns-in-None-clause-right c = subst (λ (r : Residue). LiesIn (residue_of c.args.b) r) (sym c.all.ensures) (lies_in_all (residue_of c.args.b))

pub returns-then-a-eq1-clause-left : goal.returns-then-a-eq1-clause-left
returns-then-a-eq1-clause-left c = lies_in_itself (residue_of c.args.a)

pub returns-then-a-eq1-clause-right : goal.returns-then-a-eq1-clause-right
returns-then-a-eq1-clause-right c =
    let a = residue_of c.args.a in
    let f : FitsSigned w128 a.modulus = search rules in
    let one : a.modulus ≡ pos 1 = omega (arith, ints) in
    lies_in_any (residue_of c.args.b) a one

pub returns-then-a-eq1-clause-least : goal.returns-then-a-eq1-clause-least
returns-then-a-eq1-clause-least c = λ s j. j.first
