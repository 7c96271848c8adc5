use Rattle.std.proofs.Common.{◌≡◌, pos, sym, subst, ap, ◌∙◌}
use Rattle.std.proofs.lemmas.Int.{to_z-of_z}
use mir.Syntax.{w128}
use Rattle.num_api.specs.Residues.{InResidue, class_of}
use Rattle.num_api.specs.declared.message.Residue.{Residue}
use Rattle.num_api.proofs.Multiples.{self_multiple, zero_multiple}
use Rattle.residues.specs.Classes.{LiesIn}
use Rattle.machine_nums.proofs.Alignments.{fold_lies, multiple_in}
use Rattle.machine_nums.proofs.alignment.multiples.Goals as goal

pub returns-in-Some-clause-holds : goal.returns-in-Some-clause-holds
returns-in-Some-clause-holds c = λ n i m.
    let all : c.new-all.result.residue ≡ class_of (pos 0) c.args.c = c.new-all.ensures ∙ ap (class_of (pos 0)) (to_z-of_z w128 c.args.c c.ranges.c) in
    c.residue.ensures.holds n (c.in-Some.ensures.some n (subst (λ (r : Residue). InResidue r n) (sym all) (multiple_in c.args.c n m))
    (subst (λ (r : Residue). InResidue r n) (sym c.new.ensures) i))

pub returns-in-Some-clause-fold : goal.returns-in-Some-clause-fold
returns-in-Some-clause-fold c =
    let all : c.new-all.result.residue ≡ class_of (pos 0) c.args.c = c.new-all.ensures ∙ ap (class_of (pos 0)) (to_z-of_z w128 c.args.c c.ranges.c) in
    fold_lies c.args.c c.args.c c.residue.result (self_multiple c.args.c)
    (subst (λ (r : Residue). LiesIn r (class_of (pos 0) c.args.c)) (sym c.residue.ensures.value)
    (subst (LiesIn c.in-Some.both.residue) all c.in-Some.ensures.meets.first))

pub returns-in-None-clause-holds : goal.returns-in-None-clause-holds
returns-in-None-clause-holds c = λ n i m.
    let all : c.new-all.result.residue ≡ class_of (pos 0) c.args.c = c.new-all.ensures ∙ ap (class_of (pos 0)) (to_z-of_z w128 c.args.c c.ranges.c) in
    absurd (c.in-None.ensures.none n (subst (λ (r : Residue). InResidue r n) (sym all) (multiple_in c.args.c n m))
    (subst (λ (r : Residue). InResidue r n) (sym c.new.ensures) i))

pub returns-in-None-clause-fold : goal.returns-in-None-clause-fold
returns-in-None-clause-fold c = record { rem = zero_multiple c.args.c; modulus = zero_multiple c.args.c }
