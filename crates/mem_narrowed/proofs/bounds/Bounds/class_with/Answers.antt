use Rattle.std.proofs.Common.{rules, ℤ, sym, subst, FitsSigned}
use mir.Syntax.{w128}
use Rattle.num_api.specs.declared.message.Residue.{Residue}
use Rattle.num_api.specs.Residues.{InResidue}
use Rattle.residues.specs.Class.{residue_of}
use Rattle.residues.specs.Classes.{Meets}
use Rattle.mem_narrowed.proofs.Narrowing.{class_kept, class_met, no_step, nothing_common, one_common}
use Rattle.mem_narrowed.proofs.Tests.{told_no_step, told_step}
use Rattle.mem_narrowed.proofs.bounds.Bounds.class_with.Goals as goal

pub returns-then-residue-ge1 : goal.returns-then-residue-ge1
returns-then-residue-ge1 c =
    let r = c.residue-residue.result in
    let fits : FitsSigned w128 r.modulus = search rules in
    class_met c.args.self c.args.other (residue_of c.class-first.result) (residue_of c.class.result) r c.class-first.ensures c.class.ensures
    c.residue-residue.ensures.proper (told_step r.modulus fits c.if-residue-ge1.true)
    (subst (λ (t : Residue). Meets (residue_of c.class-first.result) (residue_of c.class.result) t) (sym c.residue-residue.ensures.value) c.in-Some.ensures.meets)

pub returns-else-residue-ge1 : goal.returns-else-residue-ge1
returns-else-residue-ge1 c =
    let r = c.residue-residue.result in
    let fits : FitsSigned w128 r.modulus = search rules in
    let zero = no_step r.modulus c.residue-residue.ensures.proper.not_negative (told_no_step r.modulus fits c.if-residue-ge1.false) in
    let holds = subst (λ (t : Residue). (n : ℤ) → InResidue (residue_of c.class-first.result) n → InResidue (residue_of c.class.result) n → InResidue t n)
    (sym c.residue-residue.ensures.value) c.in-Some.ensures.some in
    class_kept c.args.self c.args.other (residue_of c.class-first.result) c.residue.result c.class-first.ensures c.residue.ensures.value
    c.residue.ensures.proper c.requires.step
    (one_common c.args.self c.args.other (residue_of c.class-first.result) (residue_of c.class.result) r c.class-first.ensures c.class.ensures holds zero)

pub returns-in-None : goal.returns-in-None
returns-in-None c =
    class_kept c.args.self c.args.other (residue_of c.class-first.result) c.residue-in-None.result c.class-first.ensures c.residue-in-None.ensures.value
    c.residue-in-None.ensures.proper c.requires.step
    (nothing_common c.args.self c.args.other (residue_of c.class-first.result) (residue_of c.class.result) c.class-first.ensures c.class.ensures
    c.in-None.ensures.none)
