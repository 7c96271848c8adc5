use Rattle.std.proofs.Common.{◌≡◌, ℤ, pos, arith, sym, ◌∙◌, subst, FitsSigned, rules}
use Rattle.std.specs.Prelude.{true, false}
use Rattle.std.proofs.lemmas.Int.{ints, to_z-of_z}
use mir.Syntax.{w128}
use Rattle.num_api.specs.Residues.{InResidue}
use Rattle.residues.specs.Class.{residue_of, is_member}
use Rattle.residues.proofs.Lattice.{member_true, member_from}
use Rattle.residues.specs.Laws.{one_number}
use Rattle.residues.proofs.Crt.{meets_point, meets_other_point}
use Rattle.num_api.proofs.Multiples.{in_itself}
use Rattle.residues.proofs.class.meeting.met.Goals as goal

pub returns-then-has-clause-some : goal.returns-then-has-clause-some
returns-then-has-clause-some c =
    let a = residue_of c.args.a in
    let b = residue_of c.args.b in
    let fa : FitsSigned w128 a.rem = search rules in
    let fb : FitsSigned w128 b.rem = search rules in
    let fam : FitsSigned w128 a.modulus = search rules in
    let fbm : FitsSigned w128 b.modulus = search rules in
    let e : a.modulus ≡ pos 0 = omega (arith, ints) in
    let f : c.has.result ≡ is_member b a.rem = simp to_z-of_z at c.has.ensures in
    meets_point a b e (member_from b a.rem c.args.b.proper (sym f ∙ c.if-has.true))

pub returns-else-has-clause-none : goal.returns-else-has-clause-none
returns-else-has-clause-none c =
    let a = residue_of c.args.a in
    let b = residue_of c.args.b in
    let fa : FitsSigned w128 a.rem = search rules in
    let fb : FitsSigned w128 b.rem = search rules in
    let fam : FitsSigned w128 a.modulus = search rules in
    let fbm : FitsSigned w128 b.modulus = search rules in
    let e : a.modulus ≡ pos 0 = omega (arith, ints) in
    let f : c.has.result ≡ is_member b a.rem = simp to_z-of_z at c.has.ensures in
    λ n h k.
    let g : n ≡ a.rem = one_number a n e h in
    let i = member_true b a.rem c.args.b.proper (subst (λ (t : ℤ). InResidue b t) g k) in
    clash (sym i ∙ sym f ∙ c.if-has.false)
  where
    clash : true ≡ false → ⊥
    clash q = cc

pub returns-then-has-2-clause-some : goal.returns-then-has-2-clause-some
returns-then-has-2-clause-some c =
    let a = residue_of c.args.a in
    let b = residue_of c.args.b in
    let fa : FitsSigned w128 a.rem = search rules in
    let fb : FitsSigned w128 b.rem = search rules in
    let fam : FitsSigned w128 a.modulus = search rules in
    let fbm : FitsSigned w128 b.modulus = search rules in
    let e : b.modulus ≡ pos 0 = omega (arith, ints) in
    let f : c.has-then-b-eq0.result ≡ is_member a b.rem = simp to_z-of_z at c.has-then-b-eq0.ensures in
    meets_other_point a b e (member_from a b.rem c.args.a.proper (sym f ∙ c.if-has-2.true))

pub returns-else-has-2-clause-none : goal.returns-else-has-2-clause-none
returns-else-has-2-clause-none c =
    let a = residue_of c.args.a in
    let b = residue_of c.args.b in
    let fa : FitsSigned w128 a.rem = search rules in
    let fb : FitsSigned w128 b.rem = search rules in
    let fam : FitsSigned w128 a.modulus = search rules in
    let fbm : FitsSigned w128 b.modulus = search rules in
    let e : b.modulus ≡ pos 0 = omega (arith, ints) in
    let f : c.has-then-b-eq0.result ≡ is_member a b.rem = simp to_z-of_z at c.has-then-b-eq0.ensures in
    λ n h k.
    let g : n ≡ b.rem = one_number b n e k in
    let i = member_true a b.rem c.args.a.proper (subst (λ (t : ℤ). InResidue a t) g h) in
    clash (sym i ∙ sym f ∙ c.if-has-2.false)
  where
    clash : true ≡ false → ⊥
    clash q = cc

pub returns-then-has-clause-common : goal.returns-then-has-clause-common
returns-then-has-clause-common c =
    let a = residue_of c.args.a in
    let b = residue_of c.args.b in
    let fa : FitsSigned w128 a.rem = search rules in
    let f : c.has.result ≡ is_member b a.rem = simp to_z-of_z at c.has.ensures in
    (a.rem, in_itself a.rem a.modulus, member_from b a.rem c.args.b.proper (sym f ∙ c.if-has.true))

pub returns-then-has-2-clause-common : goal.returns-then-has-2-clause-common
returns-then-has-2-clause-common c =
    let a = residue_of c.args.a in
    let b = residue_of c.args.b in
    let fb : FitsSigned w128 b.rem = search rules in
    let f : c.has-then-b-eq0.result ≡ is_member a b.rem = simp to_z-of_z at c.has-then-b-eq0.ensures in
    (b.rem, member_from a b.rem c.args.a.proper (sym f ∙ c.if-has-2.true), in_itself b.rem b.modulus)
