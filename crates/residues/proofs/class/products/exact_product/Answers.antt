use Rattle.std.specs.Prelude.{Option, Some, None, IfNone}
use Rattle.std.proofs.Common.{◌≡◌, ℤ, pos, ◌*ℤ◌, ◌≤ℤ◌, sym, subst, FitsSigned, rules}
use Rattle.std.proofs.lemmas.Int.{to_z-of_z}
use mir.Syntax.{w128}
use Rattle.residues.specs.Class.{residue_of}
use Rattle.residues.proofs.Moves.{moved}
use Rattle.residues.proofs.Products.{not_negative_product, product_by}
use Rattle.std.proofs.Common.{◌^◌, arith}
use Rattle.std.proofs.lemmas.Int.{ints}
use Rattle.residues.proofs.ClassBounds.{none_small}
use Rattle.residues.proofs.class.products.exact_product.Goals as goal

pub small_class-requires-clause-m_is_not_negative : goal.small_class-requires-clause-m_is_not_negative
small_class-requires-clause-m_is_not_negative c =
    let a = residue_of c.args.a in
    let f : FitsSigned w128 a.modulus = search rules in
    let g : FitsSigned w128 c.args.g = c.ranges.g in
    let h : FitsSigned w128 c.in_ok-left.left = search rules in
    let e : c.in_ok-left.left ≡ a.modulus *ℤ c.args.g = (simp to_z-of_z at c.in_ok-left.ensures).1 in
    moved (λ (t : ℤ). pos 0 ≤ℤ t) c.in_ok-left.left h (subst (λ (t : ℤ). pos 0 ≤ℤ t) (sym e) (not_negative_product a.modulus c.args.g c.args.a.proper.not_negative c.requires.g_is_not_negative))

pub small_class-requires-clause-n_is_not_negative : goal.small_class-requires-clause-n_is_not_negative
small_class-requires-clause-n_is_not_negative c =
    let b = residue_of c.args.b in
    let f : FitsSigned w128 b.modulus = search rules in
    let g : FitsSigned w128 c.args.f = c.ranges.f in
    let h : FitsSigned w128 c.in_ok-right.right = search rules in
    let e : c.in_ok-right.right ≡ c.args.f *ℤ b.modulus = (simp to_z-of_z at c.in_ok-right.ensures).1 in
    moved (λ (t : ℤ). pos 0 ≤ℤ t) c.in_ok-right.right h (subst (λ (t : ℤ). pos 0 ≤ℤ t) (sym e) (not_negative_product c.args.f b.modulus c.requires.f_is_not_negative c.args.b.proper.not_negative))

pub returns-clause-some : goal.returns-clause-some
returns-clause-some c =
    let a = residue_of c.args.a in
    let b = residue_of c.args.b in
    let f1 : FitsSigned w128 a.rem = search rules in
    let f2 : FitsSigned w128 b.rem = search rules in
    let f3 : FitsSigned w128 a.modulus = search rules in
    let f4 : FitsSigned w128 b.modulus = search rules in
    let f5 : FitsSigned w128 c.args.f = c.ranges.f in
    let f6 : FitsSigned w128 c.args.g = c.ranges.g in
    let f7 : FitsSigned w128 c.in_ok-rem.rem = search rules in
    let f8 : FitsSigned w128 c.in_ok-left.left = search rules in
    let f9 : FitsSigned w128 c.in_ok-right.right = search rules in
    let p : c.in_ok-rem.rem ≡ a.rem *ℤ b.rem = (simp to_z-of_z at c.in_ok-rem.ensures).1 in
    let q : c.in_ok-left.left ≡ a.modulus *ℤ c.args.g = (simp to_z-of_z at c.in_ok-left.ensures).1 in
    let s : c.in_ok-right.right ≡ c.args.f *ℤ b.modulus = (simp to_z-of_z at c.in_ok-right.ensures).1 in
    product_by a b c.args.f c.args.g c.in_ok-rem.rem c.in_ok-left.left c.in_ok-right.right c.small_class.result p q s (simp to_z-of_z at c.small_class.ensures.some)

if_none : {A P : Type 0} (o : Option A) → P → IfNone o P
if_none None p = p
if_none (Some a) p = tt

small_fits : (z : ℤ) → pos 0 ≤ℤ z → z ≤ℤ pos (2 ^ 100) → FitsSigned w128 z
small_fits z h k = omega (arith, ints)

pub returns-in_err-left-clause-none : goal.returns-in_err-left-clause-none
returns-in_err-left-clause-none c = if_none c.from_residual-in_err-left.result (λ rem left right.
    let a = residue_of c.args.a in
    let f : FitsSigned w128 a.modulus = search rules in
    let g : FitsSigned w128 c.args.g = c.ranges.g in
    let none : FitsSigned w128 (a.modulus *ℤ c.args.g) → ⊥ = simp to_z-of_z at c.in_err-left.ensures in
    none (small_fits (a.modulus *ℤ c.args.g) (not_negative_product a.modulus c.args.g c.args.a.proper.not_negative c.requires.g_is_not_negative) left))

pub returns-in_err-right-clause-none : goal.returns-in_err-right-clause-none
returns-in_err-right-clause-none c = if_none c.from_residual-in_err-right.result (λ rem left right.
    let b = residue_of c.args.b in
    let f : FitsSigned w128 b.modulus = search rules in
    let g : FitsSigned w128 c.args.f = c.ranges.f in
    let none : FitsSigned w128 (c.args.f *ℤ b.modulus) → ⊥ = simp to_z-of_z at c.in_err-right.ensures in
    none (small_fits (c.args.f *ℤ b.modulus) (not_negative_product c.args.f b.modulus c.requires.f_is_not_negative c.args.b.proper.not_negative) right))

pub returns-clause-none : goal.returns-clause-none
returns-clause-none c =
    let a = residue_of c.args.a in
    let b = residue_of c.args.b in
    let f3 : FitsSigned w128 a.modulus = search rules in
    let f4 : FitsSigned w128 b.modulus = search rules in
    let f5 : FitsSigned w128 c.args.f = c.ranges.f in
    let f6 : FitsSigned w128 c.args.g = c.ranges.g in
    let f8 : FitsSigned w128 c.in_ok-left.left = search rules in
    let f9 : FitsSigned w128 c.in_ok-right.right = search rules in
    let q : c.in_ok-left.left ≡ a.modulus *ℤ c.args.g = (simp to_z-of_z at c.in_ok-left.ensures).1 in
    let s : c.in_ok-right.right ≡ c.args.f *ℤ b.modulus = (simp to_z-of_z at c.in_ok-right.ensures).1 in
    none_small c.small_class.result (a.modulus *ℤ c.args.g) (c.args.f *ℤ b.modulus) c.in_ok-left.left c.in_ok-right.right _ q s
    (not_negative_product a.modulus c.args.g c.args.a.proper.not_negative c.requires.g_is_not_negative) (not_negative_product c.args.f b.modulus c.requires.f_is_not_negative c.args.b.proper.not_negative)
    (simp to_z-of_z at c.small_class.ensures.none)
