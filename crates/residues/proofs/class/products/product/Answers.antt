use Rattle.std.proofs.Common.{ℤ, FitsSigned, rules, inl, inr}
use Rattle.std.proofs.lemmas.Int.{to_z-of_z}
use mir.Syntax.{w128}
use Rattle.num_api.specs.Residues.{IsMultiple}
use Rattle.residues.specs.Class.{residue_of}
use Rattle.residues.specs.Classes.{IsProductBy}
use Rattle.residues.proofs.Moves.{moved}
use Rattle.residues.proofs.Products.{product_holds, product_fold_left, product_fold_right}
use Rattle.residues.proofs.ClassBounds.{product_bounds, small_left, small_right}
use Rattle.residues.proofs.class.products.product.Goals as goal

pub returns-in-Some-clause-holds : goal.returns-in-Some-clause-holds
returns-in-Some-clause-holds c =
    let a = residue_of c.args.a in
    let b = residue_of c.args.b in
    let f : FitsSigned w128 c.factor-f.result = search rules in
    let g : FitsSigned w128 c.factor-g.result = search rules in
    let d : IsProductBy a b c.factor-f.result c.factor-g.result (residue_of c.in-Some.class) = simp to_z-of_z at c.in-Some.ensures.some in
    λ x y h k. product_holds a b (residue_of c.in-Some.class) c.factor-f.result c.factor-g.result x y d c.factor-f.ensures.divides c.factor-g.ensures.divides h k

pub returns-in-Some-clause-fold_left : goal.returns-in-Some-clause-fold_left
returns-in-Some-clause-fold_left c =
    let a = residue_of c.args.a in
    let b = residue_of c.args.b in
    let f : FitsSigned w128 c.factor-f.result = search rules in
    let g : FitsSigned w128 c.factor-g.result = search rules in
    let d : IsProductBy a b c.factor-f.result c.factor-g.result (residue_of c.in-Some.class) = simp to_z-of_z at c.in-Some.ensures.some in
    λ e al h. product_fold_left e a b (residue_of c.in-Some.class) c.factor-f.result c.factor-g.result d (c.factor-f.ensures.folds e al h) h

pub returns-in-Some-clause-fold_right : goal.returns-in-Some-clause-fold_right
returns-in-Some-clause-fold_right c =
    let a = residue_of c.args.a in
    let b = residue_of c.args.b in
    let f : FitsSigned w128 c.factor-f.result = search rules in
    let g : FitsSigned w128 c.factor-g.result = search rules in
    let d : IsProductBy a b c.factor-f.result c.factor-g.result (residue_of c.in-Some.class) = simp to_z-of_z at c.in-Some.ensures.some in
    λ e al h. product_fold_right e a b (residue_of c.in-Some.class) c.factor-f.result c.factor-g.result d (c.factor-g.ensures.folds e al h) h

pub returns-in-None-clause-holds : goal.returns-in-None-clause-holds
returns-in-None-clause-holds c =
    let a = residue_of c.args.a in
    let b = residue_of c.args.b in
    let f : FitsSigned w128 c.factor-f.result = search rules in
    let g : FitsSigned w128 c.factor-g.result = search rules in
    λ x y h k. c.multiples.ensures.holds x y (moved (λ (t : ℤ). IsMultiple t x) c.factor-f.result f (c.factor-f.ensures.divides x h)) (moved (λ (t : ℤ). IsMultiple t y) c.factor-g.result g (c.factor-g.ensures.divides y k))

pub returns-in-None-clause-fold_left : goal.returns-in-None-clause-fold_left
returns-in-None-clause-fold_left c =
    let a = residue_of c.args.a in
    let b = residue_of c.args.b in
    let f : FitsSigned w128 c.factor-f.result = search rules in
    let g : FitsSigned w128 c.factor-g.result = search rules in
    λ e al h. c.multiples.ensures.folds e al (inl (moved (λ (t : ℤ). IsMultiple e t) c.factor-f.result f (c.factor-f.ensures.folds e al h)))

pub returns-in-None-clause-fold_right : goal.returns-in-None-clause-fold_right
returns-in-None-clause-fold_right c =
    let a = residue_of c.args.a in
    let b = residue_of c.args.b in
    let f : FitsSigned w128 c.factor-f.result = search rules in
    let g : FitsSigned w128 c.factor-g.result = search rules in
    λ e al h. c.multiples.ensures.folds e al (inr (moved (λ (t : ℤ). IsMultiple e t) c.factor-g.result g (c.factor-g.ensures.folds e al h)))

pub returns-in-Some-clause-bounds : goal.returns-in-Some-clause-bounds
returns-in-Some-clause-bounds c =
    let a = residue_of c.args.a in
    let b = residue_of c.args.b in
    let f : FitsSigned w128 c.factor-f.result = search rules in
    let g : FitsSigned w128 c.factor-g.result = search rules in
    let d : IsProductBy a b c.factor-f.result c.factor-g.result (residue_of c.in-Some.class) = simp to_z-of_z at c.in-Some.ensures.some in
    product_bounds a b (residue_of c.in-Some.class) c.factor-f.result c.factor-g.result c.factor-f.ensures.factor c.factor-g.ensures.factor d

pub returns-in-None-clause-bounds : goal.returns-in-None-clause-bounds
returns-in-None-clause-bounds c = λ small.
    let a = residue_of c.args.a in
    let b = residue_of c.args.b in
    let f : FitsSigned w128 c.factor-f.result = search rules in
    let g : FitsSigned w128 c.factor-g.result = search rules in
    let none = rw (to_z-of_z w128 c.factor-f.result f, to_z-of_z w128 c.factor-g.result g) at c.in-None.ensures.none in
    absurd (none small.rem (small_left a b c.factor-g.result c.args.a.proper.not_negative c.factor-g.ensures.factor small) (small_right a b c.factor-f.result c.args.b.proper.not_negative c.factor-f.ensures.factor small))
