use Rattle.std.proofs.Common.{◌≡◌, ℤ, pos, neg_ℤ, ◌^◌, arith, sym, FitsSigned, rules}
use Rattle.std.proofs.lemmas.Int.{ints, to_z-of_z}
use mir.Syntax.{w128}
use Rattle.num_api.specs.Residues.{IsMultiple}
use Rattle.residues.proofs.Moves.{moved}
use Rattle.num_api.proofs.Multiples.{multiple_along, self_multiple, multiple_neg}
use Rattle.residues.proofs.Steps.{fold_greatest}
use Rattle.residues.proofs.Products.{least_number, least_multiple}
use Rattle.residues.specs.ClassBounds.{IsSize}
use Rattle.residues.proofs.ClassBounds.{size_turned, size_least}
use Rattle.residues.proofs.class.products.size.Goals as goal

pub returns-then-n-ge0-clause-divides : goal.returns-then-n-ge0-clause-divides
returns-then-n-ge0-clause-divides c = moved (λ (t : ℤ). IsMultiple t c.args.n) c.args.n c.ranges.n (self_multiple c.args.n)

pub returns-in-Some-clause-divides : goal.returns-in-Some-clause-divides
returns-in-Some-clause-divides c =
    let f : FitsSigned w128 c.args.n = c.ranges.n in
    let g : FitsSigned w128 c.in-Some.size = search rules in
    let e : c.in-Some.size ≡ neg_ℤ c.args.n = (simp to_z-of_z at c.in-Some.ensures).1 in
    moved (λ (t : ℤ). IsMultiple t c.args.n) c.in-Some.size g
    (multiple_along c.in-Some.size (neg_ℤ c.in-Some.size) c.args.n (omega (arith, ints)) (multiple_neg c.in-Some.size c.in-Some.size (self_multiple c.in-Some.size)))

pub returns-in-Some-clause-folds : goal.returns-in-Some-clause-folds
returns-in-Some-clause-folds c =
    let f : FitsSigned w128 c.args.n = c.ranges.n in
    let g : FitsSigned w128 c.in-Some.size = search rules in
    let e : c.in-Some.size ≡ neg_ℤ c.args.n = (simp to_z-of_z at c.in-Some.ensures).1 in
    λ d a h. moved (λ (t : ℤ). IsMultiple d t) c.in-Some.size g (multiple_along d (neg_ℤ c.args.n) c.in-Some.size (sym e) (multiple_neg d c.args.n h))

pub returns-in-None-clause-divides : goal.returns-in-None-clause-divides
returns-in-None-clause-divides c =
    let f : FitsSigned w128 c.args.n = c.ranges.n in
    let g : FitsSigned w128 (neg_ℤ c.args.n) → ⊥ = simp to_z-of_z at c.in-None.ensures in
    multiple_along (pos (2 ^ 100)) _ c.args.n (sym (least_number c.args.n f g)) least_multiple

pub returns-in-None-clause-folds : goal.returns-in-None-clause-folds
returns-in-None-clause-folds c = λ d a h. fold_greatest d a

pub returns-in-Some-clause-size : goal.returns-in-Some-clause-size
returns-in-Some-clause-size c =
    let f : FitsSigned w128 c.args.n = c.ranges.n in
    let g : FitsSigned w128 c.in-Some.size = search rules in
    let e : c.in-Some.size ≡ neg_ℤ c.args.n = (simp to_z-of_z at c.in-Some.ensures).1 in
    moved (λ (t : ℤ). IsSize c.args.n t) c.in-Some.size g (size_turned c.args.n c.in-Some.size e)

pub returns-in-None-clause-size : goal.returns-in-None-clause-size
returns-in-None-clause-size c =
    let f : FitsSigned w128 c.args.n = c.ranges.n in
    let g : FitsSigned w128 (neg_ℤ c.args.n) → ⊥ = simp to_z-of_z at c.in-None.ensures in
    size_least c.args.n (least_number c.args.n f g)
