-- Classes of the number of a range that holds no other.
use Rattle.std.proofs.Common.{◌≡◌, ℤ, pos, ◌+ℤ◌, ◌*ℤ◌, ◌≤ℤ◌, ◌⊎◌, ⊎_elim, arith, ap, sym, subst}
use Rattle.std.specs.Prelude.{IsTrue, Bool, Option, Some, None, IfNone}
use Rattle.std.proofs.lemmas.Int.{ints}
use Rattle.ext_int.specs.declared.Ext.{Ext}
use Rattle.ext_int.specs.Ext.{Below, Above}
use Rattle.num_api.specs.declared.message.Range.{Range}
use Rattle.num_api.specs.declared.message.Residue.{Residue}
use Rattle.num_api.specs.Ranges.{InRange, IsPoint}
use Rattle.num_api.specs.Residues.{class_of, InResidue, IsFoldResidue}
use Rattle.num_api.proofs.Multiples.{multiple_along, multiple_add, multiple_times, zero_multiple}
use Rattle.num_api.specs.Spans.{point, range_of}
use Rattle.residues.specs.Inward.{HasSome}
use Rattle.residues.proofs.Keeping.{in_all}

pub only : (r : Range) (n m : ℤ) → IsPoint r n → InRange r m → m ≡ n
only r n m p h =
    let low : n ≤ℤ m = subst (λ (e : Ext). Below e m) p.low h.low in
    let high : m ≤ℤ n = subst (λ (e : Ext). Above e m) p.high h.high in
    omega (arith, ints)

-- a number of a class of multiples is one
fold_of_member : (c n : ℤ) (r : Residue) → IsFoldResidue c r → InResidue r n → IsFoldResidue c (class_of n (pos 0))
fold_of_member c n r h (k, e) = record {
  rem = multiple_along c (r.rem +ℤ (k *ℤ r.modulus)) n (sym e) (multiple_add c r.rem (k *ℤ r.modulus) h.rem (multiple_times c k r.modulus h.modulus));
  modulus = zero_multiple c;
}

-- the class stays, or is that of the range's number
pub fold_of_either : {W : Type 0} (class : W → Residue) (c : ℤ) (before kept after : W) (r : Range) {folds : Bool} → IsTrue folds → kept ≡ before → (after ≡ kept) ⊎ ((n : ℤ) × IsPoint r n × (IsTrue folds → class after ≡ class_of n (pos 0))) → HasSome r (class kept) → IsFoldResidue c (class before) → IsFoldResidue c (class after)
fold_of_either class c before kept after r t same which some h =
    let fold = subst (λ w. IsFoldResidue c (class w)) (sym same) h in
    ⊎_elim
    (λ e. subst (λ w. IsFoldResidue c (class w)) (sym e) fold)
    (λ (n, p, e). subst (IsFoldResidue c) (sym (e t)) (fold_of_member c n (class kept) fold (subst (InResidue (class kept)) (only r n some.0 p some.1) some.2)))
    which

pub at_point : (r : Range) (n : ℤ) → r ≡ range_of (point n) → IsPoint r n
at_point r n e = record { low = ap (λ (s : Range). s.lo) e; high = ap (λ (s : Range). s.hi) e }

pub if_none_map : {A : Type 0} {X Y : Type 0} (o : Option A) → (X → Y) → IfNone o X → IfNone o Y
if_none_map None f h = f h
if_none_map (Some a) f h = h

-- so it is where the class before was that of all numbers
pub fold_of_any : {W : Type 0} (class : W → Residue) (c : ℤ) (before after : W) (r : Range) {folds : Bool} → IsTrue folds → (class before).modulus ≡ pos 1 → (after ≡ before) ⊎ ((n : ℤ) × IsPoint r n × (IsTrue folds → class after ≡ class_of n (pos 0))) → IsFoldResidue c (class before) → IsFoldResidue c (class after)
fold_of_any class c before after r t one which h =
    ⊎_elim
    (λ e. subst (λ w. IsFoldResidue c (class w)) (sym e) h)
    (λ (n, p, e). subst (IsFoldResidue c) (sym (e t)) (fold_of_member c n (class before) h (in_all (class before) n one)))
    which
