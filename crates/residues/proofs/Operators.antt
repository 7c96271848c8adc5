-- What operators make of the numbers of classes.
use Rattle.std.proofs.Common.{◌≡◌, ℕ, ◌^◌, ℤ, pos, negsuc, ◌+ℤ◌, ◌-ℤ◌, ◌*ℤ◌, neg_ℤ, arith, ap, sym, ◌∙◌, subst}
use Rattle.std.specs.Prelude.{Option, Some, None}
use Rattle.std.proofs.Common.{◌<◌, ◌*◌, ◌%◌, to_z}
use Rattle.std.proofs.lemmas.Int.{ints, to_z_pos}
use Rattle.std.proofs.lemmas.Nat.{pow_below}
use mir.Syntax.{w128}
use Rattle.ext_int.specs.declared.Ext.{Ext}
use Rattle.ext_int.specs.declared.Ext.TheVariants.{Fin}
use Rattle.ext_int.specs.Ext.{Below, Above}
use Rattle.ext_int.proofs.Ends.{AtMost_refl}
use Rattle.intervals.specs.declared.Interval.{Interval}
use Rattle.intervals.specs.Interval.{Admits, IsPoint}
use Rattle.num_api.specs.declared.message.Residue.{Residue}
use Rattle.num_api.specs.declared.expr.NOp.{NOp}
use Rattle.num_api.specs.declared.expr.NOp.TheVariants.{Neg, Add, Sub, Mul, Shl}
use Rattle.num_api.specs.Residues.{InResidue, IsMultiple, IsFoldResidue}
use Rattle.num_api.specs.Value.{unary_value, binary_value}
use Rattle.num_api.specs.Residues.{class_of}
use Rattle.residues.specs.Classes.{IsByCommonStep}
use Rattle.residues.specs.Laws.{one_number}
use Rattle.num_api.proofs.Multiples.{zero_multiple, in_from_off, in_itself}
use Rattle.residues.proofs.Steps.{sum_holds, difference_holds}

-- ---- classes of one number and of all

pub in_all : (r : Residue) (n : ℤ) → r ≡ class_of (pos 0) (pos 1) → InResidue r n
in_all r n e = subst (λ (s : Residue). InResidue s n) (sym e) (in_from_off (pos 0) (pos 1) n (n -ℤ pos 0, omega (arith, ints)))

pub in_point : (r : Residue) (n : ℤ) → r ≡ class_of n (pos 0) → InResidue r n
in_point r n e = subst (λ (s : Residue). InResidue s n) (sym e) (in_itself n (pos 0))

pub fold_point : (c n : ℤ) (r : Residue) → IsMultiple c n → r ≡ class_of n (pos 0) → IsFoldResidue c r
fold_point c n r h e = subst (λ (s : Residue). IsFoldResidue c s) (sym e) (record { rem = h; modulus = zero_multiple c })

-- ---- operators

some_same : (m n : ℤ) → Some m ≡ Some n → m ≡ n
some_same m n e = cc

pub of_operator : (op o : NOp) (x y n : ℤ) → op ≡ o → binary_value op x y ≡ Some n → binary_value o x y ≡ Some n
of_operator op o x y n e h = subst (λ (p : NOp). binary_value p x y ≡ Some n) e h

pub adds : (op : NOp) (r s t : Residue) (x y n : ℤ) → op ≡ Add → IsByCommonStep r.modulus s.modulus (r.rem +ℤ s.rem) t → InResidue r x → InResidue s y → binary_value op x y ≡ Some n → InResidue t n
adds op r s t x y n e d h k v = subst (λ (m : ℤ). InResidue t m) (some_same (x +ℤ y) n (of_operator op Add x y n e v)) (sum_holds r s t x y d h k)

pub subtracts : (op : NOp) (r s t : Residue) (x y n : ℤ) → op ≡ Sub → IsByCommonStep r.modulus s.modulus (r.rem -ℤ s.rem) t → InResidue r x → InResidue s y → binary_value op x y ≡ Some n → InResidue t n
subtracts op r s t x y n e d h k v = subst (λ (m : ℤ). InResidue t m) (some_same (x -ℤ y) n (of_operator op Sub x y n e v)) (difference_holds r s t x y d h k)

-- the class of the differences from 0
pub negates : (op : NOp) (r s t : Residue) (x n : ℤ) → op ≡ Neg → r ≡ class_of (pos 0) (pos 0) → IsByCommonStep r.modulus s.modulus (r.rem -ℤ s.rem) t → InResidue s x → unary_value op x ≡ Some n → InResidue t n
negates op r s t x n e z d h v =
    let same : neg_ℤ x ≡ n = some_same (neg_ℤ x) n (subst (λ (p : NOp). unary_value p x ≡ Some n) e v) in
    let found : InResidue t (pos 0 -ℤ x) = difference_holds r s t (pos 0) x d (in_point r (pos 0) z) h in
    subst (λ (m : ℤ). InResidue t m) (omega (arith, ints)) found

pub multiplies : (op : NOp) (r s t : Residue) (x y n : ℤ) → op ≡ Mul → ((u v : ℤ) → InResidue r u → InResidue s v → InResidue t (u *ℤ v)) → InResidue r x → InResidue s y → binary_value op x y ≡ Some n → InResidue t n
multiplies op r s t x y n e d h k v = subst (λ (m : ℤ). InResidue t m) (some_same (x *ℤ y) n (of_operator op Mul x y n e v)) (d x y h k)

pub shifts : (op : NOp) (r s p t : Residue) (x y n : ℤ) → op ≡ Shl → ((k : ℕ) → InResidue s (pos k) → InResidue p (pos (2 ^ k))) → ((u v : ℤ) → InResidue r u → InResidue p v → InResidue t (u *ℤ v)) → InResidue r x → InResidue s y → binary_value op x y ≡ Some n → InResidue t n
shifts op r s p t x (pos k) n e powers d h i v =
    subst (λ (m : ℤ). InResidue t m) (some_same (x *ℤ pos (2 ^ k)) n (of_operator op Shl x (pos k) n e v)) (d x (pos (2 ^ k)) h (powers k i))
shifts op r s p t x (negsuc k) n e powers d h i v = absurd (nothing (of_operator op Shl x (negsuc k) n e v))
  where
    nothing : let o : Option ℤ = None in o ≡ Some n → ⊥
    nothing q = cc

-- two classes of one number each, by the value at these numbers
pub at_points : (op : NOp) (a b r : Residue) → a.modulus ≡ pos 0 → b.modulus ≡ pos 0 → ((n : ℤ) → binary_value op a.rem b.rem ≡ Some n → InResidue r n) → (x y n : ℤ) → InResidue a x → InResidue b y → binary_value op x y ≡ Some n → InResidue r n
at_points op a b r e f h x y n i j v =
    let u : x ≡ a.rem = one_number a x e i in
    let w : y ≡ b.rem = one_number b y f j in
    h n (subst (λ (t : ℤ). binary_value op a.rem t ≡ Some n) w (subst (λ (t : ℤ). binary_value op t y ≡ Some n) u v))

-- an interval of one number holds it
pub point_admits : (i : Interval) (n : ℤ) → IsPoint i n → Admits i n
point_admits i n (e, f) = (subst (λ (t : Ext). Below t n) (sym e) (AtMost_refl (Fin n)), subst (λ (t : Ext). Above t n) (sym f) (AtMost_refl (Fin n)))

-- the bits of a small power of two
pub power_bits : (k : ℕ) → k < 127 → to_z w128 ((1 * 2 ^ k) % 2 ^ 128) ≡ pos (2 ^ k)
power_bits k h =
    let p : 2 ^ k < 2 ^ 127 = pow_below k 127 h in
    let e : (1 * 2 ^ k) % 2 ^ 128 ≡ 2 ^ k = grind (arith, p) in
    ap (to_z w128) e ∙ to_z_pos w128 (2 ^ k) p
