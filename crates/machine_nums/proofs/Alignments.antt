-- Multiples of 1, 2, 4 and 8, and the forms of expressions that are such multiples.
use Rattle.std.proofs.Common.{◌≡◌, ◌^◌, ◌*ℤ◌, ◌+ℤ◌, ◌-ℤ◌, ◌≤ℤ◌, ℕ, ℤ, pos, List, true, false, Some, arith, refl, sym, subst, ap, ◌∙◌, inl, inr}
use Rattle.std.specs.Int.{int_rem_euclid}
use Rattle.std.specs.Int.RustNames.{FitsSigned}
use Rattle.std.proofs.lemmas.Bool.{eqb-true, eqb-false}
use Rattle.std.proofs.lemmas.Int.{ints, to_z-of_z}
use lib.Dec.{eqb}
use mir.Syntax.{w128}
use mir.Val.{to_z, of_z}
use Rattle.c_syntax_written.specs.declared.int_type.IntType.{IntType}
use Rattle.c_syntax_written.specs.declared.int_type.IntType.TheVariants.{Char, SChar, UChar, Short, UShort, Int, UInt, Long, ULong, LLong, ULLong}
use Rattle.c_syntax_written.specs.Integer.{width, wrapped}
use Rattle.num_api.specs.declared.expr.NOp.{NOp}
use Rattle.num_api.specs.declared.expr.NOp.TheVariants.{Add, Mul}
use Rattle.num_api.specs.Fold.{IsAlignment}
use Rattle.num_api.specs.Fold as folds
use Rattle.num_api.specs.Residues.{class_of, InResidue, IsMultiple, IsFoldResidue}
use Rattle.num_api.specs.Value.{binary_value}
use Rattle.num_api.specs.declared.message.Residue.{Residue}
use Rattle.num_api.proofs.Multiples.{multiple_along, multiple_add, multiple_trans, self_multiple, off_from_in, in_from_off}
use Rattle.num_api.proofs.Remainders.{rem_same, rem_unique}
use Rattle.residues.specs.Classes.{LiesIn}
use Rattle.num_api.proofs.Parts.{of_two-some}
use Rattle.machine_nums.specs.MExprs.{MExprTree, Const, Read, Convert, Unary, Binary, type_of, untyped}
use Rattle.machine_nums.specs.Machine.{exact_value, machine_value}
use Rattle.machine_nums.specs.Fold.{IsFold, constant, left_factor, right_factor, sum, value}
use Rattle.machine_nums.proofs.ExprTypes.{wrapped_moves}
use Rattle.machine_nums.proofs.Results.{wrapped_some}

-- ---- remainders

pub multiple_from : (m n : ℤ) → pos 1 ≤ℤ m → int_rem_euclid n m ≡ pos 0 → IsMultiple m n
multiple_from m n one e = multiple_along m (n -ℤ pos 0) n (omega (arith, ints))
    (off_from_in (pos 0) m n (subst (λ (r : ℤ). InResidue (class_of r m) n) e (rem_same n m one)))

pub no_rest : (m n : ℤ) → pos 1 ≤ℤ m → IsMultiple m n → int_rem_euclid n m ≡ pos 0
no_rest m n one h = rem_unique n m (pos 0) one (in_from_off (pos 0) m n (multiple_along m n (n -ℤ pos 0) (omega (arith, ints)) h)) (omega (arith, ints))
    (omega (arith, ints))

pub zero_from : (r : ℤ) → FitsSigned w128 r → eqb (of_z w128 r) 0 ≡ true → r ≡ pos 0
zero_from r f e = sym (to_z-of_z w128 r f) ∙ ap (to_z w128) (eqb-true (of_z w128 r) 0 e)

pub zero_true : (r : ℤ) → eqb (of_z w128 r) 0 ≡ false → r ≡ pos 0 → ⊥
zero_true r e is = eqb-false (of_z w128 r) 0 e (ap (of_z w128) is)

-- ---- 1, 2, 4 and 8

pub by_one : (n : ℤ) → IsMultiple (pos 1) n
by_one n = (n, omega (arith, ints))

four_by_two : IsMultiple (pos 2) (pos 4)
four_by_two = (pos 2, omega (arith, ints))

eight_by_four : IsMultiple (pos 4) (pos 8)
eight_by_four = (pos 2, omega (arith, ints))

eight_by_two : IsMultiple (pos 2) (pos 8)
eight_by_two = (pos 4, omega (arith, ints))

along : (c d n : ℤ) → c ≡ d → IsMultiple d n → IsMultiple c n
along c d n e h = subst (λ (x : ℤ). IsMultiple x n) (sym e) h

back : (c d n : ℤ) → c ≡ d → IsMultiple c n → IsMultiple d n
back c d n e h = subst (λ (x : ℤ). IsMultiple x n) e h

pub divides_eight : (c : ℤ) → IsAlignment c → IsMultiple c (pos 8)
divides_eight c (inl e) = along c (pos 1) (pos 8) e (by_one (pos 8))
divides_eight c (inr (inl e)) = along c (pos 2) (pos 8) e eight_by_two
divides_eight c (inr (inr (inl e))) = along c (pos 4) (pos 8) e eight_by_four
divides_eight c (inr (inr (inr e))) = along c (pos 8) (pos 8) e (self_multiple (pos 8))

pub divides_four : (c n : ℤ) → IsAlignment c → IsMultiple c n → (IsMultiple (pos 8) n → ⊥) → IsMultiple c (pos 4)
divides_four c n (inl e) h k = along c (pos 1) (pos 4) e (by_one (pos 4))
divides_four c n (inr (inl e)) h k = along c (pos 2) (pos 4) e four_by_two
divides_four c n (inr (inr (inl e))) h k = along c (pos 4) (pos 4) e (self_multiple (pos 4))
divides_four c n (inr (inr (inr e))) h k = absurd (k (back c (pos 8) n e h))

pub divides_two : (c n : ℤ) → IsAlignment c → IsMultiple c n → (IsMultiple (pos 4) n → ⊥) → IsMultiple c (pos 2)
divides_two c n (inl e) h k = along c (pos 1) (pos 2) e (by_one (pos 2))
divides_two c n (inr (inl e)) h k = along c (pos 2) (pos 2) e (self_multiple (pos 2))
divides_two c n (inr (inr (inl e))) h k = absurd (k (back c (pos 4) n e h))
divides_two c n (inr (inr (inr e))) h k = absurd (k (multiple_trans (pos 4) (pos 8) n eight_by_four (back c (pos 8) n e h)))

pub divides_one : (c n : ℤ) → IsAlignment c → IsMultiple c n → (IsMultiple (pos 2) n → ⊥) → IsMultiple c (pos 1)
divides_one c n (inl e) h k = along c (pos 1) (pos 1) e (self_multiple (pos 1))
divides_one c n (inr (inl e)) h k = absurd (k (back c (pos 2) n e h))
divides_one c n (inr (inr (inl e))) h k = absurd (k (multiple_trans (pos 2) (pos 4) n four_by_two (back c (pos 4) n e h)))
divides_one c n (inr (inr (inr e))) h k = absurd (k (multiple_trans (pos 2) (pos 8) n eight_by_two (back c (pos 8) n e h)))

-- the lesser of two divides the greater
ordered : (a b c d k : ℤ) → a ≡ c → b ≡ d → d ≡ k *ℤ c → IsMultiple a b
ordered a b c d k e f g = subst (λ (x : ℤ). IsMultiple x b) (sym e) (subst (IsMultiple c) (sym f) (k, g))

pub lesser_divides : (a b : ℤ) → IsAlignment a → IsAlignment b → a ≤ℤ b → IsMultiple a b
lesser_divides a b (inl e) q h = subst (λ (x : ℤ). IsMultiple x b) (sym e) (by_one b)
lesser_divides a b (inr (inl e)) (inl f) h = absurd (omega (arith, ints))
lesser_divides a b (inr (inl e)) (inr (inl f)) h = ordered a b (pos 2) (pos 2) (pos 1) e f refl
lesser_divides a b (inr (inl e)) (inr (inr (inl f))) h = ordered a b (pos 2) (pos 4) (pos 2) e f refl
lesser_divides a b (inr (inl e)) (inr (inr (inr f))) h = ordered a b (pos 2) (pos 8) (pos 4) e f refl
lesser_divides a b (inr (inr (inl e))) (inl f) h = absurd (omega (arith, ints))
lesser_divides a b (inr (inr (inl e))) (inr (inl f)) h = absurd (omega (arith, ints))
lesser_divides a b (inr (inr (inl e))) (inr (inr (inl f))) h = ordered a b (pos 4) (pos 4) (pos 1) e f refl
lesser_divides a b (inr (inr (inl e))) (inr (inr (inr f))) h = ordered a b (pos 4) (pos 8) (pos 2) e f refl
lesser_divides a b (inr (inr (inr e))) (inl f) h = absurd (omega (arith, ints))
lesser_divides a b (inr (inr (inr e))) (inr (inl f)) h = absurd (omega (arith, ints))
lesser_divides a b (inr (inr (inr e))) (inr (inr (inl f))) h = absurd (omega (arith, ints))
lesser_divides a b (inr (inr (inr e))) (inr (inr (inr f))) h = ordered a b (pos 8) (pos 8) (pos 1) e f refl

pub is_positive : (c : ℤ) → IsAlignment c → (pos 1 ≤ℤ c) × (c ≤ℤ pos 8)
is_positive c (inl e) = (omega (arith, ints), omega (arith, ints))
is_positive c (inr (inl e)) = (omega (arith, ints), omega (arith, ints))
is_positive c (inr (inr (inl e))) = (omega (arith, ints), omega (arith, ints))
is_positive c (inr (inr (inr e))) = (omega (arith, ints), omega (arith, ints))

-- ---- wrapping

by_eight : (t : IntType) → IsMultiple (pos 8) (pos (2 ^ width t))
by_eight Char = (pos (2 ^ 5), omega (arith, ints))
by_eight SChar = (pos (2 ^ 5), omega (arith, ints))
by_eight UChar = (pos (2 ^ 5), omega (arith, ints))
by_eight Short = (pos (2 ^ 13), omega (arith, ints))
by_eight UShort = (pos (2 ^ 13), omega (arith, ints))
by_eight Int = (pos (2 ^ 29), omega (arith, ints))
by_eight UInt = (pos (2 ^ 29), omega (arith, ints))
by_eight Long = (pos (2 ^ 61), omega (arith, ints))
by_eight ULong = (pos (2 ^ 61), omega (arith, ints))
by_eight LLong = (pos (2 ^ 61), omega (arith, ints))
by_eight ULLong = (pos (2 ^ 61), omega (arith, ints))

-- wrapping keeps such a factor
pub wrapped_multiple : (t : IntType) (c n : ℤ) → IsAlignment c → IsMultiple c n → IsMultiple c (wrapped t n)
wrapped_multiple t c n one h =
    let count = multiple_trans c (pos 8) (pos (2 ^ width t)) (divides_eight c one) (by_eight t) in
    let moved = multiple_trans c (pos (2 ^ width t)) (wrapped t n -ℤ n) count (wrapped_moves t n) in
    multiple_along c _ (wrapped t n) (omega (arith, ints)) (multiple_add c (wrapped t n -ℤ n) n moved h)

pub value_multiple : (v : List ℤ) (e : MExprTree) (c n : ℤ) → IsAlignment c → ((m : ℤ) → exact_value v e ≡ Some m → IsMultiple c m)
    → machine_value v e ≡ Some n → IsMultiple c n
value_multiple v e c n one h q =
    let step = wrapped_some (type_of e) (exact_value v e) n q in
    subst (IsMultiple c) step.2 (wrapped_multiple (type_of e) c step.0 one (h step.0 step.1))

-- ---- constants

pub exact_const : (v : List ℤ) (t : IntType) (n m : ℤ) → exact_value v (Const t n) ≡ Some m → n ≡ m
exact_const v t n m q = cc

pub const_same : (t s : IntType) (n m : ℤ) → Const t n ≡ Const s m → n ≡ m
const_same t s n m q = cc

pub const_multiple : (v : List ℤ) (t : IntType) (m c n : ℤ) → IsAlignment c → IsMultiple c m → machine_value v (Const t m) ≡ Some n → IsMultiple c n
const_multiple v t m c n one h q = value_multiple v (Const t m) c n one (λ k r. subst (IsMultiple c) (exact_const v t m k r) h) q

-- ---- results

pub sum_multiple : (v : List ℤ) (t : IntType) (a b : MExprTree) (c n : ℤ) → ((m : ℤ) → machine_value v a ≡ Some m → IsMultiple c m)
    → ((m : ℤ) → machine_value v b ≡ Some m → IsMultiple c m)
    → exact_value v (Binary Add t a b) ≡ Some n → IsMultiple c n
sum_multiple v t a b c n h k q =
    let step = of_two-some (binary_value Add) (machine_value v a) (machine_value v b) n q in
    let same : step.0 +ℤ step.1 ≡ n = some_same (step.0 +ℤ step.1) n step.4 in
    subst (IsMultiple c) same (multiple_add c step.0 step.1 (h step.0 step.2) (k step.1 step.3))
  where
    some_same : (x y : ℤ) → Some x ≡ Some y → x ≡ y
    some_same x y e = cc

pub product_multiple : (v : List ℤ) (t : IntType) (a b : MExprTree) (c d f n : ℤ) → ((x y : ℤ) → IsMultiple d x → IsMultiple f y → IsMultiple c (x *ℤ y))
    → ((m : ℤ) → machine_value v a ≡ Some m → IsMultiple d m) → ((m : ℤ) → machine_value v b ≡ Some m → IsMultiple f m) → exact_value v
    (Binary Mul t a b) ≡ Some n → IsMultiple c n
product_multiple v t a b c d f n both h k q =
    let step = of_two-some (binary_value Mul) (machine_value v a) (machine_value v b) n q in
    let same : step.0 *ℤ step.1 ≡ n = some_same (step.0 *ℤ step.1) n step.4 in
    subst (IsMultiple c) same (both step.0 step.1 (h step.0 step.2) (k step.1 step.3))
  where
    some_same : (x y : ℤ) → Some x ≡ Some y → x ≡ y
    some_same x y e = cc

-- ---- forms

pub fold_const : (c : ℤ) (t : IntType) (n : ℤ) → IsFold c (Const t n) → IsMultiple c n
fold_const c t n (constant s m h) = h

pub fold_read : (c : ℤ) (x : ℕ) (t : IntType) → IsFold c (Read x t) → ⊥
fold_read c x t h = elim h [ ]

pub fold_convert : (c : ℤ) (t : IntType) (a : MExprTree) → IsFold c (Convert t a) → IsFold c a
fold_convert c t a (value s b h) = h

pub fold_unary : (c : ℤ) (op : NOp) (t : IntType) (a : MExprTree) → IsFold c (Unary op t a) → ⊥
fold_unary c op t a h = elim h [ ]

pub fold_sum : (c : ℤ) (t : IntType) (a b : MExprTree) → IsFold c (Binary Add t a b) → IsFold c a × IsFold c b
fold_sum c t a b (sum s p q h k) = (h, k)

pub fold_product : (c : ℤ) (t : IntType) (a b : MExprTree) (P : Type 0) → IsFold c (Binary Mul t a b)
    → ((s : IntType) (n : ℤ) → a ≡ Const s n → IsMultiple c n → P) → ((s : IntType) (n : ℤ) → b ≡ Const s n → IsMultiple c n → P) → P
fold_product c t a b P (left_factor s u n e m) f g = f u n refl m
fold_product c t a b P (right_factor s u e n m) f g = g u n refl m

pub fold_neither : (c : ℤ) (op : NOp) (t : IntType) (a b : MExprTree) → (op ≡ Add → ⊥) → (op ≡ Mul → ⊥) → IsFold c (Binary op t a b) → ⊥
fold_neither c op t a b f g (left_factor s u n e m) = g refl
fold_neither c op t a b f g (right_factor s u e n m) = g refl
fold_neither c op t a b f g (sum s p q h k) = f refl

-- the expression without types has the form too
pub fold_untyped : (c : ℤ) (e : MExprTree) → IsFold c e → folds.IsFold c (untyped e)
fold_untyped c e (constant t n h) = folds.constant n h
fold_untyped c e (left_factor t u n a h) = folds.left_factor n (untyped a) h
fold_untyped c e (right_factor t u a n h) = folds.right_factor (untyped a) n h
fold_untyped c e (sum t a b h k) = folds.sum (untyped a) (untyped b) (fold_untyped c a h) (fold_untyped c b k)
fold_untyped c e (value t a h) = fold_untyped c a h

-- what lies in the multiples of a number
pub fold_lies : (c d : ℤ) (r : Residue) → IsMultiple c d → LiesIn r (class_of (pos 0) d) → IsFoldResidue c r
fold_lies c d r h l = record {
  rem = multiple_trans c d r.rem h (multiple_along d (r.rem -ℤ pos 0) r.rem (omega (arith, ints)) (off_from_in (pos 0) d r.rem l.contains));
  modulus = multiple_trans c d r.modulus h l.divides;
}

pub multiple_in : (c n : ℤ) → IsMultiple c n → InResidue (class_of (pos 0) c) n
multiple_in c n h = in_from_off (pos 0) c n (multiple_along c n (n -ℤ pos 0) (omega (arith, ints)) h)
