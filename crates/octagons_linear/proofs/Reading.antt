-- Expressions and tests read as sums.
use Rattle.std.proofs.Common.{ℤ, pos, neg_ℤ, List, Option, None, Some, ◌≡◌, ◌+ℤ◌, ◌-ℤ◌, ◌≤ℤ◌, ◌<ℤ◌, refl, ap, sym, subst, ◌∙◌, arith, true, false, Bool, not, IsTrue}
use Rattle.std.specs.Prelude.{IfSome}
use Rattle.std.proofs.lemmas.Int.{ints}
use Rattle.num_api.specs.declared.expr.NOp.{NOp}
use Rattle.num_api.specs.declared.expr.NOp.TheVariants.{Not, Add, Sub}
use Rattle.num_api.specs.Exprs.{NExprTree, Unary, Binary}
use Rattle.num_api.specs.Value.{value_of, unary_value, binary_value, has_truth, truth}
use Rattle.num_api.specs.Plain.{Standing, less, at_most, greater, at_least, same, other, standing}
use Rattle.num_api.specs.Standings.{Stands}
use Rattle.num_api.proofs.Parts.{of_one-some, of_two-some}
use Rattle.num_api.proofs.Truths.{op_stands, truth_is, turned_truth}
use Rattle.std.specs.Ordering.{int_eq}
use Rattle.octagons_linear.specs.declared.forms.Linear.{Linear}
use Rattle.octagons_linear.specs.declared.limits.Limits.{Limits}
use Rattle.octagons_linear.specs.Forms.{linear_value, IsLinear, Keeps}

pub some-map : {A : Type 0} (P Q : A → Type 0) (o : Option A) → IfSome o P → ((a : A) → P a → Q a) → IfSome o Q
some-map P Q None h f = tt
some-map P Q (Some a) h f = f a h

-- the expression of an operator
pub linear-unary : (e a : NExprTree) (op : NOp) (l : Linear) (r : Option Linear) → e ≡ Unary op a → IsLinear a l → IfSome r (λ k. (v : List ℤ) (n : ℤ) → unary_value op (linear_value v l) ≡ Some n → n ≡ linear_value v k) → IfSome r (IsLinear e)
linear-unary e a op l r is f h = some-map _ _ r h (λ k s v n p.
    let o = of_one-some (unary_value op) (value_of v a) n (subst (λ (t : NExprTree). value_of v t ≡ Some n) is p) in
    s v n (subst (λ (x : ℤ). unary_value op x ≡ Some n) (f v o.0 o.1) o.2))

pub linear-binary : (e a b : NExprTree) (op : NOp) (l m : Linear) (r : Option Linear) → e ≡ Binary op a b → IsLinear a l → IsLinear b m → IfSome r (λ k. (v : List ℤ) (n : ℤ) → binary_value op (linear_value v l) (linear_value v m) ≡ Some n → n ≡ linear_value v k) → IfSome r (IsLinear e)
linear-binary e a b op l m r is f g h = some-map _ _ r h (λ k s v n p.
    let o = of_two-some (binary_value op) (value_of v a) (value_of v b) n (subst (λ (t : NExprTree). value_of v t ≡ Some n) is p) in
    s v n (subst (λ (x : ℤ). binary_value op x (linear_value v m) ≡ Some n) (f v o.0 o.2) (subst (λ (y : ℤ). binary_value op o.0 y ≡ Some n) (g v o.1 o.3) o.4)))

added : (r : Option Linear) (l m : Linear) → IfSome r (λ k. (v : List ℤ) → linear_value v k ≡ linear_value v l +ℤ linear_value v m) → IfSome r (λ k. (v : List ℤ) (n : ℤ) → binary_value Add (linear_value v l) (linear_value v m) ≡ Some n → n ≡ linear_value v k)
added r l m h = some-map _ _ r h (λ k s v n p. let w = s v in let z : linear_value v l +ℤ linear_value v m ≡ n = cc in sym z ∙ sym w)

minus : (x y : ℤ) → (x -ℤ y) ≡ (x +ℤ neg_ℤ y)
minus x y = omega (arith, ints)

subtracted : (r : Option Linear) (l m : Linear) → IfSome r (λ k. (v : List ℤ) → linear_value v k ≡ linear_value v l +ℤ neg_ℤ (linear_value v m)) → IfSome r (λ k. (v : List ℤ) (n : ℤ) → binary_value Sub (linear_value v l) (linear_value v m) ≡ Some n → n ≡ linear_value v k)
subtracted r l m h = some-map _ _ r h (λ k s v n p. let w = s v in let z : linear_value v l -ℤ linear_value v m ≡ n = cc in sym z ∙ (minus (linear_value v l) (linear_value v m) ∙ sym w))

pub of-added : (op : NOp) (l m : Linear) (r : Option Linear) → op ≡ Add → IfSome r (λ k. (v : List ℤ) → linear_value v k ≡ linear_value v l +ℤ linear_value v m) → IfSome r (λ k. (v : List ℤ) (n : ℤ) → binary_value op (linear_value v l) (linear_value v m) ≡ Some n → n ≡ linear_value v k)
of-added op l m r e h = subst (λ (o : NOp). IfSome r (λ k. (v : List ℤ) (n : ℤ) → binary_value o (linear_value v l) (linear_value v m) ≡ Some n → n ≡ linear_value v k)) (sym e) (added r l m h)

pub of-subtracted : (op : NOp) (l m : Linear) (r : Option Linear) → op ≡ Sub → IfSome r (λ k. (v : List ℤ) → linear_value v k ≡ linear_value v l +ℤ neg_ℤ (linear_value v m)) → IfSome r (λ k. (v : List ℤ) (n : ℤ) → binary_value op (linear_value v l) (linear_value v m) ≡ Some n → n ≡ linear_value v k)
of-subtracted op l m r e h = subst (λ (o : NOp). IfSome r (λ k. (v : List ℤ) (n : ℤ) → binary_value o (linear_value v l) (linear_value v m) ≡ Some n → n ≡ linear_value v k)) (sym e) (subtracted r l m h)

stands-shifted : (how : Standing) (x y d : ℤ) → d ≡ x +ℤ neg_ℤ y → Stands how x y → Stands how d (pos 0)
stands-shifted less x y d e s = omega (arith, ints)
stands-shifted at_most x y d e s = omega (arith, ints)
stands-shifted greater x y d e s = omega (arith, ints)
stands-shifted at_least x y d e s = omega (arith, ints)
stands-shifted same x y d e s = omega (arith, ints)
stands-shifted other x y d e s = λ z. s (omega (arith, ints))

-- two sides that stand so have a difference that stands so to 0
pub sides-stand : (a b : NExprTree) (how : Standing) (l m d : Linear) (k : Limits) → IsLinear a l → IsLinear b m → ((v : List ℤ) → linear_value v d ≡ linear_value v l +ℤ neg_ℤ (linear_value v m))
    → ((v : List ℤ) → Stands how (linear_value v d) (pos 0) → Keeps v k)
    → (v : List ℤ) (x y : ℤ) → value_of v a ≡ Some x → value_of v b ≡ Some y → Stands how x y → Keeps v k
sides-stand a b how l m d k f g h keeps v x y p q s =
    keeps v (stands-shifted how (linear_value v l) (linear_value v m) (linear_value v d) (h v) (subst (λ (i : ℤ). Stands how i (linear_value v m)) (f v x p) (subst (Stands how x) (g v y q) s)))

-- what a comparison says by its sides
pub compared-limits : (e a b : NExprTree) (op : NOp) (wanted : Bool) (how : Standing) (l : Limits) → e ≡ Binary op a b → standing op wanted ≡ Some how
    → ((v : List ℤ) (x y : ℤ) → value_of v a ≡ Some x → value_of v b ≡ Some y → Stands how x y → Keeps v l)
    → (v : List ℤ) (n : ℤ) → value_of v e ≡ Some n → IsTrue (has_truth wanted n) → Keeps v l
compared-limits e a b op wanted how l is st f v n p t =
    let o = of_two-some (binary_value op) (value_of v a) (value_of v b) n (subst (λ (t : NExprTree). value_of v t ≡ Some n) is p) in
    f v o.0 o.1 o.2 o.3 (op_stands op wanted how o.0 o.1 n st o.4 t)

-- a negation says what its part says with the other truth
pub negated-limits : (e a : NExprTree) (wanted : Bool) (l : Limits) → e ≡ Unary Not a
    → ((v : List ℤ) (n : ℤ) → value_of v a ≡ Some n → IsTrue (has_truth (not wanted) n) → Keeps v l)
    → (v : List ℤ) (n : ℤ) → value_of v e ≡ Some n → IsTrue (has_truth wanted n) → Keeps v l
negated-limits e a wanted l is f v n p t =
    let o = of_one-some (unary_value Not) (value_of v a) n (subst (λ (t : NExprTree). value_of v t ≡ Some n) is p) in
    f v o.0 o.1 (turned_truth wanted o.0 (truth_is (int_eq o.0 (pos 0)) wanted n o.2 t))

over-zero : (x y : ℤ) → pos 0 <ℤ x → y ≡ pos 1 +ℤ neg_ℤ x → y ≤ℤ pos 0
over-zero x y l e = omega (arith, ints)

-- a sum above 0
pub greater-limits : (l : Linear) (o : Option Linear) → IfSome o (λ k. (v : List ℤ) → linear_value v k ≡ pos 1 +ℤ neg_ℤ (linear_value v l)) → (v : List ℤ) → pos 0 <ℤ linear_value v l → IfSome o (λ k. linear_value v k ≤ℤ pos 0)
greater-limits l o h v s = some-map _ _ o h (λ k f. over-zero (linear_value v l) (linear_value v k) s (f v))

pub negated-two : (a b c x y z n : ℤ) → a ≡ neg_ℤ x → b ≡ neg_ℤ y → c ≡ neg_ℤ z → n ≡ ((x +ℤ y) +ℤ z) → ((a +ℤ b) +ℤ c) ≡ neg_ℤ n
negated-two a b c x y z n e f g h = omega (arith, ints)
