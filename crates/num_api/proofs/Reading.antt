-- Expressions that do not read a variable, and expressions that are one.
use Rattle.std.proofs.Common.{rules, ℕ, ℤ, List, ◌≡◌, refl, sym, ap, ◌∙◌, Bool, true, false, Some}
use Rattle.std.specs.Prelude.{nat_eq, ◌||◌, ◌&&◌}
use Rattle.std.specs.Ordering.{int_eq}
use Rattle.std.proofs.lemmas.Bool.{eqb-true, eqb-false, true≢false, false≢true}
use Rattle.std.proofs.lemmas.Bool.Decides.{Decides-int_eq}
use Rattle.num_api.specs.Valuation.{SetTo}
use Rattle.num_api.specs.declared.expr.NOp.{NOp}
use Rattle.num_api.specs.Exprs.{NExprTree, Const, Read, Unary, Binary}
use Rattle.num_api.specs.Value.{value_of, of_one, of_two, unary_value, binary_value}
use Rattle.num_api.specs.Codes.{op_of, op_back}
use Rattle.num_api.specs.Reading.{reads, op_number, is_same}

-- ---- truth values

or_false : (a b : Bool) → (a || b) ≡ false → (a ≡ false) × (b ≡ false)
or_false false b e = (refl, e)
or_false true b e = absurd (true≢false e)

and_true : (a b : Bool) → (a && b) ≡ true → (a ≡ true) × (b ≡ true)
and_true true b e = (refl, e)
and_true false b e = absurd (false≢true e)

-- ---- two parts at once

cong : {A B C : Type 0} (f : A → B → C) {a a' : A} {b b' : B} → a ≡ a' → b ≡ b' → f a b ≡ f a' b'
cong f {a} {a'} {b} {b'} e h = ap (λ t. f t b) e ∙ ap (f a') h

-- ---- values

-- an expression that does not read the variable keeps its value
pub value_apart : (x : ℕ) (n : ℤ) (v w : List ℤ) (t : NExprTree) → SetTo x n v w → reads x t ≡ false → value_of w t ≡ value_of v t
value_apart x n v w (Const m) s f = refl
value_apart x n v w (Read y) s f = ap (λ (k : ℤ). Some k) (s.others y (eqb-false y x f))
value_apart x n v w (Unary op a) s f = ap (of_one (unary_value op)) (value_apart x n v w a s f)
value_apart x n v w (Binary op a b) s f =
    let both = or_false (reads x a) (reads x b) f in
    cong (of_two (binary_value op)) (value_apart x n v w a s both.0) (value_apart x n v w b s both.1)

-- ---- trees

int_eq_true : (n m : ℤ) → int_eq n m ≡ true → n ≡ m
int_eq_true n m e = search (rules, Decides-int_eq n m, e)

same_op : (p q : NOp) → nat_eq (op_number p) (op_number q) ≡ true → p ≡ q
same_op p q e = sym (op_back p) ∙ ap op_of (eqb-true (op_number p) (op_number q) e) ∙ op_back q

-- the test on trees tells that they are one
pub same_tree : (s t : NExprTree) → is_same s t ≡ true → s ≡ t
same_tree (Const n) (Const m) e = ap Const (int_eq_true n m e)
same_tree (Const n) (Read y) e = absurd (false≢true e)
same_tree (Const n) (Unary op b) e = absurd (false≢true e)
same_tree (Const n) (Binary op b d) e = absurd (false≢true e)
same_tree (Read x) (Const m) e = absurd (false≢true e)
same_tree (Read x) (Read y) e = ap Read (eqb-true x y e)
same_tree (Read x) (Unary op b) e = absurd (false≢true e)
same_tree (Read x) (Binary op b d) e = absurd (false≢true e)
same_tree (Unary op a) (Const m) e = absurd (false≢true e)
same_tree (Unary op a) (Read y) e = absurd (false≢true e)
same_tree (Unary op a) (Unary op' b) e =
    let both = and_true _ _ e in
    cong Unary (same_op op op' both.0) (same_tree a b both.1)
same_tree (Unary op a) (Binary op' b d) e = absurd (false≢true e)
same_tree (Binary op a c) (Const m) e = absurd (false≢true e)
same_tree (Binary op a c) (Read y) e = absurd (false≢true e)
same_tree (Binary op a c) (Unary op' b) e = absurd (false≢true e)
same_tree (Binary op a c) (Binary op' b d) e =
    let both = and_true _ _ e in
    let parts = and_true _ _ both.1 in
    ap (λ (o : NOp). Binary o a c) (same_op op op' both.0) ∙ cong (Binary op') (same_tree a b parts.0) (same_tree c d parts.1)
