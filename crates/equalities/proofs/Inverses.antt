-- Sums and differences solved for an operand.
use Rattle.std.proofs.Common.{arith, ℕ, ℤ, List, ◌≡◌, sym, subst, ap, ◌∙◌, Option, Some, None, Ok, Err}
use Rattle.std.specs.Prelude.{Result, OnOk}
use Rattle.std.specs.Prelude.{◌+ℤ◌, ◌-ℤ◌}
use Rattle.std.proofs.lemmas.Int.{ints}
use Rattle.std.proofs.lemmas.Option.{none-some, same_Some}
use Rattle.ext_int.specs.Valuation.{value_at}
use Rattle.num_api.specs.declared.expr.NOp.{NOp}
use Rattle.num_api.specs.declared.expr.NOp.TheVariants.{Add, Sub}
use Rattle.num_api.specs.declared.expr.NExpr.{NExpr}
use Rattle.num_api.specs.Exprs.{NExprTree, Read, Binary, nexpr_tree}
use Rattle.num_api.specs.Value.{value_of, of_two, binary_value}
use Rattle.equalities.specs.Pairs.{variable_in}
use Rattle.equalities.proofs.Lemmas.{read_of}

pub sum_left : (o : Option ℤ) (n m : ℤ) → of_two (binary_value Add) (Some n) o ≡ Some m → of_two (binary_value Sub) (Some m) o ≡ Some n
sum_left None n m e = absurd (none-some m e)
sum_left (Some k) n m e =
    let is : (n +ℤ k) ≡ m = same_Some (n +ℤ k) m e in
    ap (λ (z : ℤ). Some z) (let back : (m -ℤ k) ≡ n = omega (arith, ints) in back)

pub difference_left : (o : Option ℤ) (n m : ℤ) → of_two (binary_value Sub) (Some n) o ≡ Some m → of_two (binary_value Add) (Some m) o ≡ Some n
difference_left None n m e = absurd (none-some m e)
difference_left (Some k) n m e =
    let is : (n -ℤ k) ≡ m = same_Some (n -ℤ k) m e in
    ap (λ (z : ℤ). Some z) (let back : (m +ℤ k) ≡ n = omega (arith, ints) in back)

pub sum_right : (o : Option ℤ) (n m : ℤ) → of_two (binary_value Add) o (Some n) ≡ Some m → of_two (binary_value Sub) (Some m) o ≡ Some n
sum_right None n m e = absurd (none-some m e)
sum_right (Some k) n m e =
    let is : (k +ℤ n) ≡ m = same_Some (k +ℤ n) m e in
    ap (λ (z : ℤ). Some z) (let back : (m -ℤ k) ≡ n = omega (arith, ints) in back)

pub difference_right : (o : Option ℤ) (n m : ℤ) → of_two (binary_value Sub) o (Some n) ≡ Some m → of_two (binary_value Sub) o (Some m) ≡ Some n
difference_right None n m e = absurd (none-some m e)
difference_right (Some k) n m e =
    let is : (k -ℤ n) ≡ m = same_Some (k -ℤ n) m e in
    ap (λ (z : ℤ). Some z) (let back : (k -ℤ m) ≡ n = omega (arith, ints) in back)

-- ---- whole equalities

-- x = a op b, where a is a variable, solved for it
pub solved_left : (op back : NOp) → ((o : Option ℤ) (n m : ℤ) → of_two (binary_value op) (Some n) o ≡ Some m → of_two (binary_value back) (Some m) o ≡ Some n) → (v : List ℤ) (given : NOp) (x y : ℕ) (a b s t : NExprTree) → given ≡ op → variable_in a ≡ Some y → s ≡ Read x → t ≡ b → value_of v (Binary given a b) ≡ Some (value_at v x) → value_of v (Binary back s t) ≡ Some (value_at v y)
solved_left op back law v given x y a b s t o i j k e =
    let whole : value_of v (Binary op (Read y) b) ≡ Some (value_at v x) = subst (λ (p : NOp). value_of v (Binary p (Read y) b) ≡ Some (value_at v x)) o (subst (λ (r : NExprTree). value_of v (Binary given r b) ≡ Some (value_at v x)) (read_of a y i) e) in
    subst (λ (r : NExprTree). value_of v (Binary back r t) ≡ Some (value_at v y)) (sym j)
    (subst (λ (r : NExprTree). value_of v (Binary back (Read x) r) ≡ Some (value_at v y)) (sym k) (law (value_of v b) (value_at v y) (value_at v x) whole))

-- x = a op b, where b is a variable, solved for it
right_whole : (op : NOp) (v : List ℤ) (given : NOp) (x y : ℕ) (a b : NExprTree) → given ≡ op → variable_in b ≡ Some y → value_of v (Binary given a b) ≡ Some (value_at v x) → value_of v (Binary op a (Read y)) ≡ Some (value_at v x)
right_whole op v given x y a b o i e =
    subst (λ (p : NOp). value_of v (Binary p a (Read y)) ≡ Some (value_at v x)) o (subst (λ (r : NExprTree). value_of v (Binary given a r) ≡ Some (value_at v x)) (read_of b y i) e)

pub solved_addend : (v : List ℤ) (given : NOp) (x y : ℕ) (a b s t : NExprTree) → given ≡ Add → variable_in b ≡ Some y → s ≡ Read x → t ≡ a → value_of v (Binary given a b) ≡ Some (value_at v x) → value_of v (Binary Sub s t) ≡ Some (value_at v y)
solved_addend v given x y a b s t o i j k e =
    subst (λ (r : NExprTree). value_of v (Binary Sub r t) ≡ Some (value_at v y)) (sym j)
    (subst (λ (r : NExprTree). value_of v (Binary Sub (Read x) r) ≡ Some (value_at v y)) (sym k) (sum_right (value_of v a) (value_at v y) (value_at v x) (right_whole Add v given x y a b o i e)))

pub solved_subtrahend : (v : List ℤ) (given : NOp) (x y : ℕ) (a b s t : NExprTree) → given ≡ Sub → variable_in b ≡ Some y → s ≡ Read x → t ≡ a → value_of v (Binary given a b) ≡ Some (value_at v x) → value_of v (Binary Sub t s) ≡ Some (value_at v y)
solved_subtrahend v given x y a b s t o i j k e =
    subst (λ (r : NExprTree). value_of v (Binary Sub t r) ≡ Some (value_at v y)) (sym j)
    (subst (λ (r : NExprTree). value_of v (Binary Sub r (Read x)) ≡ Some (value_at v y)) (sym k) (difference_right (value_of v a) (value_at v y) (value_at v x) (right_whole Sub v given x y a b o i e)))

-- ---- forms

-- an operator over other expressions of the same trees
pub at_parts : (v : List ℤ) (op : NOp) (a b s t : NExpr) (o : Option ℤ) → s ≡ a → t ≡ b → value_of v (Binary op (nexpr_tree a) (nexpr_tree b)) ≡ o → value_of v (Binary op (nexpr_tree s) (nexpr_tree t)) ≡ o
at_parts v op a b s t o i j e =
    ap (λ (r : NExpr). value_of v (Binary op (nexpr_tree r) (nexpr_tree t))) i ∙ ap (λ (r : NExpr). value_of v (Binary op (nexpr_tree a) (nexpr_tree r))) j ∙ e

pub on_ok : {T E : Type 0} (r : Result T E) {P Q : Type 0} → OnOk r P → (P → Q) → OnOk r Q
on_ok (Ok t) h f = f h
on_ok (Err e) h f = tt
