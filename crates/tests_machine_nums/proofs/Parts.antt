-- Values of expressions, by those of their parts.
use Rattle.std.proofs.Common.{◌≡◌, ℤ, List, Some}
use Rattle.num_api.specs.declared.expr.NOp.{NOp}
use Rattle.num_api.specs.Exprs.{NExprTree, Unary, Binary}
use Rattle.num_api.specs.Value.{value_of, unary_value, binary_value}
use Rattle.num_api.proofs.Parts.{of_one-some, of_two-some}

pub one_part : (A R : ℤ → Type 0) (v : List ℤ) (op : NOp) (a : NExprTree) (n : ℤ) → ((x : ℤ) → value_of v a ≡ Some x → A x)
    → ((x m : ℤ) → A x → unary_value op x ≡ Some m → R m) → value_of v (Unary op a) ≡ Some n → R n
one_part A R v op a n held step e =
    let part = of_one-some (unary_value op) (value_of v a) n e in
    step part.0 n (held part.0 part.1) part.2

pub two_parts : (A B R : ℤ → Type 0) (v : List ℤ) (op : NOp) (a b : NExprTree) (n : ℤ) → ((x : ℤ) → value_of v a ≡ Some x → A x)
    → ((y : ℤ) → value_of v b ≡ Some y → B y) → ((x y m : ℤ) → A x → B y → binary_value op x y ≡ Some m → R m) → value_of v (Binary op a b) ≡ Some n → R n
two_parts A B R v op a b n left right step e =
    let parts = of_two-some (binary_value op) (value_of v a) (value_of v b) n e in
    step parts.0 parts.1 n (left parts.0 parts.2) (right parts.1 parts.3) parts.4
