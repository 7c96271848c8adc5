-- What the truth of a test says of its parts.
use Rattle.std.proofs.Common.{ℤ, pos, List, ◌≡◌, Some, Bool}
use Rattle.std.specs.Prelude.{not, IsTrue}
use Rattle.std.specs.Ordering.{int_eq}
use Rattle.num_api.specs.declared.expr.NOp.{NOp}
use Rattle.num_api.specs.declared.expr.NOp.TheVariants.{Not}
use Rattle.num_api.specs.Exprs.{NExprTree, Unary, Binary}
use Rattle.num_api.specs.Plain.{Standing, standing}
use Rattle.num_api.specs.Standings.{Stands}
use Rattle.num_api.specs.Value.{value_of, unary_value, binary_value, has_truth}
use Rattle.num_api.proofs.Parts.{of_one-some, of_two-some}
use Rattle.num_api.proofs.Truths.{turned_truth, truth_is, op_stands}

-- what is denied has the other truth
pub denied : (v : List ℤ) (a : NExprTree) (wanted : Bool) (n : ℤ) → value_of v (Unary Not a) ≡ Some n → IsTrue (has_truth wanted n) → (m : ℤ) × (value_of v a ≡ Some m) × IsTrue (has_truth (not wanted) m)
denied v a wanted n e h =
    let part = of_one-some (unary_value Not) (value_of v a) n e in
    (part.0, part.1, turned_truth wanted part.0 (truth_is (int_eq part.0 (pos 0)) wanted n part.2 h))

-- the sides of a comparison have numbers that stand so
pub compared_sides : (v : List ℤ) (op : NOp) (a b : NExprTree) (wanted : Bool) (how : Standing) (n : ℤ) → standing op wanted ≡ Some how → value_of v (Binary op a b) ≡ Some n → IsTrue (has_truth wanted n) → (x : ℤ) × (y : ℤ) × (value_of v a ≡ Some x) × (value_of v b ≡ Some y) × Stands how x y
compared_sides v op a b wanted how n s e h =
    let parts = of_two-some (binary_value op) (value_of v a) (value_of v b) n e in
    (parts.0, parts.1, parts.2, parts.3, op_stands op wanted how parts.0 parts.1 n s parts.4 h)
