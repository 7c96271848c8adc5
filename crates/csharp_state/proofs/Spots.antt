-- Where a pointer points that an operator gives.
use Rattle.std.proofs.Common.{◌≡◌, Option, Some, None, refl, sym, ap, ◌∙◌}
use Rattle.std.specs.Prelude.{option_map, option_and_then}
use Rattle.c_syntax.specs.declared.alarm.Spot.{Spot}
use Rattle.c_syntax.specs.declared.operator.TBinaryOp.{TBinaryOp}
use Rattle.c_syntax.specs.Operand.{Operand, Point}
use Rattle.block_mem.specs.declared.types.Value.{Value}
use Rattle.c_values.specs.Operators.{binary_result}
use Rattle.c_values.specs.Places.{ObjectMemory, point, spot}
use Rattle.csharp.specs.Trees.{CsExprTree, Binary}
use Rattle.csharp.specs.States.{State, if_taken, value_of}

pointed : (m : ObjectMemory) (o : Option Value) → option_map Point (option_and_then (spot m) o) ≡ option_and_then (point m) o
pointed m None = refl
pointed m (Some v) = refl

pub moved_point : (m : ObjectMemory) (op : TBinaryOp) (e f : CsExprTree) (s : State) (v u : Value) (o : Option Spot)
    → value_of e s ≡ Some v → value_of f s ≡ Some u → o ≡ option_and_then (spot m) (if_taken op (binary_result op) v u)
    → option_map Point o ≡ option_and_then (point m) (value_of (Binary op e f) s)
moved_point m op e f s v u o first second is =
    let value : value_of (Binary op e f) s ≡ if_taken op (binary_result op) v u =
    ap (λ (a : Option Value). option_and_then (λ w. option_and_then (if_taken op (binary_result op) w) (value_of f s)) a) first
    ∙ ap (λ (b : Option Value). option_and_then (if_taken op (binary_result op) v) b) second in
    ap (option_map Point) is ∙ pointed m (if_taken op (binary_result op) v u) ∙ ap (option_and_then (point m)) (sym value)
