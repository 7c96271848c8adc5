-- When an expression of numbers has the exact number at which a check of a result looks.
use Rattle.std.specs.Prelude.{ℤ, pos, ◌≡◌, ◌≢◌, List, Some}
use Rattle.c_syntax.specs.declared.operator.Arithmetic.{Arithmetic}
use Rattle.c_syntax.specs.Operand.{Operand, Number}
use Rattle.block_mem.specs.declared.types.Scalar.{Scalar}
use Rattle.c_values.specs.Numbers.{exact_arithmetic}
use Rattle.num_api.specs.declared.expr.NOp.{NOp}
use Rattle.num_api.specs.Value.{binary_value}
use Rattle.machine_nums.specs.MExprs.{MExprTree}
use Rattle.machine_nums.specs.Machine.{exact_value}
use Rattle.machine_nums.specs.Laws.{IsDivision}
use Rattle.csharp.specs.Trees.{CsExprTree}
use Rattle.csharp.specs.States.{State, exact_of}
use Rattle.mem_cell_exprs.specs.Exprs.{AreNumbered}

-- the operator gives the exact number, but for a divisor of 0
abbrev pub IsExactOperator : Arithmetic → NOp → Type 0
IsExactOperator op nop = (a b : ℤ) → (IsDivision op → b ≢ pos 0) → binary_value nop a b ≡ Some (exact_arithmetic op a b)

-- in all states whose temporaries have these numbers, the exact number is that of the outermost node
abbrev pub IsExactFor : List Scalar → CsExprTree → MExprTree → Type 0
IsExactFor types e m = (v : List ℤ) (s : State) → AreNumbered types v s → (x : Operand) → exact_of e s ≡ Some x → (n : ℤ) × (x ≡ Number n) × (exact_value v m ≡ Some n)
