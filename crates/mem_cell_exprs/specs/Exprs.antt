-- When an expression of numbers has the value of an expression, and when a set and an offset are those of a pointer.
use Rattle.std.specs.Prelude.{ℤ, ℕ, ◌≡◌, List, Some, slice_get}
use Rattle.ext_int.specs.Valuation.{value_at}
use Rattle.block_mem.specs.declared.types.Scalar.{Scalar}
use Rattle.block_mem.specs.declared.types.Value.{Value}
use Rattle.block_mem.specs.declared.types.Value.TheVariants as values
use Rattle.block_mem.specs.Bytes.{IsOf}
use Rattle.machine_nums.specs.MExprs.{MExprTree, type_of}
use Rattle.machine_nums.specs.Machine.{machine_value}
use Rattle.csharp.specs.Trees.{CsExprTree}
use Rattle.csharp.specs.States.{State, value_of}
use Rattle.mem_cell_bytes.specs.Cells.{number_of, temp_var}

-- the value, where there is one, is an integer of the type of the numbers, and theirs
abbrev pub IsNumberOf : State → List ℤ → CsExprTree → MExprTree → Type 0
IsNumberOf s v e m = (u : Value) → value_of e s ≡ Some u → (n : ℤ) × (u ≡ values.Int (type_of m) n) × (machine_value v m ≡ Some n)

-- temporaries have values of these types, and the valuation has their numbers
pub record AreNumbered (types : List Scalar) (v : List ℤ) (s : State) : Type 0 where
  pub typed : (d : ℕ) (ty : Scalar) (u : Value) → slice_get types d ≡ Some ty → slice_get s.temps d ≡ Some u → IsOf ty u
  pub number : (d : ℕ) (u : Value) → slice_get s.temps d ≡ Some u → value_at v (temp_var d) ≡ number_of u

-- in all such states the numbers are those of the expression
abbrev pub IsNumberFor : List Scalar → CsExprTree → MExprTree → Type 0
IsNumberFor types e m = (v : List ℤ) (s : State) → AreNumbered types v s → IsNumberOf s v e m
