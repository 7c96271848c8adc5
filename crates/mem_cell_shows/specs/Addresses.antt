-- Expressions whose values are pointers.
use Rattle.std.specs.Prelude.{ℤ, ◌≡◌, List, Some}
use Rattle.c_syntax.specs.declared.operator.TBinaryOp.{TBinaryOp}
use Rattle.c_syntax.specs.declared.operator.TBinaryOp.TheVariants as binaries
use Rattle.block_mem.specs.declared.types.Scalar.{Scalar}
use Rattle.block_mem.specs.declared.types.Scalar.TheVariants as scalars
use Rattle.block_mem.specs.declared.types.Value.{Value}
use Rattle.block_mem.specs.declared.types.Value.TheVariants as values
use Rattle.csharp.specs.Trees.{CsExprTree}
use Rattle.csharp.specs.States.{State, value_of}
use Rattle.mem_cell_exprs.specs.Exprs.{AreNumbered}

-- a pointer, or null
abbrev pub IsAddress : Value → Type 0
IsAddress (values.Int t n) = ⊥
IsAddress (values.Ptr p) = Unit {0}
IsAddress values.Null = Unit {0}

-- in each state whose temporaries have values of these types the expression, where it has a value, has a pointer
abbrev pub IsAddressFor : List Scalar → CsExprTree → Type 0
IsAddressFor types e = (v : List ℤ) (s : State) (u : Value) → AreNumbered types v s → value_of e s ≡ Some u → IsAddress u

abbrev pub pointer_type : Scalar
pointer_type = scalars.Pointer

-- the operator moves a pointer
abbrev pub Moves : TBinaryOp → Type 0
Moves (binaries.PointerPlusInt element) = Unit {0}
Moves (binaries.IntPlusPointer element) = Unit {0}
Moves (binaries.PointerMinusInt element) = Unit {0}
Moves op = ⊥
