-- What work takes off the stack, and operators of the types that they are given.
use Rattle.std.specs.Prelude.{ℕ, ◌≡◌, List, [], ◌∷◌, Option, Some, None}
use Rattle.c_syntax_written.specs.declared.place.Pos.{Pos}
use Rattle.c_syntax_written.specs.declared.int_type.IntType.{IntType}
use Rattle.c_syntax.specs.declared.operator.Arithmetic.{Arithmetic}
use Rattle.c_syntax.specs.declared.operator.Shift.{Shift}
use Rattle.c_syntax.specs.declared.operator.Comparison.{Comparison}
use Rattle.c_syntax.specs.declared.operator.TUnaryOp.{TUnaryOp}
use Rattle.c_syntax.specs.declared.operator.TUnaryOp.TheVariants as unaries
use Rattle.c_syntax.specs.declared.operator.TBinaryOp.{TBinaryOp}
use Rattle.c_syntax.specs.declared.operator.TBinaryOp.TheVariants as binaries
use Rattle.c_syntax.specs.Types.{CTypeTree, Struct}
use Rattle.block_mem.specs.declared.types.Scalar.{Scalar}
use Rattle.block_mem.specs.declared.types.Scalar.TheVariants as scalars
use Rattle.block_mem.specs.declared.types.Value.{Value}
use Rattle.block_mem.specs.Bytes.{IsOf}
use Rattle.block_mem.specs.Proper.{IsMade}
use Rattle.c_values.specs.declared.values.Given.TheVariants as givens
use Rattle.c_values.specs.Typed.{IsElement}
use Rattle.c_values.specs.Values.{scalar_of}
use Rattle.c_steps.specs.States.{Held, Plain, Struct as Bytes}

-- a value of a scalar type; a struct, by the place of its bytes; or whatever is there, which nothing but a drop and a conversion to void take
pub data Want : Type 0 where
  Of : Scalar → Want
  OfStruct : Want
  Anything : Want

-- what a value of a type is taken as
abbrev scalar_want : Option Scalar → Want
scalar_want None = Anything
scalar_want (Some ty) = Of ty

abbrev pub want_of : CTypeTree → Want
want_of (Struct n) = OfStruct
want_of ty = scalar_want (scalar_of ty)

-- what is held is what is wanted, in a memory of so many blocks
pub data HasWant : ℕ → Want → Held → Type 0 where
  is_value : {n : ℕ} {ty : Scalar} {v : Value} → IsOf ty v → IsMade n v → HasWant n (Of ty) (Plain (givens.Value v))
  is_struct : {n : ℕ} {at : Pos} {v : Value} → IsOf scalars.Pointer v → IsMade n v → HasWant n OfStruct (Bytes at v)
  is_any : {n : ℕ} {x : Held} → HasWant n Anything x

-- the stack has what is wanted, the first on top
pub data Stacked : ℕ → List Want → List Held → Type 0 where
  bottom : {n : ℕ} → Stacked n [] []
  on_top : {n : ℕ} {want : Want} {x : Held} {wants : List Want} {s : List Held}
      → HasWant n want x → Stacked n wants s → Stacked n (want ∷ wants) (x ∷ s)

-- an operator takes operands of these types
pub data Operates : TBinaryOp → Scalar → Scalar → Type 0 where
  arithmetic : {op : Arithmetic} {t : IntType} → Operates (binaries.Arithmetic op t) (scalars.Int t) (scalars.Int t)
  shift : {way : Shift} {t u : IntType} → Operates (binaries.Shift way t) (scalars.Int t) (scalars.Int u)
  compare_ints : {c : Comparison} {t : IntType} → Operates (binaries.CompareInts c t) (scalars.Int t) (scalars.Int t)
  compare_pointers : {c : Comparison} → Operates (binaries.ComparePointers c) scalars.Pointer scalars.Pointer
  plus_int : {element : ℕ} {u : IntType} → IsElement element → Operates (binaries.PointerPlusInt element) scalars.Pointer (scalars.Int u)
  int_plus : {element : ℕ} {u : IntType} → IsElement element → Operates (binaries.IntPlusPointer element) (scalars.Int u) scalars.Pointer
  minus_int : {element : ℕ} {u : IntType} → IsElement element → Operates (binaries.PointerMinusInt element) scalars.Pointer (scalars.Int u)
  difference : {element : ℕ} → IsElement element → Operates (binaries.PointerMinusPointer element) scalars.Pointer scalars.Pointer

abbrev pub OperatesOn : TUnaryOp → Scalar → Type 0
OperatesOn (unaries.Plus t) ty = ty ≡ scalars.Int t
OperatesOn (unaries.Minus t) ty = ty ≡ scalars.Int t
OperatesOn (unaries.Complement t) ty = ty ≡ scalars.Int t
OperatesOn unaries.Not ty = Unit {0}

-- a value of the first type becomes one of the second
pub data Converts : Scalar → Scalar → Type 0 where
  to_int : {t u : IntType} → Converts (scalars.Int u) (scalars.Int t)
  to_pointer : Converts scalars.Pointer scalars.Pointer
