-- Stores, copies, `op=`, `++` and `--`, and what fills an object.
use Rattle.std.specs.Prelude.{ℕ, ℤ, List, ◌∷◌, Option, Some, option_and_then}
use Rattle.c_syntax_written.specs.declared.place.Pos.{Pos}
use Rattle.c_syntax_written.specs.declared.step.StepWay.{StepWay}
use Rattle.c_syntax_written.specs.declared.step.StepWay.TheVariants as ways
use Rattle.c_syntax.specs.declared.operator.Arithmetic.TheVariants.{Add, Subtract}
use Rattle.c_syntax.specs.declared.operator.Extent.{Extent}
use Rattle.c_syntax.specs.declared.operator.Stride.{Stride}
use Rattle.c_syntax.specs.declared.operator.Stride.TheVariants as strides
use Rattle.c_syntax.specs.declared.operator.StepTime.{StepTime}
use Rattle.c_syntax.specs.declared.operator.StepTime.TheVariants as times
use Rattle.c_syntax.specs.declared.operator.TBinaryOp.{TBinaryOp}
use Rattle.c_syntax.specs.declared.operator.TBinaryOp.TheVariants as binaries
use Rattle.c_syntax.specs.Types.{ObjectTree}
use Rattle.block_mem.specs.declared.types.Scalar.{Scalar}
use Rattle.block_mem.specs.declared.types.Scalar.TheVariants as scalars
use Rattle.block_mem.specs.declared.types.Value.{Value}
use Rattle.c_values.specs.Values.{converted_to}
use Rattle.c_values.specs.Places.{ObjectMemory}
use Rattle.c_values.specs.Looks.{judge}
use Rattle.c_values.specs.Accesses.{read_looks, write_looks, store_looks, load_at}
use Rattle.c_values.specs.Operators.{binary}
use Rattle.c_objects.specs.Opening.{address}
use Rattle.c_objects.specs.Writing.{stored_at, copied_at}
use Rattle.c_steps.specs.Work.{Item}
use Rattle.c_steps.specs.States.{Held, Struct, Next, goes, held, judged, with_value, with_some}

-- memory after a value of a scalar type was stored in a place
abbrev pub stored : ObjectMemory → Option Scalar → Value → Value → Option ObjectMemory
stored m ty place v = option_and_then (λ scalar. stored_at m scalar place v) ty

-- a value of another scalar type
abbrev pub as_scalar : Option Scalar → Value → Option Value
as_scalar ty v = option_and_then (λ scalar. converted_to scalar v) ty

-- a store of a scalar, whose checks stand at the lvalue; it gives a value (C11 6.5.16.1p2, 6.5.16p3)
abbrev pub store_step :
    List ObjectTree → Pos → Option Scalar → Value → Value → Value → List Item → List Held → ObjectMemory → List ℤ → Next
store_step objects at ty place v given work s m i =
    judged (judge objects (store_looks m ty place)) at (with_some (stored m ty place v) (λ n. goes work (held given ∷ s) n i))

-- a struct that is copied: its source is checked where the lvalue stands that named it, then the target (C11 6.5.16.1p3)
abbrev pub copy_step : List ObjectTree → Pos → Extent → Pos → Value → Value → List Item → List Held → ObjectMemory → List ℤ → Next
copy_step objects at extent from source target work s m i =
    judged (judge objects (read_looks m source extent.size extent.align)) from
    (judged (judge objects (write_looks m target extent.size extent.align)) at
    (with_some (copied_at m target source extent.size) (λ n. goes work (Struct at target ∷ s) n i)))

-- the type at which `op=` takes what stands in the place (C11 6.5.16.2p3)
abbrev pub left_type : TBinaryOp → Option Scalar → Option Scalar
left_type (binaries.Arithmetic op t) ty = Some (scalars.Int t)
left_type (binaries.Shift way t) ty = Some (scalars.Int t)
left_type op ty = ty

-- which of the old and the new value is given
abbrev pub given_of : StepTime → Value → Value → Value
given_of times.Before old new = new
given_of times.After old new = old

-- `op=`, `++` and `--`: the old value is loaded, converted and operated on, and what comes of it is converted back and stored. Accesses are checked at the
-- lvalue, the operator at its own place (C11 6.5.16.2p3, 6.5.2.4p2, 6.5.3.1p2)
abbrev pub modify_step :
    List ObjectTree → Pos → Pos → Option Scalar → TBinaryOp → StepTime → Value → Value
    → List Item → List Held → ObjectMemory → List ℤ → Next
modify_step objects at at_place ty op time place operand work s m i =
    with_value (load_at objects m ty place) at_place (λ old.
    with_some (as_scalar (left_type op ty) old) (λ left.
    with_value (binary objects m op left operand) at (λ result.
    with_some (as_scalar ty result) (λ new.
    store_step objects at_place ty place new (given_of time old new) work s m i))))

-- `++` and `--` as `+` and `-`
abbrev pub step_operator : StepWay → Stride → TBinaryOp
step_operator ways.Up (strides.Int t) = binaries.Arithmetic Add t
step_operator ways.Down (strides.Int t) = binaries.Arithmetic Subtract t
step_operator ways.Up (strides.Element n) = binaries.PointerPlusInt n
step_operator ways.Down (strides.Element n) = binaries.PointerMinusInt n

-- memory after a value was put into an object at an offset, const or not (C11 6.7.9)
abbrev pub filled : ObjectMemory → Option Scalar → ℕ → ℕ → Value → Option ObjectMemory
filled m ty x offset v = option_and_then (λ place. stored m ty place v) (address m x offset)

-- a scalar that an item of an initialiser puts into an object
abbrev pub fill_step : ℕ → ℕ → Option Scalar → Value → List Item → List Held → ObjectMemory → List ℤ → Next
fill_step x offset ty v work s m i = with_some (filled m ty x offset v) (λ n. goes work s n i)

-- a struct that an item of an initialiser puts into an object; its source alone is checked
abbrev pub fill_copy_step : List ObjectTree → ℕ → ℕ → Extent → Pos → Value → List Item → List Held → ObjectMemory → List ℤ → Next
fill_copy_step objects x offset extent from source work s m i =
    judged (judge objects (read_looks m source extent.size extent.align)) from
    (with_some (option_and_then (λ target. copied_at m target source extent.size) (address m x offset)) (λ n. goes work s n i))
