-- Loads, stores, copies, tests of values and ends of calls: what their checks look at.
use Rattle.std.specs.Prelude.{ℕ, pos, if◌then◌else◌, List, [], ◌∷◌, ◌++◌, Option, Some, None, Result, Ok, Err}
use Rattle.c_syntax.specs.declared.alarm.WrongKind.{WrongKind}
use Rattle.c_syntax.specs.declared.alarm.WrongKind.TheVariants as kinds
use Rattle.c_syntax.specs.Types.{ObjectTree}
use Rattle.c_syntax.specs.Operand.{Operand, Number, Mark, End, CallEnd}
use Rattle.c_syntax.specs.Operand as operands
use Rattle.c_layout.specs.Checks.{read_checks, write_checks, load_checks, store_checks, test_checks, plain_check}
use Rattle.block_mem.specs.declared.types.Scalar.{Scalar}
use Rattle.block_mem.specs.declared.types.Value.{Value}
use Rattle.block_mem.specs.declared.types.Value.TheVariants as values
use Rattle.block_mem.specs.Blocks.{bytes_at, loaded}
use Rattle.block_mem.specs.Bytes.{mark_of, size_of}
use Rattle.c_values.specs.declared.values.Given.{Given}
use Rattle.c_values.specs.declared.values.Given.TheVariants as givens
use Rattle.c_values.specs.Values.{plain_type, truth}
use Rattle.c_values.specs.Places.{ObjectMemory, point}
use Rattle.c_values.specs.Looks.{Look, looks, judge, Outcome, outcome}

-- what a load meets in the bytes at a place
abbrev pub mark : ObjectMemory → Option Scalar → Value → Option Operand
mark m (Some ty) (values.Ptr p) = Some (Mark (mark_of ty (bytes_at m.blocks p (size_of ty))))
mark m ty v = None

-- a place that is accessed, and for a load the mark of its bytes
abbrev pub access_operand : ObjectMemory → Option Scalar → Value → WrongKind → Option Operand
access_operand m ty v kinds.NullUse = point m v
access_operand m ty v kinds.Dangling = point m v
access_operand m ty v kinds.Access = point m v
access_operand m ty v kinds.Alignment = point m v
access_operand m ty v kinds.ReadOnly = point m v
access_operand m ty v kinds.Indeterminate = mark m ty v
access_operand m ty v kinds.Fragment = mark m ty v
access_operand m ty v kind = None

-- a read, and a write, of so many bytes at this alignment
abbrev pub read_looks : ObjectMemory → Value → ℕ → ℕ → List Look
read_looks m v size align = looks (access_operand m None v) (read_checks size align)

abbrev pub write_looks : ObjectMemory → Value → ℕ → ℕ → List Look
write_looks m v size align = looks (access_operand m None v) (write_checks size align)

-- a load, and a store, of a scalar of this type
abbrev pub load_looks : ObjectMemory → Option Scalar → Value → List Look
load_looks m ty v = looks (access_operand m ty v) (load_checks (plain_type ty))

abbrev pub store_looks : ObjectMemory → Option Scalar → Value → List Look
store_looks m ty v = looks (access_operand m None v) (store_checks (plain_type ty))

abbrev pub ok_of : {A B : Type 0} → Result A B → Option A
ok_of (Ok a) = Some a
ok_of (Err b) = None

-- the value that a load gives where its checks pass
abbrev pub loaded_value : ObjectMemory → Option Scalar → Value → Option Value
loaded_value m (Some ty) (values.Ptr p) = ok_of (loaded ty (bytes_at m.blocks p (size_of ty)))
loaded_value m ty v = None

abbrev pub load_at : List ObjectTree → ObjectMemory → Option Scalar → Value → Outcome
load_at objects m ty v = outcome (judge objects (load_looks m ty v)) (loaded_value m ty v)

-- a test of a value, and of the operand of an assertion, whose truth is 0 or 1
abbrev pub test_operand : ObjectMemory → Value → WrongKind → Option Operand
test_operand m v kinds.Dangling = point m v
test_operand m v kinds.AssertFailed = Some (Number (if truth v then pos 1 else pos 0))
test_operand m v kind = None

abbrev pub test_looks : ObjectMemory → Option Scalar → Value → List Look
test_looks m ty v = looks (test_operand m v) (test_checks (plain_type ty))

abbrev pub assert_looks : ObjectMemory → Option Scalar → Value → List Look
assert_looks m ty v = looks (test_operand m v) (test_checks (plain_type ty) ++ plain_check kinds.AssertFailed ∷ [])

-- how a call ended whose value is used (C11 6.9.1p12)
abbrev pub end_of : Given → CallEnd
end_of (givens.Value v) = operands.Value
end_of givens.Nothing = operands.None

abbrev end_operand : Given → WrongKind → Option Operand
end_operand g kinds.NoValue = Some (End (end_of g))
end_operand g kind = None

abbrev pub end_looks : Given → List Look
end_looks g = looks (end_operand g) (plain_check kinds.NoValue ∷ [])
