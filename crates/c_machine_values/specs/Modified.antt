-- What `op=`, `++` and `--` come to.
use Rattle.std.specs.Prelude.{◌≡◌, ℤ, List, ◌∷◌, Some, Result, Ok, Err}
use Rattle.c_syntax.specs.Types.{ObjectTree}
use Rattle.c_syntax.specs.Operand.{operand_of}
use Rattle.block_mem.specs.declared.types.Value.{Value}
use Rattle.c_values.specs.declared.values.Wrong.{Wrong}
use Rattle.c_values.specs.Looks.{GoesWrong, Gives}
use Rattle.c_values.specs.Operators.{binary}
use Rattle.c_values.specs.Places.{ObjectMemory}
use Rattle.c_steps.specs.Changes.{as_scalar, left_type, modify_step}
use Rattle.c_steps.specs.States.{Held, goes, held}
use Rattle.c_steps.specs.Work.{Item}
use Rattle.c_machine_values.specs.declared.changes.Change.{Change}
use Rattle.c_machine_values.specs.declared.changes.Fault.{Fault}
use Rattle.c_machine_values.specs.Rows.{IsWrongAs}

-- a value is given, and memory is another; or something is wrong, and it is as it was
abbrev pub Modifies : List ObjectTree → Change → Value → Value → ObjectMemory → ObjectMemory → Result Value Fault → Type 0
Modifies objects c place operand m n (Ok given) =
    (work : List Item) (s : List Held) (inputs : List ℤ)
    → modify_step objects c.pos c.place (Some c.ty) c.op c.time place operand work s m inputs ≡ goes work (held given ∷ s) n inputs
Modifies objects c place operand m n (Err fault) =
    ((work : List Item) (s : List Held) (inputs : List ℤ)
    → IsWrongAs fault.pos fault.kind (modify_step objects c.pos c.place (Some c.ty) c.op c.time place operand work s m inputs))
    × (n ≡ m)

-- the old value, converted, operated on and converted back
abbrev pub Changed : List ObjectTree → Change → Value → Value → ObjectMemory → Result Value Wrong → Type 0
Changed objects c old operand m (Ok new) =
    (left middle : Value) × (as_scalar (left_type c.op (Some c.ty)) old ≡ Some left) × (binary objects m c.op left operand ≡ Gives middle)
    × (as_scalar (Some c.ty) middle ≡ Some new)
Changed objects c old operand m (Err wrong) =
    (left : Value) × (as_scalar (left_type c.op (Some c.ty)) old ≡ Some left)
    × (binary objects m c.op left operand ≡ GoesWrong wrong.kind (operand_of wrong.operand))
