-- What is read of a state.
use Rattle.std.specs.Prelude.{ℕ, Bool, false, not, is_some, List, [], ◌∷◌, Option, None}
use Rattle.block_mem.specs.declared.types.Value.{Value}
use Rattle.block_mem.specs.declared.types.Value.TheVariants as values
use Rattle.block_mem.specs.Blocks.{wrong_access}
use Rattle.c_values.specs.Places.{ObjectMemory}
use Rattle.csharp.specs.Trees.{CsExprTree}
use Rattle.csharp.specs.States.{State, value_of}

-- so many bytes from a place on are those of an object that lives, at this alignment
abbrev pub can_read : ObjectMemory → Value → ℕ → ℕ → Bool
can_read m (values.Ptr p) n align = not (is_some (wrong_access m.blocks p n align false))
can_read m v n align = false

-- the value of the one expression that is looked at
abbrev pub one_value : List CsExprTree → State → Option Value
one_value (e ∷ []) s = value_of e s
one_value es s = None
