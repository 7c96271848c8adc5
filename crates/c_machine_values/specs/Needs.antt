-- What the row of an item needs of the stack and of memory. A typed run has it, whatever work is behind the item.
use Rattle.std.specs.Prelude.{◌≡◌, ℕ, List, [], length, Some}
use Rattle.c_syntax.specs.Types.{ObjectTree}
use Rattle.c_syntax.specs.Program.{TProgramTree}
use Rattle.block_mem.specs.declared.types.Value.{Value}
use Rattle.c_values.specs.Places.{ObjectMemory}
use Rattle.c_objects.specs.Kept.{AllFit}
use Rattle.c_objects.specs.Opening.{open_all}
use Rattle.c_steps.specs.Calls.{taken}
use Rattle.c_steps.specs.Work.{Item}
use Rattle.c_steps.specs.States.{Held}
use Rattle.c_steps_laws.specs.Needs.{Needs, AreFilled, AreThere}
use Rattle.c_steps_laws.specs.Shapes.{HasShape}

-- the stack has the shape that the item takes, and what stands on it is right for some program whose objects fit the memory
abbrev pub IsReady : Item → List Held → ObjectMemory → Type 0
IsReady item s m = HasShape item s × ((p : TProgramTree) × AllFit p.objects m × Needs p item [] s m)

-- arguments stand on the stack that fill the parameters
abbrev pub HasArguments : List ObjectTree → List ℕ → List Held → ObjectMemory → Type 0
HasArguments objects params s m =
    AreThere m params
    × ((args : List Value) × (below : List Held) × (taken (length params) s [] ≡ Some (args, below))
    × AreFilled objects params args (open_all objects m params))
