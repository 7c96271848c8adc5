-- Stores and copies are made where their looks pass.
use Rattle.std.proofs.Common.{List, length, Option, refl}
use Rattle.std.specs.Prelude.{IsSome}
use Rattle.c_syntax.specs.declared.operator.Extent.{Extent}
use Rattle.c_syntax.specs.Types.{ObjectTree}
use Rattle.block_mem.specs.declared.types.Scalar.{Scalar}
use Rattle.block_mem.specs.declared.types.Scalar.TheVariants as scalars
use Rattle.block_mem.specs.declared.types.Value.{Value}
use Rattle.c_values.specs.Places.{ObjectMemory}
use Rattle.c_objects.proofs.Keeping.{Keeps}
use Rattle.c_steps_laws.proofs.Memory.{IsChanged, changed, store_passes, copy_passes}
use Rattle.c_steps_laws.proofs.Values.{Has}
use Rattle.c_steps_laws.specs.Needs.{Stores, Copies}

pub is_made : {W : Type 0} {objects : List ObjectTree} {m : ObjectMemory} {o : Option ObjectMemory} → IsChanged W objects m o → IsSome o
is_made (changed n kept blocks places) = refl

pub stores : {W : Type 0} (objects : List ObjectTree) (m : ObjectMemory) → Keeps W objects m → (ty : Scalar) (place v : Value) → Has (length m.blocks) scalars.Pointer place
    → Has (length m.blocks) ty v → Stores objects m ty place v
stores objects m k ty place v hp hv h = is_made (store_passes objects m k ty place v hp hv h)

pub copies : {W : Type 0} (objects : List ObjectTree) (m : ObjectMemory) → Keeps W objects m → (extent : Extent) (target source : Value)
    → Has (length m.blocks) scalars.Pointer target → Has (length m.blocks) scalars.Pointer source → Copies objects m extent target source
copies objects m k extent target source ht hs r w = is_made (copy_passes objects m k extent target source ht hs r w)
