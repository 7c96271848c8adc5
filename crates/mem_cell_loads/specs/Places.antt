-- Where a pointer may lead.
use Rattle.std.specs.Prelude.{ℕ, ℤ, ◌≡◌, ◌*◌, ◌<◌, ◌≤◌, false, List, None, Some}
use Rattle.c_syntax.specs.Types.{ObjectTree}
use Rattle.block_mem.specs.declared.types.Pointer.{Pointer}
use Rattle.block_mem.specs.declared.types.Scalar.{Scalar}
use Rattle.block_mem.specs.declared.types.Value.TheVariants as values
use Rattle.block_mem.specs.Blocks.{place, wrong_access}
use Rattle.c_values.specs.Places.{ObjectMemory, owner_of, place_of}
use Rattle.csharp.specs.Trees.{CsExprTree}
use Rattle.csharp.specs.States.{State, value_of}
use Rattle.mem_cell_bytes.specs.Stands.{Has}
use Rattle.mem_cell_exprs.specs.Known.{StandsFor}
use Rattle.mem_cell_exprs.specs.declared.known.Known.{Known}
use Rattle.mem_cell_loads.specs.declared.reach.Reach.{Reach}
use Rattle.mem_cell_loads.specs.Found.{IsReadingAt}
use Rattle.mem_cell_loads.specs.declared.reading.Reading.{Reading}

-- the pointer leads to one of the objects, which lives, at one of the places: multiples of the step
pub record LeadsInto (m : ObjectMemory) (p : Pointer) (r : Reach) : Type 0 where
  pub object : Has r.objects.items (owner_of m p.block)
  pub lives : place_of m (owner_of m p.block) ≡ Some p.block
  pub index : ℕ
  pub place_is : place p ≡ index * r.step
  pub first : r.first ≤ index
  pub end : index < r.end

-- so does each pointer that the expression may be and through which so many bytes may be accessed
abbrev pub LeadsThere : {D : Type 0} → (D → List ℤ → Type 0) → Known D → CsExprTree → ℕ → Reach → Type 0
LeadsThere admits k e size r = (objects : List ObjectTree) (s : State) → StandsFor admits objects k s → (p : Pointer) → value_of e s ≡ Some (values.Ptr p)
    → wrong_access s.memory.blocks p size size false ≡ None → LeadsInto s.memory p r

-- a reading of each place from one on to below another, in one object
abbrev pub IsReadAlong : {D : Type 0} → (D → List ℤ → Type 0) → Known D → ℕ → ℕ → ℕ → ℕ → Scalar → Reading → Type 0
IsReadAlong admits k o first end step ty r = (i : ℕ) → first ≤ i → i < end → IsReadingAt admits k o (i * step) ty r

-- and in each of these objects
abbrev pub IsReadIn : {D : Type 0} → (D → List ℤ → Type 0) → Known D → List ℕ → ℕ → ℕ → ℕ → Scalar → Reading → Type 0
IsReadIn admits k os first end step ty r = (o : ℕ) → Has os o → IsReadAlong admits k o first end step ty r
