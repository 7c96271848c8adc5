-- Blocks of objects, made and ended in the order in which the objects live (C11 6.2.4).
use Rattle.std.specs.Prelude.{ℕ, pos, Bool, false, List, [], ◌∷◌, ◌++◌, length, replicate, Option, Some, None, option_map, unwrap_or, slice_get, slice_set}
use Rattle.c_syntax.specs.Types.{ObjectTree}
use Rattle.block_mem.specs.declared.types.Value.{Value}
use Rattle.block_mem.specs.declared.types.Value.TheVariants as values
use Rattle.block_mem.specs.Block.{BlockView, new_block}
use Rattle.block_mem.specs.Blocks.{with_ended, with_undefined}
use Rattle.c_values.specs.Places.{ObjectMemory, place_of}

-- memory of so many objects, of which none lives
abbrev pub no_objects : ℕ → ObjectMemory
no_objects count = record { blocks = []; owners = []; places = replicate count None }

-- how large an object is, and whether it is read-only
abbrev pub size_of : List ObjectTree → ℕ → ℕ
size_of objects x = unwrap_or (option_map (λ object. object.size) (slice_get objects x)) 0

abbrev pub is_read_only : List ObjectTree → ℕ → Bool
is_read_only objects x = unwrap_or (option_map (λ object. object.read_only) (slice_get objects x)) false

-- the memory once an object lives, in a block that has a number not used before
abbrev pub opened : List ObjectTree → ObjectMemory → ℕ → ObjectMemory
opened objects m x = record {
  blocks = m.blocks ++ new_block (size_of objects x) (is_read_only objects x) ∷ [];
  owners = m.owners ++ x ∷ [];
  places = slice_set m.places x (Some (length m.blocks));
}

abbrev pub ended_at : List BlockView → Option ℕ → List BlockView
ended_at blocks None = blocks
ended_at blocks (Some b) = with_ended blocks b

-- the memory once an object has ended
abbrev pub shut : ObjectMemory → ℕ → ObjectMemory
shut m x = record m { blocks = ended_at m.blocks (place_of m x); places = slice_set m.places x None }

-- objects that begin, and end, in their order
abbrev pub open_all : List ObjectTree → ObjectMemory → List ℕ → ObjectMemory
open_all objects m [] = m
open_all objects m (x ∷ xs) = open_all objects (opened objects m x) xs

abbrev pub shut_all : ObjectMemory → List ℕ → ObjectMemory
shut_all m [] = m
shut_all m (x ∷ xs) = shut_all (shut m x) xs

-- a pointer to an offset in an object that lives
abbrev pub address : ObjectMemory → ℕ → ℕ → Option Value
address m x offset = option_map (λ b. values.Ptr (record { block = b; offset = pos offset })) (place_of m x)

-- the memory once all bytes of an object that lives have lost their values
abbrev pub undefined : ObjectMemory → ℕ → Option ObjectMemory
undefined m x = option_map (λ b. record m { blocks = with_undefined m.blocks b }) (place_of m x)
