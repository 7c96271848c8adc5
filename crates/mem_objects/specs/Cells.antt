-- Lists of what is known of integer objects, by the objects' numbers, and what statements make of them.
use Rattle.std.specs.Prelude.{ℕ, ℤ, ◌≡◌, Bool, true, false, ◌||◌, if◌then◌else◌, List, [], ◌∷◌, Option, Some, None, option_map, option_and_then, slice_get, slice_set, slice_index_or}
use Rattle.c_syntax_written.specs.declared.int_type.IntType.{IntType}
use Rattle.c_syntax.specs.Types.{ObjectTree, CTypeTree, Int}
use Rattle.block_mem.specs.declared.types.Scalar.TheVariants as scalars
use Rattle.block_mem.specs.declared.types.Value.{Value}
use Rattle.block_mem.specs.declared.types.Value.TheVariants as values
use Rattle.c_values.specs.Places.{ObjectMemory}
use Rattle.c_objects.specs.Opening.{address}
use Rattle.num_api.specs.declared.message.Range.{Range}
use Rattle.num_api.specs.Ranges.{InRange, common, hull, holds_some}
use Rattle.num_api.specs.Spans.{point, range_of}
use Rattle.machine_nums.specs.Rule.{type_span}
use Rattle.csharp.specs.Actions.{loaded_at}
use Rattle.mem_temps.specs.Ranges.{range_at}
use Rattle.mem_objects.specs.declared.cells.KnownCell.{KnownCell}
use Rattle.mem_objects.specs.Copies.{copy_of}

-- of an object without an entry nothing is known
abbrev pub cell_of : List (Option KnownCell) → ℕ → Option KnownCell
cell_of cells x = slice_index_or cells x None

-- something is known of some object
abbrev pub knows_cells : List (Option KnownCell) → Bool
knows_cells [] = false
knows_cells (None ∷ cells) = knows_cells cells
knows_cells (Some c ∷ cells) = true

-- ---- one object

-- a number of this range was assigned
abbrev pub stored_cell : Range → KnownCell → KnownCell
stored_cell r c = record c { range = r; may_be_undefined = false }

-- its bytes lost their values
abbrev pub undefined_cell : KnownCell → KnownCell
undefined_cell c = record c { range = range_of (type_span c.ty); may_be_undefined = true }

-- its number lies in this range too
abbrev pub narrowed : Range → KnownCell → KnownCell
narrowed r c = record c { range = common c.range r }

-- what holds on both of two ways, where they are of one type and one mark
abbrev pub merged : KnownCell → KnownCell → KnownCell
merged c d = record c { range = hull c.range d.range; may_be_undefined = c.may_be_undefined || d.may_be_undefined }

pub record IsJoined (a b found : Option KnownCell) : Type 0 where
  pub from : (e : KnownCell) → found ≡ Some e
      → (c : KnownCell) × (d : KnownCell) × (a ≡ Some c) × (b ≡ Some d) × (c.ty ≡ d.ty) × (c.read_only ≡ d.read_only) × (e ≡ merged c d)
  pub to : (c d : KnownCell) → a ≡ Some c → b ≡ Some d → c.ty ≡ d.ty → c.read_only ≡ d.read_only → found ≡ Some (merged c d)

-- it has each number and each lack of a value that the other has
pub record IsWider (c d : KnownCell) : Type 0 where
  pub ty : c.ty ≡ d.ty
  pub numbers : (n : ℤ) → InRange d.range n → InRange c.range n
  pub undefined : d.may_be_undefined ≡ true → c.may_be_undefined ≡ true
  pub read_only : c.read_only ≡ d.read_only

abbrev pub AreWider : List (Option KnownCell) → List (Option KnownCell) → Type 0
AreWider cells others = (x : ℕ) (c : KnownCell) → cell_of cells x ≡ Some c → (d : KnownCell) × (cell_of others x ≡ Some d) × IsWider c d

-- ---- objects that begin and end

-- an integer that begins to live has any number of its type, or none
abbrev pub opened_cell : ObjectTree → CTypeTree → Option KnownCell
opened_cell object (Int t) = Some (record { ty = t; range = range_of (type_span t); may_be_undefined = true; read_only = object.read_only })
opened_cell object ty = None

abbrev pub opened_at : List ObjectTree → ℕ → Option KnownCell
opened_at objects x = option_and_then (λ object. opened_cell object object.ty) (slice_get objects x)

abbrev pub entered : List ObjectTree → List ℕ → List (Option KnownCell) → List (Option KnownCell)
entered objects [] cells = cells
entered objects (x ∷ xs) cells = entered objects xs (slice_set cells x (opened_at objects x))

abbrev pub ended : List ℕ → List (Option KnownCell) → List (Option KnownCell)
ended [] cells = cells
ended (x ∷ xs) cells = ended xs (slice_set cells x None)

-- ---- the start

abbrev pub number_loaded : Option Value → Option ℤ
number_loaded None = None
number_loaded (Some (values.Int u n)) = Some n
number_loaded (Some (values.Ptr p)) = None
number_loaded (Some values.Null) = None

-- the number that a load of an integer object gives
abbrev pub read_number : ObjectMemory → ℕ → IntType → Option ℤ
read_number m x t = number_loaded (option_and_then (loaded_at m (scalars.Int t)) (address m x 0))

abbrev pub number_cell : ObjectTree → IntType → ℤ → KnownCell
number_cell object t n = record { ty = t; range = range_of (point n); may_be_undefined = false; read_only = object.read_only }

abbrev pub read_cell : ObjectMemory → ℕ → ObjectTree → CTypeTree → Option KnownCell
read_cell m x object (Int t) = option_map (number_cell object t) (read_number m x t)
read_cell m x object ty = None

-- what a load of the whole object tells of it
abbrev pub read_at : List ObjectTree → ObjectMemory → ℕ → Option KnownCell
read_at objects m x = option_and_then (λ object. read_cell m x object object.ty) (slice_get objects x)

-- ---- cuts

-- an object is cut to the range of a copy of it
abbrev pub cut_one : Option ℕ → Range → List (Option KnownCell) → List (Option KnownCell)
cut_one None r cells = cells
cut_one (Some x) r cells = slice_set cells x (option_map (narrowed r) (cell_of cells x))

abbrev pub cut_by : List (Option ℕ) → List Range → List ℕ → List (Option KnownCell) → List (Option KnownCell)
cut_by copies ranges [] cells = cells
cut_by copies ranges (d ∷ ds) cells = cut_by copies ranges ds (cut_one (copy_of copies d) (range_at ranges d) cells)

abbrev pub has_number : Option KnownCell → Bool
has_number None = true
has_number (Some c) = holds_some c.range

abbrev pub copied_has_number : List (Option KnownCell) → Option ℕ → Bool
copied_has_number cells None = true
copied_has_number cells (Some x) = has_number (cell_of cells x)

-- numbers are left of each object of which one of these temporaries is a copy
abbrev pub are_cells_left : List (Option ℕ) → List ℕ → List (Option KnownCell) → Bool
are_cells_left copies [] cells = true
are_cells_left copies (d ∷ ds) cells = if copied_has_number cells (copy_of copies d) then are_cells_left copies ds cells else false
