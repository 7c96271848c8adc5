-- What a set knows: of temporaries, of integer objects, and of the one state.
use Rattle.std.specs.Prelude.{◌≡◌, ℕ, zero, suc, Bool, ◌||◌, true, List, [], ◌∷◌, ◌++◌, length, Option, Some, None, is_some, slice_get}
use Rattle.c_syntax.specs.Types.{ObjectTree, Int}
use Rattle.block_mem.specs.declared.types.Scalar.{Scalar}
use Rattle.num_api.specs.declared.message.Range.{Range}
use Rattle.csharp.specs.States.{State}
use Rattle.plain_runs.specs.States.{Plain}
use Rattle.mem_temps.specs.Operators.{LiesIn}
use Rattle.mem_temps.specs.Ranges.{AreIn, knows}
use Rattle.mem_temps.specs.Sets.{Stands}
use Rattle.mem_objects.specs.declared.cells.KnownCell.{KnownCell}
use Rattle.mem_objects.specs.Cells.{cell_of, knows_cells, AreWider}
use Rattle.mem_objects.specs.Copies.{copy_of, knows_copies}
use Rattle.mem_objects.specs.Known.{AreKnown}
use Rattle.mem_objects.specs.Under.{AreUnder, have_own_sizes}
use Rattle.mem_one_state.specs.One.{IsOf}
use Rattle.mem_intervals.specs.Passed.{Remembered, IsPassed, is_remembered}
use Rattle.mem_intervals.specs.Under.{IsUnderPlain}

-- ---- states

-- the state is one of the set: its temporaries and objects have what is known of them, and where the one state is known, it is that
pub record IsIn (os : List ObjectTree) (ts : List Scalar) (rs : List Range) (passed : Option Remembered) (cells : List (Option KnownCell))
    (copies : List (Option ℕ)) (one : Option State) (s : State) : Type 0 where
  pub temps : Stands (length os) ts rs s
  pub passes : IsPassed passed s
  pub known : AreKnown os cells copies s
  pub same : IsOf one s

-- ---- plain states

-- the object of a cell is an integer of its type and mark
pub record IsDeclared (os : List ObjectTree) (x : ℕ) (c : KnownCell) : Type 0 where
  pub object : ObjectTree
  pub is : slice_get os x ≡ Some object
  pub typed : object.ty ≡ Int c.ty
  pub mark : object.read_only ≡ c.read_only

-- each cell is one of an object, with a range in its type
abbrev pub AreDeclared : List ObjectTree → List (Option KnownCell) → Type 0
AreDeclared os cells = (x : ℕ) (c : KnownCell) → cell_of cells x ≡ Some c → IsDeclared os x c × LiesIn c.ty c.range

-- what is known is no wider than the plain state
pub record IsUnder (os : List ObjectTree) (ts : List Scalar) (rs : List Range) (passed : Option Remembered) (cells : List (Option KnownCell))
    (copies : List (Option ℕ)) (p : Plain) : Type 0 where
  pub temps : IsUnderPlain ts rs passed p
  pub known : AreUnder cells copies p
  pub declared : AreDeclared os cells
  pub sizes : have_own_sizes os ≡ true
  pub cell_count : length cells ≡ length os
  pub copy_count : length copies ≡ length ts

-- ---- what is known at all

abbrev pub knows_any : List Range → Option Remembered → List (Option KnownCell) → List (Option ℕ) → Option State → Bool
knows_any rs passed cells copies one = knows rs || is_remembered passed || knows_cells cells || knows_copies copies || is_some one

-- all that one set knows holds in the other
pub record CoversAll (rs : List Range) (passed : Option Remembered) (cells : List (Option KnownCell)) (copies : List (Option ℕ)) (one : Option State)
    (others : List Range) (other : Option Remembered) (more : List (Option KnownCell)) (copied : List (Option ℕ)) : Type 0 where
  pub ranges : (s : State) → AreIn others s → AreIn rs s
  pub passes : (s : State) → IsPassed other s → IsPassed passed s
  pub wide : AreWider cells more
  pub fewer : (d x : ℕ) → copy_of copies d ≡ Some x → copy_of copied d ≡ Some x
  pub unknown : one ≡ None

-- ---- lists

-- the numbers below this one
abbrev pub below : ℕ → List ℕ
below zero = []
below (suc n) = below n ++ n ∷ []
