-- When what is known of objects and copies is no wider than a plain state.
use Rattle.std.specs.Prelude.{ℕ, ◌≡◌, ◌==◌, ◌&&◌, Bool, true, List, [], ◌∷◌, Option, Some}
use Rattle.c_syntax.specs.Types.{ObjectTree, CTypeTree, Int}
use Rattle.c_syntax_written.specs.Integer.{bytes}
use Rattle.num_api.specs.Ranges.{NoWider}
use Rattle.num_api.specs.Spans.{range_of}
use Rattle.plain_runs.specs.States.{Cell, Plain}
use Rattle.mem_objects.specs.declared.cells.KnownCell.{KnownCell}
use Rattle.mem_objects.specs.Cells.{cell_of}
use Rattle.mem_objects.specs.Copies.{copy_of}

-- of one type and one mark, with no number and no lack of a value that the plain run does not have
pub record IsUnderCell (c : KnownCell) (cell : Cell) : Type 0 where
  pub ty : c.ty ≡ cell.ty
  pub numbers : NoWider c.range (range_of cell.numbers)
  pub undefined : c.may_be_undefined ≡ true → cell.may_be_undefined ≡ true
  pub read_only : c.read_only ≡ cell.read_only

-- of each object that the plain run knows so much is known
abbrev pub AreCellsUnder : List (Option KnownCell) → (ℕ → Option Cell) → Type 0
AreCellsUnder cells objects = (x : ℕ) (cell : Cell) → objects x ≡ Some cell → (c : KnownCell) × (cell_of cells x ≡ Some c) × IsUnderCell c cell

-- what is a copy in the plain run is known to be one
abbrev pub AreCopiesUnder : List (Option ℕ) → (ℕ → Option ℕ) → Type 0
AreCopiesUnder copies plain = (d x : ℕ) → plain d ≡ Some x → copy_of copies d ≡ Some x

pub record AreUnder (cells : List (Option KnownCell)) (copies : List (Option ℕ)) (p : Plain) : Type 0 where
  pub cells_under : AreCellsUnder cells p.objects
  pub copies_under : AreCopiesUnder copies p.copies

-- an integer object has as many bytes as its type
abbrev pub has_own_size : ObjectTree → CTypeTree → Bool
has_own_size object (Int t) = object.size == bytes t
has_own_size object ty = true

abbrev pub have_own_sizes : List ObjectTree → Bool
have_own_sizes [] = true
have_own_sizes (object ∷ objects) = has_own_size object object.ty && have_own_sizes objects
