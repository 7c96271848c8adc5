-- Accesses to objects that name them by their addresses alone.
use Rattle.std.specs.Prelude.{ℕ, ◌≡◌, List, Option, Some, None}
use Rattle.block_mem.specs.declared.types.Scalar.{Scalar}
use Rattle.block_mem.specs.declared.types.Scalar.TheVariants as scalars
use Rattle.csharp.specs.Trees.{CsExprTree, Address}
use Rattle.mem_objects.specs.declared.cells.KnownCell.{KnownCell}
use Rattle.mem_objects.specs.declared.accesses.KnownObject.{KnownObject}
use Rattle.mem_objects.specs.Cells.{cell_of}

abbrev pub named : CsExprTree → Option ℕ
named (Address x) = Some x
named e = None

-- the object is known, and accessed at its own type; where none is found, there is none
pub record IsAccess (cells : List (Option KnownCell)) (e : CsExprTree) (ty : Scalar) (found : Option KnownObject) : Type 0 where
  pub address : (k : KnownObject) → found ≡ Some k → e ≡ Address k.number
  pub cell : (k : KnownObject) → found ≡ Some k → cell_of cells k.number ≡ Some k.cell
  pub own : (k : KnownObject) → found ≡ Some k → ty ≡ scalars.Int k.cell.ty
  pub none : found ≡ None → (x : ℕ) (c : KnownCell) → e ≡ Address x → cell_of cells x ≡ Some c → ty ≡ scalars.Int c.ty → ⊥
