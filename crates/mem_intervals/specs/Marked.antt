-- What is shown of a load of a known object, and of one expression.
use Rattle.std.specs.Prelude.{◌≡◌, ◌⊎◌, ℕ, true, false, List, Option, Some, None}
use Rattle.c_syntax.specs.declared.alarm.Pointers.{Pointers}
use Rattle.c_syntax.specs.declared.alarm.Shown.{Shown}
use Rattle.c_syntax.specs.declared.alarm.Shown.TheVariants as shows
use Rattle.c_syntax.specs.declared.alarm.WrongKind.{WrongKind}
use Rattle.c_syntax.specs.declared.alarm.WrongKind.TheVariants as kinds
use Rattle.block_mem.specs.declared.types.Scalar.{Scalar}
use Rattle.block_mem.specs.declared.types.Scalar.TheVariants as scalars
use Rattle.num_api.specs.declared.message.Range.{Range}
use Rattle.csharp.specs.Trees.{CsExprTree, Address}
use Rattle.mem_temps.specs.Checks.{IsExactOf}
use Rattle.mem_temps.specs.Exprs.{IsRangeOf}
use Rattle.mem_temps.specs.Shows.{ShowsOne}
use Rattle.mem_objects.specs.declared.cells.KnownCell.{KnownCell}
use Rattle.mem_objects.specs.Cells.{cell_of}
use Rattle.mem_intervals.specs.Placed.{IsShownAt}

-- the checks that look at the mark of a load
abbrev pub LooksAtMark : WrongKind → Type 0
LooksAtMark kinds.Indeterminate = Unit {0}
LooksAtMark kinds.Fragment = Unit {0}
LooksAtMark kind = ⊥

-- a known object that is loaded at its own type
pub record IsLoaded (cells : List (Option KnownCell)) (ty : Option Scalar) (e : CsExprTree) (x : ℕ) (c : KnownCell) : Type 0 where
  pub address : e ≡ Address x
  pub cell : cell_of cells x ≡ Some c
  pub own : ty ≡ Some (scalars.Int c.ty)

-- the mark of such an object, where the check looks at a mark; none only where there is none
pub record IsMarked (cells : List (Option KnownCell)) (kind : WrongKind) (ty : Option Scalar) (e : CsExprTree) (found : Option Shown) : Type 0 where
  pub some : (w : Shown) → found ≡ Some w → LooksAtMark kind × (x : ℕ) × (c : KnownCell) × IsLoaded cells ty e x c × (w ≡ shows.Marks c.may_be_undefined true false)
  pub none : found ≡ None → LooksAtMark kind → (x : ℕ) (c : KnownCell) → IsLoaded cells ty e x c → ⊥

-- the set of a named place, where the check looks at one; and else what is shown of the ranges of the value and the exact result
abbrev pub IsShownOne : List Range → WrongKind → CsExprTree → Shown → Type 0
IsShownOne ranges kind e w = ((set : Pointers) × (w ≡ shows.One set) × IsShownAt kind e (Some set))
    ⊎ (IsShownAt kind e None × (value : Range) × (exact : Range) × IsRangeOf ranges e value × IsExactOf ranges e exact × ShowsOne kind value exact w)
