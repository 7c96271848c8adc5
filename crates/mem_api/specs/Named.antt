-- Addresses in one named object, and what is shown of them.
use Rattle.std.specs.Prelude.{◌≡◌, ℕ, ℤ, pos, ◌+ℤ◌, ◌-ℤ◌, ◌*ℤ◌, List, Option, Some, None, option_map}
use Rattle.c_syntax.specs.declared.alarm.Pointers.{Pointers}
use Rattle.c_syntax.specs.declared.alarm.Shown.{Shown}
use Rattle.c_syntax.specs.declared.alarm.Shown.TheVariants as shows
use Rattle.c_syntax.specs.declared.alarm.Spot.{Spot}
use Rattle.c_syntax.specs.declared.alarm.Spot.TheVariants as spots
use Rattle.c_syntax.specs.declared.alarm.WrongKind.{WrongKind}
use Rattle.c_syntax.specs.declared.alarm.WrongKind.TheVariants as kinds
use Rattle.c_syntax.specs.declared.operator.TBinaryOp.TheVariants as binaries
use Rattle.c_syntax.specs.Types.{ObjectTree}
use Rattle.c_syntax.specs.Admission.{IsSpotIn}
use Rattle.num_api.specs.Residues.{IsMultiple}
use Rattle.csharp.specs.Trees.{CsExprTree, Const, Address, Binary}

-- so many elements, each of so many bytes, are a multiple of c: by their size, or as a constant
abbrev pub IsStep : ℕ → ℕ → CsExprTree → Type 0
IsStep c size (Const t n) = IsMultiple (pos c) (pos size *ℤ n)
IsStep c size e = IsMultiple (pos c) (pos size)

-- the address of an object, moved by steps
abbrev pub IsNamed : ℕ → ℕ → CsExprTree → Type 0
IsNamed o c (Address x) = x ≡ o
IsNamed o c (Binary (binaries.PointerPlusInt size) a b) = IsNamed o c a × IsStep c size b
IsNamed o c (Binary (binaries.IntPlusPointer size) a b) = IsNamed o c b × IsStep c size a
IsNamed o c (Binary (binaries.PointerMinusInt size) a b) = IsNamed o c a × IsStep c size b
IsNamed o c e = ⊥

-- an address at a constant offset in an object
pub record Fixed : Type 0 where
  pub object : ℕ
  pub offset : ℤ

abbrev moved : ℤ → Fixed → Fixed
moved k f = record f { offset = f.offset +ℤ k }

abbrev pub fixed_at : CsExprTree → Option Fixed
fixed_at (Address x) = Some (record { object = x; offset = pos 0 })
fixed_at (Binary (binaries.PointerPlusInt size) a (Const t n)) = option_map (moved (pos size *ℤ n)) (fixed_at a)
fixed_at (Binary (binaries.IntPlusPointer size) (Const t n) b) = option_map (moved (pos size *ℤ n)) (fixed_at b)
fixed_at (Binary (binaries.PointerMinusInt size) a (Const t n)) = option_map (moved (pos 0 -ℤ (pos size *ℤ n))) (fixed_at a)
fixed_at e = None

-- ---- what is shown of them

-- the checks of which this is asked: of a null pointer, of offsets, and of what is accessed
abbrev pub LooksAtPlace : WrongKind → Type 0
LooksAtPlace kinds.NullUse = Unit {0}
LooksAtPlace kinds.Bounds = Unit {0}
LooksAtPlace kinds.Access = Unit {0}
LooksAtPlace kinds.Alignment = Unit {0}
LooksAtPlace kind = ⊥

-- each pointer of the set is one into the object, at an offset of the class of multiples of c
pub record HasOnly (objects : List ObjectTree) (set : Pointers) (o c : ℕ) : Type 0 where
  pub object : (s : Spot) → IsSpotIn objects set s → (d : ℤ) × (s ≡ spots.At o d)
  pub modulus : IsMultiple (pos c) set.modulus
  pub rem : IsMultiple (pos c) set.rem

abbrev pub ShowsOnly : List ObjectTree → ℕ → ℕ → Shown → Type 0
ShowsOnly objects o c (shows.One set) = HasOnly objects set o c
ShowsOnly objects o c shown = ⊥

abbrev pub ShowsOffset : ℤ → Shown → Type 0
ShowsOffset k (shows.One set) = (set.lo ≡ Some k) × (set.hi ≡ Some k)
ShowsOffset k shown = ⊥
