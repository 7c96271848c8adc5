-- What the address of a named place is lowered to, in a well typed program (C11 6.5.2.1p2, 6.5.2.3p3, 6.2.8p1).
use Rattle.std.specs.Prelude.{◌≡◌, ◌+◌, ℕ, pos}
use Rattle.c_syntax.specs.declared.operator.TBinaryOp.TheVariants as binaries
use Rattle.c_syntax.specs.TypedExpr.{TLvalueTree, Var, Deref, Member}
use Rattle.c_syntax.specs.TypedParts.{tlvalue_type}
use Rattle.c_layout.specs.Layout.{align_in}
use Rattle.c_layout.specs.TypedNodes.{Scope, IsTypedPlace}
use Rattle.c_layout.specs.WellTyped.{IsWellTyped}
use Rattle.csharp.specs.Trees as cs
use Rattle.csharp.specs.Trees.{CsExprTree}
use Rattle.lower_trees.specs.LowerExpr.{lower_place}
use Rattle.lower_trees.specs.Named.{IsNamed, IsNamedPlace}

-- the address of the object, moved by constants, and by products with constants, that are multiples of the alignment of what stands in the place
abbrev pub NamedPlacesAreAligned : Type 0
NamedPlacesAreAligned =
    (scope : Scope) → IsWellTyped scope.program → (d x : ℕ) (place : TLvalueTree) → IsTypedPlace scope place → IsNamedPlace x place
    → IsNamed x (align_in scope.program.structs (tlvalue_type place)) (lower_place scope.program d place).value

-- an object, or a member of a place without an index
abbrev pub HasNoIndex : TLvalueTree → Type 0
HasNoIndex (Var at x ty is_const) = Unit {0}
HasNoIndex (Member at k offset ty is_const place) = HasNoIndex place
HasNoIndex (Deref at kind ty is_const pointer) = ⊥

-- the address of the object, so many bytes from its start
abbrev pub IsAtOffset : ℕ → ℕ → CsExprTree → Type 0
IsAtOffset x n (cs.Address y) = (y ≡ x) × (n ≡ 0)
IsAtOffset x n (cs.Binary (binaries.PointerPlusInt size) a (cs.Const t (pos k))) = (m : ℕ) × (n ≡ m + k) × (size ≡ 1) × IsAtOffset x m a
IsAtOffset x n e = ⊥

abbrev pub NamedPlacesAreFixed : Type 0
NamedPlacesAreFixed =
    (scope : Scope) (d x : ℕ) (place : TLvalueTree) → IsNamedPlace x place → HasNoIndex place
    → (n : ℕ) × IsAtOffset x n (lower_place scope.program d place).value
