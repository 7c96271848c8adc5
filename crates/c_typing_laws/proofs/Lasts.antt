-- Types and places at the end of the file.
use Rattle.std.proofs.Common.{◌≡◌, ℕ, false, List, refl, sym, subst}
use Rattle.std.specs.Prelude.{Bool}
use Rattle.std.proofs.lemmas.Bool.{false≢true}
use Rattle.c_syntax_written.specs.declared.int_type.IntType.TheVariants as ints
use Rattle.c_syntax.specs.Types.{CTypeTree, Int, Array, ObjectTree}
use Rattle.c_syntax.specs.TypedExpr.{TLvalueTree, Var, Deref, Member}
use Rattle.c_syntax.specs.TypedParts.{tlvalue_type, tlvalue_is_const}
use Rattle.c_layout.specs.ProperTypes.{IsProperType}
use Rattle.c_layout.specs.RowTypes.{is_plain_text}
use Rattle.c_layout.specs.TypedNodes.{Scope}
use Rattle.c_layout.specs.WellTyped.{is_array}
use Rattle.c_typing.specs.Operands.{is_unsized}
use Rattle.c_typing.specs.Settled.{settled_expr, settled_place, settled_exprs}
use Rattle.c_typing.specs.Laws.{IsLastType, same, sized}
use Rattle.c_typing_laws.specs.TypedValues.{IsObjectType, last_place}

-- a type that is no array stays
pub last_same : {s t : CTypeTree} → IsLastType s t → is_array s ≡ false → t ≡ s
last_same (same ty) e = refl
last_same (sized of c n) e = absurd (false≢true (sym e))

-- so does an array that has its size
pub last_complete : {s t : CTypeTree} → IsLastType s t → is_unsized s ≡ false → t ≡ s
last_complete (same ty) e = refl
last_complete (sized of c n) e = absurd (false≢true (sym e))

-- an array has its element
pub last_array : {s t : CTypeTree} → IsLastType s t → (of : CTypeTree) (c : Bool) (n : ℕ) → s ≡ Array of c n → (m : ℕ) × (t ≡ Array of c m)
last_array (same ty) of c n p = (n, p)
last_array (sized to d m) of c n p = (m, cc)

pub last_object : {s t : CTypeTree} → IsLastType s t → IsObjectType t → IsObjectType s
last_object (same ty) h = h
last_object (sized of c n) h = tt

text_any : (of : CTypeTree) (c : Bool) (m n : ℕ) → is_plain_text (Array of c m) ≡ is_plain_text (Array of c n)
text_any (Int ints.Char) c m n = refl
text_any of c m n = refl

pub last_text : {s t : CTypeTree} → IsLastType s t → is_plain_text t ≡ is_plain_text s
last_text (same ty) = refl
last_text (sized of c n) = text_any of c n 0

pub last_proper : (scope : Scope) (place : TLvalueTree) → tlvalue_type (last_place scope place) ≡ tlvalue_type place → IsProperType scope.program.structs (tlvalue_type (last_place scope place)) → IsProperType scope.program.structs (tlvalue_type place)
last_proper scope place q p = subst (IsProperType scope.program.structs) q p

-- a place is const as it was
pub const_kept : (objects : List ObjectTree) (place : TLvalueTree) → tlvalue_is_const (settled_place objects place) ≡ tlvalue_is_const place
unfolding settled_expr settled_place settled_exprs
const_kept objects (Var at n ty c) = refl
const_kept objects (Deref at kind ty c pointer) = refl
const_kept objects (Member at k offset ty c place) = refl
