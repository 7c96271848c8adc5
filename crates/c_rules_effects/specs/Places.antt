-- The place of an lvalue (this profile's rule on the order of evaluation, C11 6.5p2).
use Rattle.std.specs.Prelude.{Bool, true, false, if◌then◌else◌, [], ◌∷◌, ◌++◌}
use Rattle.c_syntax.specs.declared.operator.TBinaryOp.{TBinaryOp}
use Rattle.c_syntax.specs.declared.operator.TBinaryOp.TheVariants as binaries
use Rattle.c_syntax.specs.declared.operator.DerefKind.{DerefKind}
use Rattle.c_syntax.specs.declared.operator.DerefKind.TheVariants as derefs
use Rattle.c_syntax.specs.TypedExpr.{TExprTree, Decay, Binary, TLvalueTree, Var, Deref, Member}
use Rattle.c_rules_effects.specs.declared.touch.Part.{Part}
use Rattle.c_rules_effects.specs.declared.touch.Part.TheVariants as parts
use Rattle.c_rules_effects.specs.declared.touch.Touch.{Touch}
use Rattle.c_rules_effects.specs.declared.touch.Touch.TheVariants.{Mem, Object}

-- one step further in
abbrev pub extended : Touch → Part → Touch
extended Mem part = Mem
extended (Object n path) part = Object n (path ++ part ∷ [])

abbrev pub is_index : DerefKind → Bool
is_index derefs.Index = true
is_index kind = false

-- `a[i]` moves from the pointer on the left
abbrev pub moves_left : TBinaryOp → Bool
moves_left (binaries.PointerPlusInt size) = true
moves_left op = false

-- an object with members and indices of arrays; all else is named through a pointer
unfoldable mutual
  pub place_of : TLvalueTree → Touch
  place_of (Var at n ty is_const) = Object n []
  place_of (Member at k offset ty is_const place) = extended (place_of place) (parts.Member k)
  place_of (Deref at kind ty is_const pointer) = if is_index kind then element_of pointer else Mem

  -- the element to which the sum of an array and an index points
  pub element_of : TExprTree → Touch
  element_of (Binary at op left right) = if moves_left op then array_of left else Mem
  element_of e = Mem

  -- any element of an array, by the pointer to its first
  pub array_of : TExprTree → Touch
  array_of (Decay at place) = extended (place_of place) parts.Index
  array_of e = Mem
