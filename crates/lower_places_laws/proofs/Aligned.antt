-- The steps of a named place are multiples of the alignment of each part of what stands there.
use Rattle.std.proofs.Common.{◌≡◌, ◌+◌, ◌-◌, ◌*◌, ◌%◌, ◌/◌, ◌<◌, ℕ, Bool, List, Option, Some, None, arith, refl, sym, ap, subst, ◌∙◌, slice_get}
use Rattle.std.specs.Prelude.{IsSomeAnd, All}
use Rattle.std.proofs.lemmas.Option.{get_or_from_slice_get, slice_get_within}
use Rattle.std.proofs.Math.Nat.{div-add-mod, mul-sub}
use Rattle.c_syntax.specs.declared.operator.TBinaryOp.TheVariants as binaries
use Rattle.c_syntax.specs.Types.{CTypeTree, Void, Int, Pointer, Array, Struct, Function, ObjectTree}
use Rattle.c_syntax.specs.TypedExpr.{TExprTree, TLvalueTree, Binary, Decay, Var, Deref, Member}
use Rattle.c_syntax.specs.TypedParts.{decayed, tlvalue_type}
use Rattle.c_syntax.specs.Program.{StructDefTree, TProgramTree}
use Rattle.c_layout.specs.Layout.{align_in, size_in, offset_at, member_spaces, members_of}
use Rattle.c_layout.specs.ProperTypes.{IsProperType, PartAt, whole, element, member}
use Rattle.c_layout.specs.RowTypes.{PointsToSize}
use Rattle.c_layout.specs.TypedNodes.{Scope, IsArray, IsTypedExpr, IsTypedPlace, VarRow}
use Rattle.c_layout.specs.WellTyped.{IsWellTyped, IsTypedObject}
use Rattle.c_layout.proofs.Alignments.{parts_aligned}
use Rattle.c_layout.proofs.ScalarMembers.{member_proper}
use Rattle.lower_trees.specs.Named.{AreSteps, IsMultipleOf, IsNamedPlace, is_var, is_member, is_index}
use Rattle.lower_trees.proofs.NamedPlaces.{named_places_stay}
use Rattle.lower_places_laws.specs.Laws.{NamedPlacesAreAligned}

-- what is left of a multiple without another is one
rest_multiple : (a x y : ℕ) → (x + y) % a ≡ 0 → y % a ≡ 0 → IsMultipleOf a x
rest_multiple a x y both one =
    let sum : a * ((x + y) / a) + (x + y) % a ≡ x + y = div-add-mod (x + y) a in
    let part : a * (y / a) + y % a ≡ y = div-add-mod y a in
    let rest : x ≡ a * ((x + y) / a) - a * (y / a) = omega arith in
    ((x + y) / a - y / a, rest ∙ sym (mul-sub a ((x + y) / a) (y / a)))

module _ (p : TProgramTree) (w : IsWellTyped p) where
  at_multiple : (ty part : CTypeTree) (offset : ℕ) → PartAt p.structs ty offset part → offset % align_in p.structs part ≡ 0
  at_multiple ty part offset at = parts_aligned p.structs w.structs.laid_out w.structs.founded ty part offset at

  -- the offset of a member, and the size of an element, are multiples of the alignment of what stands in them
  member_multiple : (ty part : CTypeTree) (n k offset inner : ℕ) → IsSomeAnd (slice_get (members_of p.structs n) k) (λ m. m.ty ≡ ty)
      → offset_at (member_spaces p.structs n) k ≡ Some offset → PartAt p.structs ty inner part → IsMultipleOf (align_in p.structs part) offset
  member_multiple ty part n k offset inner is place at =
      rest_multiple (align_in p.structs part) offset inner
      (at_multiple (Struct n) part (offset + inner) (member ty part n k offset inner (offset + inner) is place at refl)) (at_multiple ty part inner at)

  element_multiple : (of part : CTypeTree) (c : Bool) (size inner : ℕ) → size_in p.structs of ≡ Some size → PartAt p.structs of inner part
      → IsMultipleOf (align_in p.structs part) size
  element_multiple of part c size inner is at =
      let one : size + inner ≡ 1 * size + inner = omega arith in
      let less : 1 < 2 = omega arith in
      rest_multiple (align_in p.structs part) size inner
      (at_multiple (Array of c 2) part (size + inner) (element of part c 2 1 size inner (size + inner) less is at one)) (at_multiple of part inner at)

abbrev target_of : CTypeTree → CTypeTree
target_of (Pointer to c) = to
target_of ty = ty

-- an array that decays to a pointer to this type is one of such elements
array_of : (T ty : CTypeTree) (c b : Bool) → IsArray T → decayed T c ≡ Pointer ty b → (e : Bool) × (m : ℕ) × (T ≡ Array ty e m)
array_of (Array of e m) ty c b h is = (e, m, ap (λ x. Array (target_of x) e m) is)
array_of Void ty c b h is = absurd h
array_of (Int t) ty c b h is = absurd h
array_of (Pointer to e) ty c b h is = absurd h
array_of (Struct n) ty c b h is = absurd h
array_of (Function n) ty c b h is = absurd h

module _ (scope : Scope) (w : IsWellTyped scope.program) where
  var_proper : (x : ℕ) (ty : CTypeTree) (c : Bool) (o : Option ObjectTree) → slice_get scope.program.objects x ≡ o
      → IsSomeAnd o (λ object. VarRow scope object x ty c) → IsProperType scope.program.structs ty
  var_proper x ty c None e h = absurd h
  var_proper x ty c (Some object) e h =
      subst (IsProperType scope.program.structs) (sym h.type_of) (subst (IsTypedObject scope.program.structs) (get_or_from_slice_get scope.program.objects x object object e)
      (w.objects x object (slice_get_within scope.program.objects x object e))).ty

  -- the type of a named place is proper
  proper : {x : ℕ} {place : TLvalueTree} → IsNamedPlace x place → IsTypedPlace scope place → IsProperType scope.program.structs (tlvalue_type place)
  unfolding IsTypedExpr IsTypedPlace
  proper {x} (is_var at ty k) h = var_proper x ty k (slice_get scope.program.objects x) refl h
  proper (is_member at k offset ty q place n) (h, row) = member_proper scope.program.structs w.structs row.number ty (k, row.type_of)
  proper (is_index at kind ty q from n decay place index g) ((((ha, hd), hi, row), target)) =
      let (e, m, is) = array_of (tlvalue_type place) ty _ q hd target.target in (subst (IsProperType scope.program.structs) is (proper g ha)).0

  steps :
      {x : ℕ} {place : TLvalueTree} → IsNamedPlace x place → IsTypedPlace scope place → (part : CTypeTree) (i : ℕ)
      → PartAt scope.program.structs (tlvalue_type place) i part → AreSteps (align_in scope.program.structs part) place
  unfolding IsTypedExpr IsTypedPlace
  steps (is_var at ty k) h part i p = tt
  steps (is_member at k offset ty q place n) (h, row) part i p = (
    member_multiple scope.program w ty part row.number k offset i row.type_of row.place p,
    steps n h part (offset + i) (subst (λ T. PartAt scope.program.structs T (offset + i) part) (sym row.is_struct)
        (member ty part row.number k offset i (offset + i) row.type_of row.place p refl)),
  )
  steps (is_index at kind ty q from n decay place index g) (((ha, hd), hi, row), target) part i p =
      let (e, m, is) = array_of (tlvalue_type place) ty _ q hd target.target in
      let sized : size_in scope.program.structs ty ≡ Some n = subst (λ T. PointsToSize scope.program.structs T n) target.target row.0 in
      let some : 0 < m = (subst (IsProperType scope.program.structs) is (proper g ha)).1 in (
        element_multiple scope.program w ty part e n i sized p,
        steps g ha part (0 * n + i) (subst (λ T. PartAt scope.program.structs T (0 * n + i) part) (sym is)
            (element ty part e m 0 n i (0 * n + i) some sized p refl)),
      )

pub named_places_are_aligned : NamedPlacesAreAligned
named_places_are_aligned scope w d x place typed named =
    named_places_stay scope.program d x (align_in scope.program.structs (tlvalue_type place)) place named
    (steps scope w named typed (tlvalue_type place) 0 (whole (tlvalue_type place)))
