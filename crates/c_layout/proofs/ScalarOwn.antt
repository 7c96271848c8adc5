-- A type without parts, and a walk from a type down to such a one.
use Rattle.std.proofs.Common.{◌≡◌, ℕ, ◌-◌, ◌<◌, Bool, List, length, refl, sym, ap, subst, ◌∙◌, arith}
use Rattle.std.specs.Prelude.{Option, None, Some, IfSome}
use Rattle.c_syntax.specs.declared.types.CType.{CType}
use Rattle.c_syntax.specs.declared.types.CType.TheVariants as types
use Rattle.c_syntax.specs.Types.{CTypeTree, ctype_tree, Void, Int, Pointer, Array, Struct, Function}
use Rattle.c_syntax.specs.Program.{StructDefTree}
use Rattle.c_layout.specs.Layout.{size_in}
use Rattle.c_layout.specs.Kept.{element}
use Rattle.c_layout.specs.Heights.{held, Falls}
use Rattle.c_layout.specs.ProperTypes.{IsProperType, PartAt, whole, element as in_element, member as in_member}
use Rattle.c_layout.specs.RowTypes.{IsScalar}
use Rattle.c_layout.specs.Scalars.{IsScalarAt, HasNoParts, HaveSame, IsMemberType}
use Rattle.c_layout.proofs.ScalarMembers.{member_has}

pub own : {structs : List StructDefTree} {ty part : CTypeTree} {offset : ℕ} → HasNoParts ty → PartAt structs ty offset part → (offset ≡ 0) × (part ≡ ty)
own h (whole ty) = (refl, refl)
own h (in_element of part is_const n k size inner at lt es p ea) = absurd h
own h (in_member ty part n k offset inner at em eo p ea) = absurd h

pub is_own : (structs : List StructDefTree) (ty : CTypeTree) (offset size : ℕ) → offset ≡ 0 → IsScalar ty × (size_in structs ty ≡ Some size) → IsScalarAt structs ty offset size ty
is_own structs ty offset size e h = record { part = subst (λ x. PartAt structs ty x ty) (sym e) (whole ty); scalar = h.0; bytes = h.1 }

-- the element of an array of arrays is none
never_array : (ty of : CTypeTree) (c : Bool) (n : ℕ) → element ty ≡ Array of c n → ⊥
never_array Void of c n e = cc
never_array (Int t) of c n e = cc
never_array (Pointer to is_const) of c n e = cc
never_array (Array ty is_const k) of c n e = never_array ty of c n e
never_array (Struct k) of c n e = cc
never_array (Function k) of c n e = cc

pub no_parts : (b : CType) (ty : CTypeTree) → ctype_tree b ≡ element ty → ((n : ℕ) → b ≡ types.Struct n → ⊥) → HasNoParts (ctype_tree b)
unfolding ctype_tree
no_parts types.Void ty e other = tt
no_parts (types.Int t) ty e other = tt
no_parts (types.Pointer' place to is_const) ty e other = tt
no_parts (types.Array' place of is_const n) ty e other = never_array ty _ _ _ (sym e)
no_parts (types.Struct n) ty e other = other n refl
no_parts (types.Function n) ty e other = tt

pub held_element : (ty : CTypeTree) → held (element ty) ≡ held ty
held_element Void = refl
held_element (Int t) = refl
held_element (Pointer to is_const) = refl
held_element (Array of is_const n) = held_element of
held_element (Struct n) = refl
held_element (Function n) = refl

-- how deep structs may still stand in the type, by every rank
abbrev pub IsDeep : List StructDefTree → CTypeTree → ℕ → Type 0
IsDeep structs ty left =
    (rank : ℕ → ℕ) → Falls structs rank → ((n : ℕ) → n < length structs → rank n < length structs) → IfSome (held ty) (λ n. rank n < left)

held_there : (structs : List StructDefTree) (ty : CTypeTree) → IsProperType structs ty → IfSome (held ty) (λ n. n < length structs)
held_there structs Void h = tt
held_there structs (Int t) h = tt
held_there structs (Pointer to is_const) h = tt
held_there structs (Array of is_const n) h = held_there structs of h.0
held_there structs (Struct n) h = h.0
held_there structs (Function n) h = tt

then : (o : Option ℕ) (P Q : ℕ → Type 0) → ((k : ℕ) → P k → Q k) → IfSome o P → IfSome o Q
then None P Q f h = h
then (Some k) P Q f h = f k h

pub deep_at_first : (structs : List StructDefTree) (ty : CTypeTree) → IsProperType structs ty → IsDeep structs ty (length structs)
deep_at_first structs ty proper rank falls bounded = then (held ty) (λ n. n < length structs) (λ n. rank n < length structs) bounded (held_there structs ty proper)

pub deep_of_struct : (structs : List StructDefTree) (ty : CTypeTree) (n left : ℕ) → element ty ≡ Struct n → IsDeep structs ty left → (rank : ℕ → ℕ) → Falls structs rank → ((n : ℕ) → n < length structs → rank n < length structs) → rank n < left
deep_of_struct structs ty n left e deep rank falls bounded =
    subst (λ o. IfSome o (λ k. rank k < left)) (sym (held_element ty) ∙ ap held e) (deep rank falls bounded)

pub deep_of_member : (structs : List StructDefTree) (ty inner : CTypeTree) (n left : ℕ) → element ty ≡ Struct n → IsDeep structs ty left → IsMemberType structs n inner → IsDeep structs inner (left - 1)
deep_of_member structs ty inner n left e deep h rank falls bounded =
    let low = deep_of_struct structs ty n left e deep rank falls bounded in
    then (held inner) (λ k. rank k < rank n) (λ k. rank k < left - 1) (λ k below. omega arith)
    (member_has (λ t. IfSome (held t) (λ k. rank k < rank n)) structs n inner (falls n) h)

pub same_then : (structs : List StructDefTree) (a b c : CTypeTree) (i k l : ℕ) → HaveSame structs a i b k → HaveSame structs b k c l → HaveSame structs a i c l
same_then structs a b c i k l f g size ty = (λ h. (g size ty).0 ((f size ty).0 h), λ h. (f size ty).1 ((g size ty).1 h))

-- what is promised of one type holds of another with the same scalars
pub carried : {X : Type 0} (structs : List StructDefTree) (a b : CTypeTree) (i k size : ℕ) (f : X → CTypeTree) (o : Option X) → HaveSame structs a i b k → IfSome o (λ x. IsScalarAt structs b k size (f x)) → IfSome o (λ x. IsScalarAt structs a i size (f x))
carried structs a b i k size f None same h = tt
carried structs a b i k size f (Some x) same h = (same size (f x)).1 h
