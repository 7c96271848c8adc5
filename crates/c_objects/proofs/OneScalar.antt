-- At an offset of a type stands one scalar at most.
use Rattle.std.proofs.Common.{◌≡◌, ℕ, ◌+◌, ◌*◌, ◌%◌, ◌<◌, ◌≤◌, sym, subst, ap, ◌∙◌, arith, List, inl, inr, Option, Some, None}
use Rattle.std.specs.Prelude.{Bool, unwrap_or, IsSomeAnd, slice_get}
use Rattle.std.proofs.lemmas.Bool.{cases_lt}
use Rattle.std.proofs.Math.Nat.{add-mul-mod_self_right, mod-eq_of_lt}
use Rattle.c_syntax.specs.Types.{CTypeTree, Void, Int, Pointer, Array, Struct, Function}
use Rattle.c_syntax.specs.Program.{MemberTree, StructDefTree}
use Rattle.c_layout.specs.LaidOut.{IsLaidOut}
use Rattle.c_layout.specs.Layout.{members_of, member_spaces, size_in, offset_at}
use Rattle.c_layout.specs.ProperTypes.{PartAt, whole, element as in_element, member as in_member}
use Rattle.c_layout.specs.RowTypes.{IsScalar}
use Rattle.c_layout.specs.Scalars.{IsScalarAt, HasNoParts}
use Rattle.c_layout.proofs.ScalarMembers.{rising, member_fits, found, offset_told}
use Rattle.c_layout.proofs.ScalarOwn.{own}
use Rattle.c_layout.proofs.ScalarParts.{some_same}
use Rattle.c_objects.specs.Cells.{IsFoundAt}

no_parts_in : (ty : CTypeTree) → IsScalar ty → HasNoParts ty
no_parts_in (Int t) s = tt
no_parts_in (Pointer to is_const) s = tt
no_parts_in Void s = absurd s
no_parts_in (Array of is_const n) s = absurd s
no_parts_in (Struct n) s = absurd s
no_parts_in (Function n) s = absurd s

module _ (structs : List StructDefTree) (is : IsLaidOut structs) where
  -- a member of this type begins at this offset of a struct
  record IsMember (n k start : ℕ) (ty : CTypeTree) : Type 0 where
    there : IsSomeAnd (slice_get (members_of structs n) k) (λ m. m.ty ≡ ty)
    begins : offset_at (member_spaces structs n) k ≡ Some start

  apart : (n j k a b : ℕ) (ta tb : CTypeTree) → IsMember n j a ta → IsMember n k b tb → j < k → a + unwrap_or (size_in structs ta) 0 ≤ b
  apart n j k a b ta tb f g lt =
      let x = found (slice_get (members_of structs n) j) ta f.there in
      let y = found (slice_get (members_of structs n) k) tb g.there in
      let from : a ≡ x.0.offset = some_same (sym f.begins ∙ offset_told structs is n j x.0 x.1) in
      let to : b ≡ y.0.offset = some_same (sym g.begins ∙ offset_told structs is n k y.0 y.1) in
      let size = ap (λ ty. unwrap_or (size_in structs ty) 0) x.2 in
      let ends = rising structs is n j k x.0 y.0 lt x.1 y.1 in
      omega (arith, ends, from, to, size)

  -- ---- parts that are scalars

  record InElement (of part : CTypeTree) (at : ℕ) : Type 0 where
    k : ℕ
    each : ℕ
    inner : ℕ
    sized : size_in structs of ≡ Some each
    part_in : PartAt structs of inner part
    place : at ≡ k * each + inner

  in_array : {of part : CTypeTree} {c : Bool} {n at : ℕ} → IsScalar part → PartAt structs (Array of c n) at part → InElement of part at
  in_array s (whole ty) = absurd s
  in_array s (in_element of part c n k each inner at lt es p ea) = record { k = k; each = each; inner = inner; sized = es; part_in = p; place = ea }

  record InMember (n : ℕ) (part : CTypeTree) (at : ℕ) : Type 0 where
    ty : CTypeTree
    k : ℕ
    start : ℕ
    inner : ℕ
    is_member : IsMember n k start ty
    part_in : PartAt structs ty inner part
    place : at ≡ start + inner

  in_struct : {part : CTypeTree} {n at : ℕ} → IsScalar part → PartAt structs (Struct n) at part → InMember n part at
  in_struct s (whole ty) = absurd s
  in_struct s (in_member ty part n k start inner at em eo p ea) =
      record { ty = ty; k = k; start = start; inner = inner; is_member = record { there = em; begins = eo }; part_in = p; place = ea }

  remainder_is : (k each inner at : ℕ) → inner < each → at ≡ k * each + inner → at % each ≡ inner
  remainder_is k each inner at lt e =
      let turned : at ≡ inner + k * each = omega (arith, e) in
      ap (λ n. n % each) turned ∙ add-mul-mod_self_right inner k each ∙ mod-eq_of_lt lt

  same_type : (o : Option MemberTree) (a b : CTypeTree) → IsSomeAnd o (λ m. m.ty ≡ a) → IsSomeAnd o (λ m. m.ty ≡ b) → a ≡ b
  same_type None a b h g = absurd h
  same_type (Some m) a b h g = sym h ∙ g

  one_part : {ty a : CTypeTree} {at : ℕ} (b : CTypeTree) (x y : ℕ) → IsScalar a → IsScalar b → size_in structs a ≡ Some x → size_in structs b ≡ Some y
      → PartAt structs ty at a → PartAt structs ty at b → a ≡ b
  one_part b x y s r ea eb (whole ty) q = sym (own (no_parts_in ty s) q).1
  one_part b x y s r ea eb (in_element of a c n k each inner at lt es p e) q =
      let other = in_array r q in
      let same : other.each ≡ each = some_same (sym other.sized ∙ es) in
      let size : unwrap_or (size_in structs of) 0 ≡ each = ap (λ (o : Option ℕ). unwrap_or o 0) es in
      let low : inner < each = subst (λ z. inner < z) size (member_fits structs is of a inner x s ea p) in
      let low' : other.inner < each = subst (λ z. other.inner < z) size (member_fits structs is of b other.inner y r eb other.part_in) in
      let place : at ≡ other.k * each + other.inner = other.place ∙ ap (λ z. other.k * z + other.inner) same in
      let inners : other.inner ≡ inner = sym (remainder_is other.k each other.inner at low' place) ∙ remainder_is k each inner at low e in
      one_part b x y s r ea eb p (subst (λ z. PartAt structs of z b) inners other.part_in)
  one_part b x y s r ea eb (in_member ty a n k start inner at em eo p e) q =
      let other = in_struct r q in
      let mine : IsMember n k start ty = record { there = em; begins = eo } in
      let low = member_fits structs is ty a inner x s ea p in
      let low' = member_fits structs is other.ty b other.inner y r eb other.part_in in
      elim (cases_lt k other.k) [
        | inl h ↦
            let ends = apart n k other.k start other.start ty other.ty mine other.is_member h in
            let place = other.place in absurd (omega (arith, ends, low, e, place))
        | inr h ↦ elim (cases_lt other.k k) [
          | inl g ↦
              let ends = apart n other.k k other.start start other.ty ty other.is_member mine g in
              let place = other.place in absurd (omega (arith, ends, low', e, place))
          | inr g ↦
              let here : other.k ≡ k = omega arith in
              let types : other.ty ≡ ty = same_type (slice_get (members_of structs n) k) other.ty ty
              (subst (λ z. IsSomeAnd (slice_get (members_of structs n) z) (λ m. m.ty ≡ other.ty)) here other.is_member.there) em in
              let starts : other.start ≡ start = some_same (sym other.is_member.begins ∙ ap (offset_at (member_spaces structs n)) here ∙ eo) in
              let inners : other.inner ≡ inner = let place = other.place in omega (arith, place, e, starts) in
              one_part b x y s r ea eb p (subst (λ z. PartAt structs z inner b) types (subst (λ z. PartAt structs other.ty z b) inners other.part_in))
        ]
      ]

  -- so it is the one that is found
  pub found_at : (ty : CTypeTree) (offset size : ℕ) (scalar : CTypeTree) → IsScalarAt structs ty offset size scalar
      → IsFoundAt structs ty offset size (Some scalar)
  found_at ty offset size scalar s = record {
    there = s;
    only = λ other r. one_part scalar size size r.scalar s.scalar r.bytes s.bytes r.part s.part;
  }
