-- Members that are typed one after the other.
use Rattle.std.proofs.Common.{◌≡◌, ℕ, zero, suc, ◌*◌, ◌<◌, ◌≤◌, Bool, true, false, List, [], ◌∷◌, ◌++◌, length, map, refl, ap, sym, subst, ◌∙◌, inl, inr, arith}
use Rattle.std.specs.Prelude.{◌⊎◌, ◌+◌, ◌-◌, if◌then◌else◌, ◌^◌, nat_le, Option, None, Some, option_map, unwrap_or, IsTrue, slice_get}
use Rattle.std.proofs.lemmas.List.Sums.{fold-append}
use Rattle.std.proofs.lemmas.Bool.{cases_order, leb-true}
use Rattle.std.proofs.lemmas.List.{map-append, length-append, length-map, take_at, take-append-le}
use Rattle.std.proofs.lemmas.List.Elements.{All-nil, All-push}
use Rattle.std.proofs.lemmas.Option.{slice_get_past}
use Rattle.c_syntax.specs.Types.{CTypeTree, Void, Int, Pointer, Array, Struct, Function}
use Rattle.c_syntax.specs.Program.{MemberTree, StructDefTree}
use Rattle.c_layout.specs.declared.layout.Sized.TheVariants.{Fits, Oversize}
use Rattle.c_layout.specs.ProperTypes.{IsTold}
use Rattle.c_layout.specs.Layout.{sized, Space, space_by, spaces_by, struct_space, members_of, in_table, laid_out, size_in, align_in, padded, member_end, members_end, offset_at}
use Rattle.c_typing.specs.Operands.{told_size, is_unsized, complete_size}
use Rattle.c_typing.specs.Later.{has_members}
use Rattle.c_typing.specs.World.{World}
use Rattle.c_typing.specs.Typing.{MemberMade, members_made, end_of, last_end}
use Rattle.c_typing.proofs.MadeTables.{IsHeldComplete, IsMade, AreMade, get_last, space_held, any_held}

pub nothing_made : (structs : List StructDefTree) → AreMade structs []
nothing_made structs = record { complete = All-nil (λ member. IsHeldComplete structs member.ty); offsets = λ k. refl }

-- ---- a type that has a size

struct_full : (spaces : List Space) (members : List MemberTree) (f : MemberTree → Space) (size : ℕ) → (struct_space (map f members)).size ≡ Some size → IsTrue (has_members members)
struct_full spaces [] f size e = absurd cc
struct_full spaces (m ∷ rest) f size e = refl

array_size : (n size : ℕ) (o : Option ℕ) → option_map (λ s. n * s) o ≡ Some size → (s : ℕ) × (o ≡ Some s)
array_size n size None e = absurd cc
array_size n size (Some s) e = (s, refl)

pub size_held : (structs : List StructDefTree) (ty : CTypeTree) (size : ℕ) → size_in structs ty ≡ Some size → IsHeldComplete structs ty
size_held structs Void size e = tt
size_held structs (Int t) size e = tt
size_held structs (Pointer to c) size e = tt
size_held structs (Array of c n) size e = let s = array_size n size (size_in structs of) e in size_held structs of s.0 s.1
size_held structs (Struct n) size e = struct_full [] (members_of structs n) _ size e
size_held structs (Function n) size e = tt

-- a size that is told is the size, and not above 2 to the 40
record Told (o : Option ℕ) (size : ℕ) : Type 0 where
  is : o ≡ Some size
  most : IsTold size

told_fits : (n size : ℕ) (fits : Bool) → nat_le n (2 ^ 40) ≡ fits → told_size (if fits then Fits n else Oversize) ≡ Some size → Told (Some n) size
told_fits n size true h e = let same : n ≡ size = cc in record { is = e; most = subst IsTold same (leb-true n (2 ^ 40) h) }
told_fits n size false h e = absurd cc

told_size_is : (o : Option ℕ) (size : ℕ) → told_size (sized o) ≡ Some size → Told o size
told_size_is None size e = absurd cc
told_size_is (Some n) size e = told_fits n size (nat_le n (2 ^ 40)) refl e

complete_told : (unsized : Bool) (o : Option ℕ) (size : ℕ) → (if unsized then None else told_size (sized o)) ≡ Some size → Told o size
complete_told true o size e = absurd cc
complete_told false o size e = told_size_is o size e

pub complete_is_size : (structs : List StructDefTree) (ty : CTypeTree) (size : ℕ) → complete_size structs ty ≡ Some size → size_in structs ty ≡ Some size
complete_is_size structs ty size e = (complete_told (is_unsized ty) (size_in structs ty) size e).is

pub complete_is_told : (structs : List StructDefTree) (ty : CTypeTree) (size : ℕ) → complete_size structs ty ≡ Some size → IsTold size
complete_is_told structs ty size e = (complete_told (is_unsized ty) (size_in structs ty) size e).most

pub complete_held : (structs : List StructDefTree) (ty : CTypeTree) (size : ℕ) → complete_size structs ty ≡ Some size → IsHeldComplete structs ty
complete_held structs ty size e = size_held structs ty size (complete_is_size structs ty size e)

-- ---- one member more

get_left : {A : Type 0} (xs ys : List A) (k : ℕ) → k < length xs → slice_get (xs ++ ys) k ≡ slice_get xs k
get_left [] ys k h = absurd (omega arith)
get_left (x ∷ xs) ys zero h = refl
get_left (x ∷ xs) ys (suc k) h = get_left xs ys k (omega arith)

-- the members have the offsets of these spaces
abbrev AtOffsets : List MemberTree → List Space → Type 0
AtOffsets members spaces = (k : ℕ) → option_map (λ member. member.offset) (slice_get members k) ≡ offset_at spaces k

offset_before : (xs : List Space) (s : Space) (k : ℕ) → k < length xs → offset_at (xs ++ s ∷ []) k ≡ offset_at xs k
offset_before xs s k h = rw (get_left xs (s ∷ []) k h, take-append-le k xs (s ∷ []) (omega arith)) refl

offset_last : (xs : List Space) (s : Space) → offset_at (xs ++ s ∷ []) (length xs) ≡ Some (padded (members_end xs) s.align)
offset_last xs s = rw (get_last xs s, take_at xs (s ∷ []) (length xs) refl) refl

offset_behind : (xs : List Space) (k : ℕ) → length xs ≤ k → offset_at xs k ≡ None
offset_behind xs k h = rw (slice_get_past xs k h) refl

offsets_more : (members : List MemberTree) (f : MemberTree → Space) (m : MemberTree) → AtOffsets members (map f members) → m.offset ≡ padded (members_end (map f members)) (f m).align → AtOffsets (members ++ m ∷ []) (map f (members ++ m ∷ []))
offsets_more members f m at e k = subst (λ spaces. option_map (λ member. member.offset) (slice_get (members ++ m ∷ []) k) ≡ offset_at spaces k) (sym (map-append f members (m ∷ []))) (by (cases_order k (length members)))
  where
    long : length (map f members) ≡ length members
    long = length-map members f

    by : (k ≡ length members) ⊎ ((k < length members) ⊎ (length members < k)) → option_map (λ member. member.offset) (slice_get (members ++ m ∷ []) k) ≡ offset_at (map f members ++ f m ∷ []) k
    by (inl here) =
        ap (λ j. option_map (λ member. member.offset) (slice_get (members ++ m ∷ []) j)) here ∙ ap (option_map (λ member. member.offset)) (get_last members m)
        ∙ ap Some e ∙ sym (ap (λ j. offset_at (map f members ++ f m ∷ []) j) (here ∙ sym long) ∙ offset_last (map f members) (f m))
    by (inr (inl before)) =
        ap (option_map (λ member. member.offset)) (get_left members (m ∷ []) k before) ∙ at k ∙ sym (offset_before (map f members) (f m) k (rw long before))
    by (inr (inr behind)) =
        ap (option_map (λ member. member.offset)) (slice_get_past (members ++ m ∷ []) k (rw length-append (omega arith)))
        ∙ sym (offset_behind (map f members ++ f m ∷ []) k (rw (length-append, long) (omega arith)))

pub made_more :
    (structs : List StructDefTree) → IsMade structs → (members : List MemberTree) (m : MemberTree) → AreMade structs members → IsHeldComplete structs m.ty
    → m.offset ≡ padded (members_end (spaces_by (in_table structs) members)) (align_in structs m.ty) → AreMade structs (members ++ m ∷ [])
made_more structs made members m are h e = record {
  complete = All-push (λ member. IsHeldComplete structs member.ty) members m are.complete h;
  offsets = offsets_more members (λ member. space_by (in_table structs) member.ty) m are.offsets
      (e ∙ ap (λ space. padded (members_end (spaces_by (in_table structs) members)) space.align) (sym (space_held (in_table structs) (laid_out structs) m.ty (any_held m.ty made.laid_out.spaces))));
}

-- ---- where the last member ends

last_apart : {A : Type 0} (x : A) (xs : List A) → (front : List A) × ((last : A) × (x ∷ xs ≡ front ++ last ∷ []))
last_apart x [] = ([], (x, refl))
last_apart x (y ∷ ys) = behind x (last_apart y ys)
  where
    behind : {A : Type 0} (x : A) {xs : List A} → (front : List A) × ((last : A) × (xs ≡ front ++ last ∷ [])) → (front : List A) × ((last : A) × (x ∷ xs ≡ front ++ last ∷ []))
    behind x (front, (last, e)) = (x ∷ front, (last, ap (λ rest. x ∷ rest) e))

ends_at :
    (structs : List StructDefTree) (members : List MemberTree) (m : MemberTree) → AtOffsets (members ++ m ∷ []) (spaces_by (in_table structs) (members ++ m ∷ []))
    → m.offset + unwrap_or (space_by (in_table structs) m.ty).size 0 ≡ members_end (spaces_by (in_table structs) (members ++ m ∷ []))
ends_at structs members m at = ap (λ n. n + unwrap_or space.size 0) offset ∙ sym (ap members_end split ∙ fold-append member_end 0 spaces (space ∷ []))
  where
    space : Space
    space = space_by (in_table structs) m.ty

    spaces : List Space
    spaces = spaces_by (in_table structs) members

    split : spaces_by (in_table structs) (members ++ m ∷ []) ≡ spaces ++ space ∷ []
    split = map-append (λ member. space_by (in_table structs) member.ty) members (m ∷ [])

    long : length spaces ≡ length members
    long = length-map members (λ member. space_by (in_table structs) member.ty)

    there : Some m.offset ≡ Some (padded (members_end spaces) space.align)
    there = sym (ap (option_map (λ member. member.offset)) (get_last members m)) ∙ at (length members)
        ∙ ap (λ all. offset_at all (length members)) split ∙ ap (λ k. offset_at (spaces ++ space ∷ []) k) (sym long) ∙ offset_last spaces space

    offset : m.offset ≡ padded (members_end spaces) space.align
    offset = ap (λ o. unwrap_or o 0) there

ends_there :
    (w : World) (front : List MemberMade) (x : MemberMade) → AreMade w.structs (members_made (front ++ x ∷ []))
    → last_end w (front ++ x ∷ []) ≡ members_end (spaces_by (in_table w.structs) (members_made (front ++ x ∷ [])))
ends_there w front x are =
    ap (λ o. unwrap_or (option_map (end_of w) o) 0) there
    ∙ ends_at w.structs (members_made front) x.member (subst (λ members. AtOffsets members (spaces_by (in_table w.structs) members)) split are.offsets)
    ∙ ap (λ members. members_end (spaces_by (in_table w.structs) members)) (sym split)
  where
    split : members_made (front ++ x ∷ []) ≡ members_made front ++ x.member ∷ []
    split = map-append (λ made. made.member) front (x ∷ [])

    counted : length (front ++ x ∷ []) - 1 ≡ length front
    counted = rw length-append (omega arith)

    there : slice_get (front ++ x ∷ []) (length (front ++ x ∷ []) - 1) ≡ Some x
    there = ap (slice_get (front ++ x ∷ [])) counted ∙ get_last front x

ends_apart :
    (w : World) (done : List MemberMade) → (front : List MemberMade) × ((last : MemberMade) × (done ≡ front ++ last ∷ [])) → AreMade w.structs (members_made done)
    → last_end w done ≡ members_end (spaces_by (in_table w.structs) (members_made done))
ends_apart w done (front, (last, e)) =
    subst (λ all. AreMade w.structs (members_made all) → last_end w all ≡ members_end (spaces_by (in_table w.structs) (members_made all))) (sym e) (ends_there w front last)

-- of members that are made the last ends where they all end
pub last_ends : (w : World) (done : List MemberMade) → AreMade w.structs (members_made done) → last_end w done ≡ members_end (spaces_by (in_table w.structs) (members_made done))
last_ends w [] are = refl
last_ends w (x ∷ xs) are = ends_apart w (x ∷ xs) (last_apart x xs) are
