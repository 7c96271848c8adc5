-- A part of a type lies inside it, at an offset that the part's alignment divides.
use Rattle.std.proofs.Common.{◌≡◌, ℕ, zero, suc, ◌+◌, ◌*◌, ◌<◌, ◌≤◌, List, [], ◌∷◌, take, sym, ap, subst, arith}
use Rattle.std.specs.Prelude.{Option, None, Some, option_map, unwrap_or, IfSome, IsSomeAnd, fold, slice_get}
use Rattle.std.proofs.lemmas.Option.{slice_get_within}
use Rattle.std.proofs.Math.Nat.{mul-le-mul_right}
use Rattle.c_syntax.specs.Types.{CTypeTree, Array, Struct}
use Rattle.c_syntax.specs.Program.{MemberTree, StructDefTree}
use Rattle.c_layout.specs.Layout.{Space, padded, member_end, members_end, strictest, space_by, spaces_by, members_of, in_table, member_spaces, laid_out, space_of, size_in, offset_at}
use Rattle.c_layout.specs.Heights.{held}
use Rattle.c_layout.specs.LaidOut.{IsLaidOut}
use Rattle.c_layout.specs.ProperTypes.{PartAt, whole, element, member}
use Rattle.c_layout.proofs.Spaces.{struct_space-full}
use Rattle.c_layout.proofs.Unfolding.{space_by-held}

-- in a table that is laid out a type takes the same by what is stored and by what is laid out
pub some_of : (o : Option ℕ) (P : ℕ → Type 0) → ((k : ℕ) → P k) → IfSome o P
some_of None P f = tt
some_of (Some k) P f = f k

pub stored_same : (structs : List StructDefTree) → IsLaidOut structs → (ty : CTypeTree) → space_by (in_table structs) ty ≡ space_of structs ty
stored_same structs is ty = space_by-held (in_table structs) (laid_out structs) ty (some_of (held ty) (λ k. in_table structs k ≡ laid_out structs k) is.spaces)

pub member_space : (struct : ℕ → Space) (members : List MemberTree) (k : ℕ) (ty : CTypeTree) → IsSomeAnd (slice_get members k) (λ m. m.ty ≡ ty) → slice_get (spaces_by struct members) k ≡ Some (space_by struct ty)
member_space struct [] k ty h = absurd h
member_space struct (m ∷ members) zero ty h = ap (λ t. Some (space_by struct t)) h
member_space struct (m ∷ members) (suc k) ty h = member_space struct members k ty h

pub offset_is : (ms : List Space) (k : ℕ) (m : Space) (offset : ℕ) → slice_get ms k ≡ Some m → offset_at ms k ≡ Some offset → offset ≡ padded (members_end (take k ms)) m.align
offset_is ms k m offset e is =
    let at : offset_at ms k ≡ Some (padded (members_end (take k ms)) m.align) = ap (option_map (λ member. padded (members_end (take k ms)) member.align)) e in
    cc

pub goes_up : (at : ℕ) (ms : List Space) → at ≤ fold member_end at ms
goes_up at [] = omega arith
goes_up at (m ∷ ms) = let h = goes_up (member_end at m) ms in omega arith

ends_before : (at : ℕ) (ms : List Space) (k : ℕ) (m : Space) → slice_get ms k ≡ Some m → member_end (fold member_end at (take k ms)) m ≤ fold member_end at ms
ends_before at [] k m e = absurd (cc)
ends_before at (x ∷ ms) zero m e =
    let same : x ≡ m = cc in
    subst (λ y. member_end at y ≤ fold member_end (member_end at x) ms) same (goes_up (member_end at x) ms)
ends_before at (x ∷ ms) (suc k) m e = ends_before (member_end at x) ms k m e

-- each member ends where the last one does, or before
pub member_inside : (ms : List Space) (k : ℕ) (m : Space) (offset : ℕ) → slice_get ms k ≡ Some m → offset_at ms k ≡ Some offset → offset + unwrap_or m.size 0 ≤ members_end ms
member_inside ms k m offset e is =
    let h = ends_before 0 ms k m e in
    let from = offset_is ms k m offset e is in
    omega arith

pub struct_full : (structs : List StructDefTree) (n k : ℕ) (m : Space) → slice_get (member_spaces structs n) k ≡ Some m → laid_out structs n ≡ record { size = Some (padded (members_end (member_spaces structs n)) (strictest (member_spaces structs n))); align = strictest (member_spaces structs n) }
struct_full structs n k m e = let h = slice_get_within (member_spaces structs n) k m e in struct_space-full (member_spaces structs n) (omega arith)

-- an element's end is at most the array's
times : (n k s inner part : ℕ) → k < n → inner + part ≤ s → (k * s + inner) + part ≤ n * s
times n k s inner part lt h =
    let more : suc k * s ≤ n * s = mul-le-mul_right s lt in
    omega arith

element_inside : (n k : ℕ) (o : Option ℕ) (size inner part : ℕ) → o ≡ Some size → k < n → IsSomeAnd o (λ s. inner + part ≤ s) → IsSomeAnd (option_map (λ s. n * s) o) (λ s. (k * size + inner) + part ≤ s)
element_inside n k None size inner part e lt h = absurd h
element_inside n k (Some s) size inner part e lt h =
    let same : s ≡ size = cc in
    subst (λ x. (k * x + inner) + part ≤ n * s) same (times n k s inner part lt h)

-- a member whose size is there ends where its part does, or behind
within : (o : Option ℕ) (offset inner part top : ℕ) → IsSomeAnd o (λ s. inner + part ≤ s) → offset + unwrap_or o 0 ≤ top → (offset + inner) + part ≤ top
within None offset inner part top h below = absurd h
within (Some s) offset inner part top h below = omega arith

some_and : (o : Option ℕ) (n : ℕ) (P : ℕ → Type 0) → o ≡ Some n → P n → IsSomeAnd o P
some_and o n P e p = subst (λ x. IsSomeAnd x P) (sym e) p

member_ends : (structs : List StructDefTree) → IsLaidOut structs → (ty : CTypeTree) (n k offset inner part : ℕ) → slice_get (member_spaces structs n) k ≡ Some (space_by (in_table structs) ty) → offset_at (member_spaces structs n) k ≡ Some offset → IsSomeAnd (size_in structs ty) (λ s. inner + part ≤ s) → IsSomeAnd (size_in structs (Struct n)) (λ s. (offset + inner) + part ≤ s)
member_ends structs is ty n k offset inner part there at h =
    let spaces = member_spaces structs n in
    let space = space_by (in_table structs) ty in
    let fits = subst (λ x. IsSomeAnd x.size (λ s. inner + part ≤ s)) (sym (stored_same structs is ty)) h in
    let below = member_inside spaces k space offset there at in
    let ends = within space.size offset inner part (members_end spaces) fits below in
    some_and _ _ _ (ap (λ x. x.size) (struct_full structs n k space there)) (omega arith)

pub inside : (structs : List StructDefTree) → IsLaidOut structs → {ty part : CTypeTree} {offset : ℕ} (size : ℕ) → PartAt structs ty offset part → size_in structs part ≡ Some size → IsSomeAnd (size_in structs ty) (λ n. offset + size ≤ n)
inside structs is size (whole ty) e = some_and _ _ _ e (omega arith)
inside structs is size (element of part is_const n k s inner at lt es p ea) e =
    subst (λ x. IsSomeAnd (size_in structs (Array of is_const n)) (λ top. x + size ≤ top)) (sym ea)
    (element_inside n k (size_in structs of) s inner size es lt (inside structs is size p e))
inside structs is size (member ty part n k offset inner at em eo p ea) e =
    subst (λ x. IsSomeAnd (size_in structs (Struct n)) (λ top. x + size ≤ top)) (sym ea)
    (member_ends structs is ty n k offset inner size (member_space (in_table structs) (members_of structs n) k ty em) eo (inside structs is size p e))
