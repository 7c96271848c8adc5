-- Alignments are 1, 2, 4 or 8, so that the greater of two is a multiple of the other.
use Rattle.std.proofs.Common.{◌≡◌, ℕ, zero, suc, ◌+◌, ◌-◌, ◌*◌, ◌%◌, ◌<◌, ◌≤◌, max, List, [], ◌∷◌, take, map, refl, sym, ap, subst, ◌∙◌, inl, inr, arith}
use Rattle.std.specs.Prelude.{◌⊎◌, ◌≢◌, Option, None, Some, option_map, IfSome, All, fold, slice_get, slice_index_or}
use Rattle.std.proofs.lemmas.Bool.{cases_lt}
use Rattle.std.proofs.lemmas.Bool.Decides.{nat_tests}
use Rattle.std.proofs.lemmas.Nat.{mul-mod_second}
use Rattle.std.proofs.Math.Nat.{mod_self}
use Rattle.c_syntax_written.specs.declared.int_type.IntType.{IntType}
use Rattle.c_syntax_written.specs.declared.int_type.IntType.TheVariants as ints
use Rattle.c_syntax_written.specs.Integer.{bytes}
use Rattle.c_syntax.specs.Types.{CTypeTree, Void, Int, Pointer, Array, Struct, Function}
use Rattle.c_syntax.specs.Program.{MemberTree, StructDefTree}
use Rattle.c_layout.specs.Layout.{Space, padded, members_end, strictest, struct_space, space_by, members_of, in_table, member_spaces, laid_out, size_in, align_in, offset_at}
use Rattle.c_layout.specs.Heights.{held, Falls, NoneHoldsItself}
use Rattle.c_layout.specs.LaidOut.{IsLaidOut}
use Rattle.c_layout.specs.ProperTypes.{PartAt, whole, element, member}
use Rattle.c_layout.proofs.Unfolding.{some_map}
use Rattle.c_layout.proofs.Parts.{some_of, stored_same, member_space, offset_is, struct_full}

pub data IsAlignment : ℕ → Type 0 where
  one : IsAlignment 1
  two : IsAlignment 2
  four : IsAlignment 4
  eight : IsAlignment 8

greater : {a b : ℕ} → IsAlignment a → IsAlignment b → IsAlignment (max a b)
greater {a} {b} p q = elim (cases_lt a b) [
  | inl h ↦ let is : b ≡ max a b = omega arith in subst IsAlignment is q
  | inr h ↦ let is : a ≡ max a b = omega arith in subst IsAlignment is p
]

-- what a greater alignment divides, a smaller one does
divides : {a b : ℕ} → IsAlignment a → IsAlignment b → a ≤ b → (x : ℕ) → x % b ≡ 0 → x % a ≡ 0
divides one q h x e = omega arith
divides two one h x e = absurd (omega arith)
divides two two h x e = e
divides two four h x e = omega arith
divides two eight h x e = omega arith
divides four one h x e = absurd (omega arith)
divides four two h x e = absurd (omega arith)
divides four four h x e = e
divides four eight h x e = omega arith
divides eight one h x e = absurd (omega arith)
divides eight two h x e = absurd (omega arith)
divides eight four h x e = absurd (omega arith)
divides eight eight h x e = e

divides_sum : {a : ℕ} → IsAlignment a → (x y : ℕ) → x % a ≡ 0 → y % a ≡ 0 → (x + y) % a ≡ 0
divides_sum one x y e f = omega arith
divides_sum two x y e f = omega arith
divides_sum four x y e f = omega arith
divides_sum eight x y e f = omega arith

divides_zero : {a : ℕ} → IsAlignment a → 0 % a ≡ 0
divides_zero one = refl
divides_zero two = refl
divides_zero four = refl
divides_zero eight = refl

divides_product : {a : ℕ} → IsAlignment a → (k x : ℕ) → x % a ≡ 0 → (k * x) % a ≡ 0
divides_product {a} p k x e = sym (mul-mod_second k x a) ∙ ap (λ y. (k * y) % a) e ∙ ap (λ y. y % a) (omega arith) ∙ divides_zero p

padded_at : (at a : ℕ) → ((at % a ≡ 0) × (padded at a ≡ at)) ⊎ ((at % a ≢ 0) × (padded at a ≡ at + (a - at % a)))
padded_at at a = grind (arith, nat_tests)

past : {a : ℕ} → IsAlignment a → (at : ℕ) → (at + (a - at % a)) % a ≡ 0
past one at = omega arith
past two at = omega arith
past four at = omega arith
past eight at = omega arith

divides_padded : {a : ℕ} → IsAlignment a → (at : ℕ) → padded at a % a ≡ 0
divides_padded {a} p at = elim (padded_at at a) [
  | inl h ↦ ap (λ x. x % a) h.1 ∙ h.0
  | inr h ↦ ap (λ x. x % a) h.1 ∙ past p at
]

int_alignment : (t : IntType) → IsAlignment (bytes t)
int_alignment ints.Char = one
int_alignment ints.SChar = one
int_alignment ints.UChar = one
int_alignment ints.Short = two
int_alignment ints.UShort = two
int_alignment ints.Int = four
int_alignment ints.UInt = four
int_alignment ints.Long = eight
int_alignment ints.ULong = eight
int_alignment ints.LLong = eight
int_alignment ints.ULLong = eight

type_alignment : (struct : ℕ → Space) (ty : CTypeTree) → IfSome (held ty) (λ k. IsAlignment (struct k).align) → IsAlignment (space_by struct ty).align
type_alignment struct Void h = one
type_alignment struct (Int t) h = int_alignment t
type_alignment struct (Pointer to is_const) h = eight
type_alignment struct (Array of is_const n) h = type_alignment struct of h
type_alignment struct (Struct n) h = h
type_alignment struct (Function n) h = one

fold_alignment : (f : MemberTree → Space) (members : List MemberTree) (a : ℕ) → IsAlignment a → All (λ m. IsAlignment (f m).align) members → IsAlignment (fold (λ align space. max align space.align) a (map f members))
fold_alignment f [] a p h = p
fold_alignment f (m ∷ members) a p h =
    fold_alignment f members (max a (f m).align) (greater p (h 0 m (omega arith))) (λ k d lt. h (suc k) d (omega arith))

struct_alignment : (spaces : List Space) → IsAlignment (strictest spaces) → IsAlignment (struct_space spaces).align
struct_alignment [] p = one
struct_alignment (first ∷ rest) p = p

laid_out_alignment : (structs : List StructDefTree) (rank : ℕ → ℕ) → Falls structs rank → IsLaidOut structs → (depth n : ℕ) → rank n < depth → IsAlignment (laid_out structs n).align
laid_out_alignment structs rank falls is zero n below = absurd (omega arith)
laid_out_alignment structs rank falls is (suc depth) n below =
    struct_alignment (member_spaces structs n) (fold_alignment (λ member. space_by (in_table structs) member.ty) (members_of structs n) 1 one
    (λ i d lt.
    let ty = (slice_index_or (members_of structs n) i d).ty in
    type_alignment (in_table structs) ty
    (some_map (held ty) (λ k. rank k < rank n) (λ k. IsAlignment (in_table structs k).align)
    (λ k lower. subst (λ space. IsAlignment space.align) (sym (is.spaces k)) (laid_out_alignment structs rank falls is depth k (omega arith)))
    (falls n i d lt))))

-- each type has one of the four
alignment : (structs : List StructDefTree) → IsLaidOut structs → NoneHoldsItself structs → (ty : CTypeTree) → IsAlignment (align_in structs ty)
alignment structs is founded ty =
    type_alignment (laid_out structs) ty
    (some_of (held ty) (λ k. IsAlignment (laid_out structs k).align)
    (λ k. laid_out_alignment structs founded.height founded.falls is (suc (founded.height k)) k (omega arith)))

goes_up : (a : ℕ) (spaces : List Space) → a ≤ fold (λ align space. max align space.align) a spaces
goes_up a [] = omega arith
goes_up a (m ∷ spaces) = let h = goes_up (max a m.align) spaces in omega arith

is_below : (a : ℕ) (spaces : List Space) (k : ℕ) (m : Space) → slice_get spaces k ≡ Some m → m.align ≤ fold (λ align space. max align space.align) a spaces
is_below a [] k m e = absurd (cc)
is_below a (x ∷ spaces) zero m e =
    let same : x ≡ m = cc in
    let up = goes_up (max a x.align) spaces in
    subst (λ y. y.align ≤ fold (λ align space. max align space.align) (max a x.align) spaces) same (omega arith)
is_below a (x ∷ spaces) (suc k) m e = is_below (max a x.align) spaces k m e

struct_multiple : (spaces : List Space) (s : ℕ) → IsAlignment (struct_space spaces).align → (struct_space spaces).size ≡ Some s → s % (struct_space spaces).align ≡ 0
struct_multiple [] s p e = absurd (cc)
struct_multiple (first ∷ rest) s p e =
    let same : padded (members_end (first ∷ rest)) (strictest (first ∷ rest)) ≡ s = cc in
    subst (λ x. x % strictest (first ∷ rest) ≡ 0) same (divides_padded p (members_end (first ∷ rest)))

array_multiple : (o : Option ℕ) (n a s : ℕ) → IsAlignment a → ((z : ℕ) → o ≡ Some z → z % a ≡ 0) → option_map (λ z. n * z) o ≡ Some s → s % a ≡ 0
array_multiple None n a s p h e = absurd (cc)
array_multiple (Some z) n a s p h e =
    let same : n * z ≡ s = cc in
    subst (λ x. x % a ≡ 0) same (divides_product p n z (h z refl))

-- a size is a multiple of the alignment
size_multiple : (structs : List StructDefTree) → ((ty : CTypeTree) → IsAlignment (align_in structs ty)) → (ty : CTypeTree) (s : ℕ) → size_in structs ty ≡ Some s → s % align_in structs ty ≡ 0
size_multiple structs p Void s e = absurd (cc)
size_multiple structs p (Int t) s e =
    let same : bytes t ≡ s = cc in
    subst (λ x. x % bytes t ≡ 0) same (mod_self (bytes t))
size_multiple structs p (Pointer to is_const) s e =
    let same : 8 ≡ s = cc in
    subst (λ x. x % 8 ≡ 0) same refl
size_multiple structs p (Array of is_const n) s e =
    array_multiple (size_in structs of) n (align_in structs of) s (p of) (λ z is. size_multiple structs p of z is) e
size_multiple structs p (Struct n) s e = struct_multiple (member_spaces structs n) s (p (Struct n)) e
size_multiple structs p (Function n) s e = absurd (cc)

member_below : (structs : List StructDefTree) → IsLaidOut structs → (ty : CTypeTree) (n k : ℕ) → slice_get (member_spaces structs n) k ≡ Some (space_by (in_table structs) ty) → align_in structs ty ≤ align_in structs (Struct n)
member_below structs is ty n k there =
    let below = is_below 1 (member_spaces structs n) k (space_by (in_table structs) ty) there in
    let same = ap (λ x. x.align) (stored_same structs is ty) in
    let full = ap (λ x. x.align) (struct_full structs n k (space_by (in_table structs) ty) there) in
    omega arith

member_divides : (structs : List StructDefTree) → IsLaidOut structs → ((ty : CTypeTree) → IsAlignment (align_in structs ty)) → (ty : CTypeTree) (n k offset : ℕ) → slice_get (member_spaces structs n) k ≡ Some (space_by (in_table structs) ty) → offset_at (member_spaces structs n) k ≡ Some offset → offset % align_in structs ty ≡ 0
member_divides structs is p ty n k offset there at =
    let from = offset_is (member_spaces structs n) k (space_by (in_table structs) ty) offset there at in
    let same = ap (λ x. x.align) (stored_same structs is ty) in
    ap (λ x. x % align_in structs ty) (from ∙ ap (padded (members_end (take k (member_spaces structs n)))) same)
    ∙ divides_padded (p ty) (members_end (take k (member_spaces structs n)))

pub aligned : (structs : List StructDefTree) → IsLaidOut structs → ((ty : CTypeTree) → IsAlignment (align_in structs ty)) → {ty part : CTypeTree} {offset : ℕ} → PartAt structs ty offset part → (align_in structs part ≤ align_in structs ty) × (offset % align_in structs part ≡ 0)
aligned structs is p (whole ty) = (omega arith, divides_zero (p ty))
aligned structs is p (element of part is_const n k s inner at lt es q ea) =
    let rest = aligned structs is p q in
    let start = divides_product (p part) k s (divides (p part) (p of) rest.0 s (size_multiple structs p of s es)) in
    (rest.0, ap (λ x. x % align_in structs part) ea ∙ divides_sum (p part) (k * s) inner start rest.1)
aligned structs is p (member ty part n k offset inner at em eo q ea) =
    let rest = aligned structs is p q in
    let there = member_space (in_table structs) (members_of structs n) k ty em in
    let below = member_below structs is ty n k there in
    let start = divides (p part) (p ty) rest.0 offset (member_divides structs is p ty n k offset there eo) in
    (omega arith, ap (λ x. x % align_in structs part) ea ∙ divides_sum (p part) offset inner start rest.1)

pub parts_aligned : (structs : List StructDefTree) → IsLaidOut structs → NoneHoldsItself structs → (ty part : CTypeTree) (offset : ℕ) → PartAt structs ty offset part → offset % align_in structs part ≡ 0
parts_aligned structs is founded ty part offset at = (aligned structs is (alignment structs is founded) at).1
