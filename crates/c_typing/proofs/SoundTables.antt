-- Tables of structs whose members are formed, complete and not too large are typed tables.
use Rattle.std.proofs.Common.{◌≡◌, ℕ, zero, suc, ◌+◌, ◌*◌, ◌^◌, ◌<◌, ◌≤◌, max, List, [], ◌∷◌, ◌++◌, length, refl, ap, sym, subst, ◌∙◌, inl, inr, ⊎_elim, arith}
use Rattle.std.specs.Prelude.{Option, None, Some, option_map, unwrap_or, IfSome, IsSomeAnd, IsTrue, All, fold}
use Rattle.std.proofs.lemmas.Bool.{cases_eq, cases_lt, false≢true}
use Rattle.std.proofs.lemmas.Bool.Decides.{nat_tests}
use Rattle.std.proofs.lemmas.Option.{same_Some, slice_get-get_or}
use Rattle.std.proofs.lemmas.List.{map-append}
use Rattle.std.proofs.lemmas.List.Sums.{fold-append}
use Rattle.std.proofs.lemmas.List.Elements.{All-nil, All-push, All-weaker}
use Rattle.c_syntax_written.specs.declared.int_type.IntType.{IntType}
use Rattle.c_syntax_written.specs.declared.int_type.IntType.TheVariants as ints
use Rattle.c_syntax_written.specs.Integer.{bytes}
use Rattle.c_syntax.specs.Types.{CTypeTree, Void, Int, Pointer, Array, Struct, Function}
use Rattle.c_syntax.specs.Program.{MemberTree, StructDefTree}
use Rattle.c_layout.specs.Layout.{Space, space_by, spaces_by, struct_space, members_of, in_table, laid_out, member_spaces, size_in, padded, member_end, members_end}
use Rattle.c_layout.specs.Heights.{held, NamesBelow}
use Rattle.c_layout.specs.ProperTypes.{IsProperType, IsTold}
use Rattle.c_layout.specs.Tables.{IsTypedMember, IsTypedTable}
use Rattle.c_layout.proofs.Alignments.{IsAlignment, one, two, four, eight}
use Rattle.c_layout.proofs.StructSizes.{struct_size}
use Rattle.c_typing.specs.Later.{has_members, IsLater}
use Rattle.c_typing.specs.Formed.{IsFormed}
use Rattle.c_typing.proofs.MadeTables.{IsHeldComplete, IsMade, IsIncomplete, Same, get_other, members_set, with_made, same_with, empty_struct, made_with, founded, space_held, any_held, told_kept, spaces_kept}
use Rattle.c_typing.proofs.MadeMembers.{size_held}
use Rattle.c_typing.proofs.Later.{formed_later, later_size}

-- a member of a formed type, which has some bytes and not too many
pub record IsSoundMember (structs : List StructDefTree) (member : MemberTree) : Type 0 where
  pub formed : IsFormed structs member.ty
  pub size : IsSomeAnd (size_in structs member.ty) (λ size. (0 < size) × IsTold size)

pub record IsSound (structs : List StructDefTree) : Type 0 where
  pub members : (n : ℕ) → All (IsSoundMember structs) (members_of structs n)
  pub told : (n : ℕ) → IfSome (size_in structs (Struct n)) IsTold
  pub aligned : (n : ℕ) → IsAlignment (in_table structs n).align

-- members that end within 2 to the 40 bytes
pub record AreSound (structs : List StructDefTree) (members : List MemberTree) : Type 0 where
  pub each : All (IsSoundMember structs) members
  pub within : members_end (spaces_by (in_table structs) members) ≤ 2 ^ 40

-- ---- in a later table

size_kept : (a b : List StructDefTree) → IsLater a b → (ty : CTypeTree) (o : Option ℕ) (P : ℕ → Type 0) → size_in a ty ≡ o → IsSomeAnd o P → IsSomeAnd (size_in b ty) P
size_kept a b later ty None P e h = absurd h
size_kept a b later ty (Some size) P e h = subst (λ o. IsSomeAnd o P) (sym (later_size a b later ty size e)) h

pub member_later : (a b : List StructDefTree) → IsLater a b → (m : MemberTree) → IsSoundMember a m → IsSoundMember b m
member_later a b later m s = record { formed = formed_later a b later m.ty s.formed; size = size_kept a b later m.ty (size_in a m.ty) _ refl s.size }

pub each_later : (a b : List StructDefTree) → IsLater a b → (members : List MemberTree) → All (IsSoundMember a) members → All (IsSoundMember b) members
each_later a b later members all = All-weaker (IsSoundMember a) (IsSoundMember b) (λ m s. member_later a b later m s) members all

pub sound_kept :
    (a b : List StructDefTree) → IsLater a b → (members : List MemberTree) → All (λ member. IsHeldComplete a member.ty) members → AreSound a members → AreSound b members
sound_kept a b later members held are = record {
  each = each_later a b later members are.each;
  within = subst (λ spaces. members_end spaces ≤ 2 ^ 40) (sym (spaces_kept a b later.same members held)) are.within;
}

-- ---- tables with the same members and spaces

laid_same : (a b : List StructDefTree) → IsMade a → IsMade b → (n : ℕ) → in_table b n ≡ in_table a n → laid_out b n ≡ laid_out a n
laid_same a b made after n e = sym (after.laid_out.spaces n) ∙ e ∙ made.laid_out.spaces n

sound_same : (a b : List StructDefTree) → Same a b → IsMade a → IsMade b → IsLater a b → IsSound a → IsSound b
sound_same a b same made after later sound = record {
  members = λ n. subst (λ members. All (IsSoundMember b) members) (sym (same.members n)) (each_later a b later (members_of a n) (sound.members n));
  told = λ n. subst (λ space. IfSome space.size IsTold) (sym (laid_same a b made after n (same.spaces n))) (sound.told n);
  aligned = λ n. subst (λ space. IsAlignment space.align) (sym (same.spaces n)) (sound.aligned n);
}

pub sound_with : (a : List StructDefTree) (tag : List ℕ) → IsMade a → IsLater a (a ++ empty_struct tag ∷ []) → IsSound a → IsSound (a ++ empty_struct tag ∷ [])
sound_with a tag made later sound = sound_same a _ (same_with a tag) made (made_with a tag made) later sound

pub sound_nothing : IsSound []
sound_nothing = record { members = λ n. All-nil (IsSoundMember []); told = λ n. tt; aligned = λ n. one }

-- ---- alignments

greater : {a b : ℕ} → IsAlignment a → IsAlignment b → IsAlignment (max a b)
greater {a} {b} p q = elim (cases_lt a b) [
  | inl h ↦ let is : b ≡ max a b = omega arith in subst IsAlignment is q
  | inr h ↦ let is : a ≡ max a b = omega arith in subst IsAlignment is p
]

int_aligned : (t : IntType) → IsAlignment (bytes t)
int_aligned ints.Char = one
int_aligned ints.SChar = one
int_aligned ints.UChar = one
int_aligned ints.Short = two
int_aligned ints.UShort = two
int_aligned ints.Int = four
int_aligned ints.UInt = four
int_aligned ints.Long = eight
int_aligned ints.ULong = eight
int_aligned ints.LLong = eight
int_aligned ints.ULLong = eight

type_aligned : (struct : ℕ → Space) (ty : CTypeTree) → ((n : ℕ) → IsAlignment (struct n).align) → IsAlignment (space_by struct ty).align
type_aligned struct Void f = one
type_aligned struct (Int t) f = int_aligned t
type_aligned struct (Pointer to c) f = eight
type_aligned struct (Array of c n) f = type_aligned struct of f
type_aligned struct (Struct n) f = f n
type_aligned struct (Function n) f = one

members_aligned : (struct : ℕ → Space) (members : List MemberTree) (a : ℕ) → ((n : ℕ) → IsAlignment (struct n).align) → IsAlignment a → IsAlignment (fold (λ align space. max align space.align) a (spaces_by struct members))
members_aligned struct [] a f p = p
members_aligned struct (m ∷ rest) a f p = members_aligned struct rest _ f (greater p (type_aligned struct m.ty f))

-- 2 to the 40 is a multiple of each alignment
padded_within : {a : ℕ} → IsAlignment a → (x : ℕ) → x ≤ 2 ^ 40 → padded x a ≤ 2 ^ 40
padded_within one x h = grind (arith, nat_tests)
padded_within two x h = grind (arith, nat_tests)
padded_within four x h = grind (arith, nat_tests)
padded_within eight x h = grind (arith, nat_tests)

-- ---- a struct that is completed

struct_told : (struct : ℕ → Space) (members : List MemberTree) → ((n : ℕ) → IsAlignment (struct n).align) → members_end (spaces_by struct members) ≤ 2 ^ 40 → IfSome (struct_space (spaces_by struct members)).size IsTold
struct_told struct [] f h = tt
struct_told struct (m ∷ rest) f h = padded_within (members_aligned struct (m ∷ rest) 1 f one) (members_end (spaces_by struct (m ∷ rest))) h

struct_aligned : (struct : ℕ → Space) (members : List MemberTree) → ((n : ℕ) → IsAlignment (struct n).align) → IsAlignment (struct_space (spaces_by struct members)).align
struct_aligned struct [] f = one
struct_aligned struct (m ∷ rest) f = members_aligned struct (m ∷ rest) 1 f one

pub sound_complete :
    (a : List StructDefTree) (n : ℕ) (tag : List ℕ) (members : List MemberTree) → IsMade a → IsMade (with_made a n tag members) → IsLater a (with_made a n tag members) → IsIncomplete a n
    → All (λ member. IsHeldComplete a member.ty) members → IsSound a → AreSound a members → IsSound (with_made a n tag members)
sound_complete a n tag members made after later bare held sound are = record {
  members = λ k. ⊎_elim (λ e. subst (λ j. All (IsSoundMember b) (members_of b j)) (sym e) (subst (λ ms. All (IsSoundMember b) ms) (sym here) (each_later a b later members are.each)))
      (λ e. subst (λ ms. All (IsSoundMember b) ms) (sym (apart k e)) (each_later a b later (members_of a k) (sound.members k))) (cases_eq k n);
  told = λ k. ⊎_elim (λ e. subst (λ j. IfSome (size_in b (Struct j)) IsTold) (sym e) (subst (λ spaces. IfSome (struct_space spaces).size IsTold) (sym spaces) (struct_told (in_table a) members sound.aligned are.within)))
      (λ e. subst (λ space. IfSome space.size IsTold) (sym (laid_same a b made after k (other k e))) (sound.told k)) (cases_eq k n);
  aligned = λ k. ⊎_elim (λ e. subst (λ j. IsAlignment (in_table b j).align) (sym e) (subst (λ space. IsAlignment space.align) (sym (after.laid_out.spaces n ∙ ap struct_space spaces)) (struct_aligned (in_table a) members sound.aligned)))
      (λ e. subst (λ space. IsAlignment space.align) (sym (other k e)) (sound.aligned k)) (cases_eq k n);
}
  where
    b : List StructDefTree
    b = with_made a n tag members

    here : members_of b n ≡ members
    here = members_set a n bare.def _ bare.there

    apart : (k : ℕ) → (k ≡ n → ⊥) → members_of b k ≡ members_of a k
    apart k e = ap (λ o. unwrap_or (option_map (λ d. d.members) o) []) (get_other a n k _ e)

    other : (k : ℕ) → (k ≡ n → ⊥) → in_table b k ≡ in_table a k
    other k e = told_kept a b k (get_other a n k _ e)

    spaces : member_spaces b n ≡ spaces_by (in_table a) members
    spaces = ap (λ ms. spaces_by (in_table b) ms) here ∙ spaces_kept a b later.same members held

-- ---- typed tables

pub proper : (structs : List StructDefTree) → ((n : ℕ) → IfSome (size_in structs (Struct n)) IsTold) → (ty : CTypeTree) → IsFormed structs ty → IsProperType structs ty
proper structs told Void f = tt
proper structs told (Int t) f = tt
proper structs told (Pointer to c) f = proper structs told to f
proper structs told (Array of c n) f = (proper structs told of f.0, f.1, f.2)
proper structs told (Struct n) f = (f, told n)
proper structs told (Function n) f = f

names_below : (structs : List StructDefTree) (ty : CTypeTree) → IsFormed structs ty → NamesBelow (length structs) ty
names_below structs Void f = tt
names_below structs (Int t) f = tt
names_below structs (Pointer to c) f = names_below structs to f
names_below structs (Array of c n) f = names_below structs of f.0
names_below structs (Struct n) f = f
names_below structs (Function n) f = tt

-- what holds of the members of each number holds of those of each struct
each_struct : (structs : List StructDefTree) (P : MemberTree → Type 0) → ((n : ℕ) → All P (members_of structs n)) → All (λ def. All P def.members) structs
each_struct structs P f = λ k d h. subst (λ o. All P (unwrap_or (option_map (λ def. def.members) o) [])) (slice_get-get_or structs k d h) (f k)

pub typed_table : (structs : List StructDefTree) → IsMade structs → IsSound structs → IsTypedTable structs
typed_table structs made sound = record {
  named = each_struct structs (λ m. NamesBelow (length structs) m.ty)
      (λ n. All-weaker (IsSoundMember structs) (λ m. NamesBelow (length structs) m.ty) (λ m s. names_below structs m.ty s.formed) (members_of structs n) (sound.members n));
  founded = founded structs made;
  members = each_struct structs (IsTypedMember structs)
      (λ n. All-weaker (IsSoundMember structs) (IsTypedMember structs) (λ m s. record { ty = proper structs sound.told m.ty s.formed; size = s.size }) (members_of structs n) (sound.members n));
  told = sound.told;
  laid_out = made.laid_out;
}

-- ---- a complete type has some bytes

int_some : (t : IntType) → 0 < bytes t
int_some ints.Char = omega arith
int_some ints.SChar = omega arith
int_some ints.UChar = omega arith
int_some ints.Short = omega arith
int_some ints.UShort = omega arith
int_some ints.Int = omega arith
int_some ints.UInt = omega arith
int_some ints.Long = omega arith
int_some ints.ULong = omega arith
int_some ints.LLong = omega arith
int_some ints.ULLong = omega arith

some_members : (members : List MemberTree) → IsTrue (has_members members) → 0 < length members
some_members [] h = absurd (false≢true h)
some_members (m ∷ rest) h = omega arith

product_some : (n size : ℕ) (o : Option ℕ) → 0 < n → option_map (λ s. n * s) o ≡ Some size → ((s : ℕ) → o ≡ Some s → 0 < s) → 0 < size
product_some n size None h e f = absurd cc
product_some n size (Some s) h e f = let is = same_Some (n * s) size e in let p = f s refl in subst (λ x. 0 < x) is (mul-lt n s h p)
  where
    mul-lt : (a b : ℕ) → 0 < a → 0 < b → 0 < a * b
    mul-lt (suc a) (suc b) h p = grind arith
    mul-lt zero b h p = absurd (omega arith)
    mul-lt (suc a) zero h p = absurd (omega arith)

struct_some : (o : Option ℕ) (size : ℕ) → o ≡ Some size → IsSomeAnd o (λ s. (0 < s) × IsTold s) → 0 < size
struct_some None size e h = absurd h
struct_some (Some s) size e h = subst (λ x. 0 < x) (same_Some s size e) h.0

pub some_bytes : (structs : List StructDefTree) → IsTypedTable structs → (ty : CTypeTree) (size : ℕ) → IsFormed structs ty → size_in structs ty ≡ Some size → 0 < size
some_bytes structs table Void size f e = absurd cc
some_bytes structs table (Int t) size f e = subst (λ x. 0 < x) (same_Some (bytes t) size e) (int_some t)
some_bytes structs table (Pointer to c) size f e = subst (λ x. 0 < x) (same_Some 8 size e) (omega arith)
some_bytes structs table (Array of c n) size f e = product_some n size (size_in structs of) f.1 e (λ s q. some_bytes structs table of s f.0 q)
some_bytes structs table (Struct n) size f e = struct_some (size_in structs (Struct n)) size e (struct_size structs table n (some_members (members_of structs n) (size_held structs (Struct n) size e)))
some_bytes structs table (Function n) size f e = absurd cc

-- ---- one member more

pub sound_nothing_yet : (structs : List StructDefTree) → AreSound structs []
sound_nothing_yet structs = record { each = All-nil (IsSoundMember structs); within = omega arith }

end_more : (structs : List StructDefTree) (members : List MemberTree) (m : MemberTree) → members_end (spaces_by (in_table structs) (members ++ m ∷ [])) ≡ member_end (members_end (spaces_by (in_table structs) members)) (space_by (in_table structs) m.ty)
end_more structs members m =
    ap members_end (map-append (λ x. space_by (in_table structs) x.ty) members (m ∷ []))
    ∙ fold-append member_end 0 (spaces_by (in_table structs) members) (space_by (in_table structs) m.ty ∷ [])

pub sound_more :
    (structs : List StructDefTree) → IsMade structs → (members : List MemberTree) (m : MemberTree) (size : ℕ) → AreSound structs members → IsSoundMember structs m → size_in structs m.ty ≡ Some size
    → padded (members_end (spaces_by (in_table structs) members)) (space_by (laid_out structs) m.ty).align + size ≤ 2 ^ 40 → AreSound structs (members ++ m ∷ [])
sound_more structs made members m size are s e h = record {
  each = All-push (IsSoundMember structs) members m are.each s;
  within = subst (λ x. x ≤ 2 ^ 40) (sym (end_more structs members m ∙ ap (λ space. member_end (members_end (spaces_by (in_table structs) members)) space) same))
      (subst (λ o. padded (members_end (spaces_by (in_table structs) members)) (space_by (laid_out structs) m.ty).align + unwrap_or o 0 ≤ 2 ^ 40) (sym e) h);
}
  where
    same : space_by (in_table structs) m.ty ≡ space_by (laid_out structs) m.ty
    same = space_held (in_table structs) (laid_out structs) m.ty (any_held m.ty made.laid_out.spaces)
