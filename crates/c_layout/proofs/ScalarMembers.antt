-- The member of a struct in which an offset lies.
use Rattle.std.proofs.Common.{◌≡◌, ℕ, zero, suc, ◌+◌, ◌-◌, ◌<◌, ◌≤◌, true, false, List, [], ◌∷◌, length, take, map, get_or, refl, sym, ap, subst, ◌∙◌, inl, inr, arith}
use Rattle.std.specs.Prelude.{Option, None, Some, option_map, unwrap_or, IsSomeAnd, All, fold, nat_le, slice_get}
use Rattle.std.specs.List.Sorted.{IsNonDecreasingBy, IsPartitionPoint}
use Rattle.std.proofs.lemmas.Bool.{cases_lt}
use Rattle.std.proofs.lemmas.Bool.Decides.{nat_tests}
use Rattle.c_syntax.specs.declared.program.Member.{Member}
use Rattle.c_syntax.specs.Types.{CTypeTree, Struct}
use Rattle.c_syntax.specs.Program.{MemberTree, StructDefTree, member_tree}
use Rattle.c_layout.specs.Layout.{Space, member_end, space_by, members_of, in_table, member_spaces, size_in, offset_at}
use Rattle.c_layout.specs.LaidOut.{IsLaidOut}
use Rattle.c_layout.specs.ProperTypes.{IsProperType, PartAt, whole, member as in_member}
use Rattle.c_layout.specs.Tables.{IsTypedTable, IsTypedMember}
use Rattle.c_layout.specs.RowTypes.{IsScalar}
use Rattle.c_layout.specs.Scalars.{HasNone, HaveSame, IsMemberType}
use Rattle.c_layout.proofs.Parts.{stored_same, member_space, offset_is, goes_up, inside}
use Rattle.c_layout.proofs.ScalarParts.{scalar_bytes}

-- what holds of each of the list's members holds of the one at a place
all_at : (P : CTypeTree → Type 0) (members : List MemberTree) (k : ℕ) (ty : CTypeTree) → All (λ m. P m.ty) members → IsSomeAnd (slice_get members k) (λ m. m.ty ≡ ty) → P ty
all_at P [] k ty all h = absurd h
all_at P (m ∷ members) zero ty all h = subst P h (all 0 m (omega arith))
all_at P (m ∷ members) (suc k) ty all h = all_at P members k ty (λ i d lt. all (suc i) d (omega arith)) h

pub member_has : (P : CTypeTree → Type 0) (structs : List StructDefTree) (n : ℕ) (ty : CTypeTree) → All (λ m. P m.ty) (members_of structs n) → IsMemberType structs n ty → P ty
member_has P structs n ty all h = all_at P (members_of structs n) h.0 ty all h.1

-- members are typed by the table
pub members_typed : (structs defs : List StructDefTree) (n : ℕ) → All (λ def. All (IsTypedMember structs) def.members) defs → All (IsTypedMember structs) (members_of defs n)
members_typed structs [] n all = λ k d lt. absurd (omega arith)
members_typed structs (def ∷ defs) zero all = all 0 def (omega arith)
members_typed structs (def ∷ defs) (suc n) all = members_typed structs defs n (λ i d lt. all (suc i) d (omega arith))

pub member_proper : (structs : List StructDefTree) → IsTypedTable structs → (n : ℕ) (ty : CTypeTree) → IsMemberType structs n ty → IsProperType structs ty
member_proper structs table n ty h = member_has (IsProperType structs) structs n ty (λ k d lt. (members_typed structs structs n table.members k d lt).ty) h

some_is : {X : Type 0} {a b : X} → Some a ≡ Some b → a ≡ b
some_is e = cc

before : (at : ℕ) (spaces : List Space) (j k : ℕ) (m : Space) → j < k → slice_get spaces j ≡ Some m → member_end (fold member_end at (take j spaces)) m ≤ fold member_end at (take k spaces)
before at [] j k m lt e = absurd (cc)
before at (x ∷ spaces) zero (suc k) m lt e =
    subst (λ y. member_end at y ≤ fold member_end (member_end at x) (take k spaces)) (some_is e) (goes_up (member_end at x) (take k spaces))
before at (x ∷ spaces) (suc j) (suc k) m lt e = before (member_end at x) spaces j k m (omega arith) e
before at (x ∷ spaces) j zero m lt e = absurd (omega arith)

pub has_type : (members : List MemberTree) (k : ℕ) (m : MemberTree) → slice_get members k ≡ Some m → IsSomeAnd (slice_get members k) (λ x. x.ty ≡ m.ty)
has_type members k m e = subst (λ o. IsSomeAnd o (λ x. x.ty ≡ m.ty)) (sym e) refl

pub offset_told : (structs : List StructDefTree) → IsLaidOut structs → (n k : ℕ) (m : MemberTree) → slice_get (members_of structs n) k ≡ Some m → offset_at (member_spaces structs n) k ≡ Some m.offset
offset_told structs is n k m e = sym (is.offsets n k) ∙ ap (option_map (λ x. x.offset)) e

-- each member ends where the next ones begin, or before
pub rising : (structs : List StructDefTree) → IsLaidOut structs → (n j k : ℕ) (a b : MemberTree) → j < k → slice_get (members_of structs n) j ≡ Some a → slice_get (members_of structs n) k ≡ Some b → a.offset + unwrap_or (size_in structs a.ty) 0 ≤ b.offset
rising structs is n j k a b lt ea eb =
    let spaces = member_spaces structs n in
    let struct = in_table structs in
    let sa = member_space struct (members_of structs n) j a.ty (has_type (members_of structs n) j a ea) in
    let sb = member_space struct (members_of structs n) k b.ty (has_type (members_of structs n) k b eb) in
    let oa = offset_is spaces j (space_by struct a.ty) a.offset sa (offset_told structs is n j a ea) in
    let ob = offset_is spaces k (space_by struct b.ty) b.offset sb (offset_told structs is n k b eb) in
    let size = ap (λ space. unwrap_or space.size 0) (stored_same structs is a.ty) in
    let ends = before 0 spaces j k (space_by struct a.ty) lt sa in
    omega arith

below_size : (o : Option ℕ) (inner size : ℕ) → IsSomeAnd o (λ n. inner + size ≤ n) → 0 < size → inner < unwrap_or o 0
below_size None inner size h some = absurd h
below_size (Some n) inner size h some = omega arith

-- a scalar part begins before the end of what it is in
pub member_fits : (structs : List StructDefTree) → IsLaidOut structs → (ty part : CTypeTree) (inner size : ℕ) → IsScalar part → size_in structs part ≡ Some size → PartAt structs ty inner part → inner < unwrap_or (size_in structs ty) 0
member_fits structs is ty part inner size s b p =
    let some = scalar_bytes structs part size s b in
    below_size (size_in structs ty) inner size (inside structs is size p b) some

-- the last member that begins at the offset or before it
pub record IsLast (members : List MemberTree) (k offset : ℕ) (m : MemberTree) : Type 0 where
  pub there : slice_get members k ≡ Some m
  pub from : m.offset ≤ offset
  pub last : (j : ℕ) (x : MemberTree) → k < j → slice_get members j ≡ Some x → offset < x.offset

-- the member of which the type is told
pub found : (o : Option MemberTree) (ty : CTypeTree) → IsSomeAnd o (λ x. x.ty ≡ ty) → (x : MemberTree) × (o ≡ Some x) × (x.ty ≡ ty)
found None ty h = absurd h
found (Some x) ty h = (x, refl, h)

-- a part of a member is one of the last member that begins at the offset or before it
from_member : (structs : List StructDefTree) → IsLaidOut structs → (n k j start inner at size : ℕ) (m x : MemberTree) (part : CTypeTree) → IsLast (members_of structs n) k at m → slice_get (members_of structs n) j ≡ Some x → start ≡ x.offset → at ≡ start + inner → IsScalar part → size_in structs part ≡ Some size → PartAt structs x.ty inner part → PartAt structs m.ty (at - m.offset) part
from_member structs is n k j start inner at size m x part last ex es ea s b p =
    let fits = member_fits structs is x.ty part inner size s b p in
    elim (cases_lt k j) [
      | inl h ↦ let past = last.last j x h ex in absurd (omega arith)
      | inr h ↦ elim (cases_lt j k) [
        | inl g ↦
            let ends = rising structs is n j k x m g ex last.there in
            let from = last.from in absurd (omega arith)
        | inr g ↦
            let place : k ≡ j = omega arith in
            let same : x ≡ m = some_is (sym ex ∙ ap (slice_get (members_of structs n)) (sym place) ∙ last.there) in
            let offsets : x.offset ≡ m.offset = ap (λ y. y.offset) same in
            let there : inner ≡ at - m.offset = omega arith in
            subst (λ i. PartAt structs m.ty i part) there (subst (λ y. PartAt structs y.ty inner part) same p)
      ]
    ]

member_down : (structs : List StructDefTree) → IsLaidOut structs → {part : CTypeTree} {n offset : ℕ} (k : ℕ) (m : MemberTree) (size : ℕ) → IsLast (members_of structs n) k offset m → IsScalar part → size_in structs part ≡ Some size → PartAt structs (Struct n) offset part → PartAt structs m.ty (offset - m.offset) part
member_down structs is k m size last s b (whole ty) = absurd s
member_down structs is k m size last s b (in_member ty part n j start inner at em eo p ea) =
    let x = found (slice_get (members_of structs n) j) ty em in
    let begins : start ≡ x.0.offset = some_is (sym eo ∙ offset_told structs is n j x.0 x.1) in
    from_member structs is n k j start inner at size m x.0 part last x.1 begins ea s b (subst (λ y. PartAt structs y inner part) (sym x.2) p)

member_up : (structs : List StructDefTree) → IsLaidOut structs → (part : CTypeTree) (n offset k : ℕ) (m : MemberTree) → IsLast (members_of structs n) k offset m → PartAt structs m.ty (offset - m.offset) part → PartAt structs (Struct n) offset part
member_up structs is part n offset k m last p =
    let from = last.from in
    in_member m.ty part n k m.offset (offset - m.offset) offset (has_type (members_of structs n) k m last.there) (offset_told structs is n k m last.there) p (omega arith)

pub members_same : (structs : List StructDefTree) → IsLaidOut structs → (n offset k : ℕ) (m : MemberTree) → IsLast (members_of structs n) k offset m → HaveSame structs (Struct n) offset m.ty (offset - m.offset)
members_same structs is n offset k m last size part = (
  λ at. record { part = member_down structs is k m size last at.scalar at.bytes at.part; scalar = at.scalar; bytes = at.bytes },
  λ at. record { part = member_up structs is part n offset k m last at.part; scalar = at.scalar; bytes = at.bytes },
)

none_before : (structs : List StructDefTree) → IsLaidOut structs → {part : CTypeTree} {n offset : ℕ} → ((j : ℕ) (x : MemberTree) → slice_get (members_of structs n) j ≡ Some x → offset < x.offset) → IsScalar part → PartAt structs (Struct n) offset part → ⊥
none_before structs is past s (whole ty) = s
none_before structs is past s (in_member ty part n j start inner at em eo p ea) =
    let x = found (slice_get (members_of structs n) j) ty em in
    let begins : start ≡ x.0.offset = some_is (sym eo ∙ offset_told structs is n j x.0 x.1) in
    let behind = past j x.0 x.1 in omega arith

pub members_none : (structs : List StructDefTree) → IsLaidOut structs → (n offset : ℕ) → ((j : ℕ) (x : MemberTree) → slice_get (members_of structs n) j ≡ Some x → offset < x.offset) → HasNone structs (Struct n) offset
members_none structs is n offset past size part at = none_before structs is past at.scalar at.part

at_map : (members : List Member) (i : ℕ) (d : Member) → i < length members → slice_get (map member_tree members) i ≡ Some (member_tree (get_or members i d))
at_map [] i d h = absurd (omega arith)
at_map (m ∷ members) zero d h = refl
at_map (m ∷ members) (suc i) d h = at_map members i d (omega arith)

from_map : (members : List Member) (i : ℕ) (d : Member) (x : MemberTree) → slice_get (map member_tree members) i ≡ Some x → (i < length members) × (x ≡ member_tree (get_or members i d))
from_map [] i d x e = absurd (cc)
from_map (m ∷ members) zero d x e = (omega arith, sym (some_is e))
from_map (m ∷ members) (suc i) d x e = let h = from_map members i d x e in (omega arith, h.1)

-- the code's members rise, so that they can be searched by halves
pub members_rise : (structs : List StructDefTree) → IsLaidOut structs → (n : ℕ) (members : List Member) → map member_tree members ≡ members_of structs n → IsNonDecreasingBy (λ m. m.offset) members
members_rise structs is n members e i j d le lt = elim (cases_lt i j) [
  | inl h ↦
      let a = ap (λ ms. slice_get ms i) (sym e) ∙ at_map members i d (omega arith) in
      let b = ap (λ ms. slice_get ms j) (sym e) ∙ at_map members j d lt in
      let up = rising structs is n i j (member_tree (get_or members i d)) (member_tree (get_or members j d)) h a b in
      omega arith
  | inr h ↦
      let same : i ≡ j = omega arith in
      subst (λ k. (get_or members i d).offset ≤ (get_or members k d).offset) same (omega arith)
]

at_most : (a b : ℕ) → nat_le a b ≡ true → a ≤ b
at_most a b e = grind (arith, nat_tests)

above : (a b : ℕ) → nat_le a b ≡ false → b < a
above a b e = grind (arith, nat_tests)

abbrev pub IsFront : ℕ → List Member → ℕ → Type 0
IsFront offset members count = IsPartitionPoint (λ m. m.offset ≤ offset) (λ m. offset < m.offset) members count

pub front_of : (offset count : ℕ) (members : List Member) → IsPartitionPoint (λ m. nat_le m.offset offset ≡ true) (λ m. nat_le m.offset offset ≡ false) members count → IsFront offset members count
front_of offset count members point = (λ k d low lt. at_most _ _ (point.0 k d low lt), λ k d low lt. above _ _ (point.1 k d low lt))

pub last_found : (structs : List StructDefTree) (n offset count : ℕ) (members : List Member) (m : Member) → map member_tree members ≡ members_of structs n → IsFront offset members count → 0 < count → count ≤ length members → m ≡ get_or members (count - 1) m → IsLast (members_of structs n) (count - 1) offset (member_tree m)
last_found structs n offset count members m e point some within is = record {
  there = ap (λ ms. slice_get ms (count - 1)) (sym e) ∙ at_map members (count - 1) m (omega arith) ∙ ap (λ x. Some (member_tree x)) (sym is);
  from = subst (λ x. x.offset ≤ offset) (sym is) (point.0 (count - 1) m (omega arith) (omega arith));
  last = λ j x past there.
      let found = from_map members j m x (ap (λ ms. slice_get ms j) e ∙ there) in
      let behind = point.1 j m (omega arith) found.0 in
      let same : x.offset ≡ (get_or members j m).offset = ap (λ y. y.offset) found.1 in
      omega arith;
}

pub all_behind : (structs : List StructDefTree) (n offset : ℕ) (members : List Member) → map member_tree members ≡ members_of structs n → IsFront offset members 0 → (j : ℕ) (x : MemberTree) → slice_get (members_of structs n) j ≡ Some x → offset < x.offset
all_behind structs n offset [] e point j x there = let h : slice_get [] j ≡ Some x = ap (λ ms. slice_get ms j) e ∙ there in absurd (cc)
all_behind structs n offset (m ∷ members) e point j x there =
    let found = from_map (m ∷ members) j m x (ap (λ ms. slice_get ms j) e ∙ there) in
    let behind = point.1 j m (omega arith) found.0 in
    let same : x.offset ≡ (get_or (m ∷ members) j m).offset = ap (λ y. y.offset) found.1 in
    omega arith
