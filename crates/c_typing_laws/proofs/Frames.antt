-- The parts of an object that an initialiser fills, one after the other.
use Rattle.std.proofs.Common.{◌≡◌, ℕ, zero, suc, ◌+◌, ◌*◌, ◌<◌, ◌≤◌, List, [], ◌∷◌, length, refl, ap, sym, subst, ◌∙◌, arith}
use Rattle.std.specs.Prelude.{Bool, Option, None, Some, option_map, unwrap_or, IsSomeAnd, All, slice_get}
use Rattle.std.proofs.Math.Nat.{mul-le-mul_left}
use Rattle.std.proofs.lemmas.Option.{same_Some}
use Rattle.std.proofs.lemmas.List.Elements.{All-head, All-tail}
use Rattle.c_syntax.specs.Types.{CTypeTree, Void, Int, Pointer, Array, Struct, Function}
use Rattle.c_syntax.specs.Program.{MemberTree, StructDefTree}
use Rattle.c_layout.specs.Layout.{members_of, size_in}
use Rattle.c_layout.specs.Tables.{IsTypedTable, IsTypedMember}
use Rattle.c_layout.specs.ProperTypes.{IsProperType, PartAt, whole, element, member, IsTold}
use Rattle.c_layout.proofs.Parts.{inside}
use Rattle.c_layout.proofs.ScalarMembers.{members_typed, has_type, offset_told, rising}
use Rattle.c_typing.specs.CurrentObject.{Part, Frame, frame_of, part_at, member_part}
use Rattle.c_typing.proofs.FormsGo.{no_some}

-- how many parts a frame has; one without a count has as many as it comes to
abbrev pub room : ℕ → Frame → ℕ
room n f = unwrap_or f.count n

abbrev pub part : List StructDefTree → Frame → ℕ → Part
part structs f k = part_at structs f.ty f.offset k

abbrev pub size_of : List StructDefTree → CTypeTree → ℕ
size_of structs ty = unwrap_or (size_in structs ty) 0

-- behind a part
abbrev pub end_of : List StructDefTree → Part → ℕ
end_of structs p = p.offset + size_of structs p.ty

-- a part of the object, of a complete type
pub record IsPart (structs : List StructDefTree) (top : CTypeTree) (p : Part) : Type 0 where
  pub at : PartAt structs top p.offset p.ty
  pub proper : IsProperType structs p.ty
  pub size : ℕ
  pub sized : size_in structs p.ty ≡ Some size

-- a frame whose parts are parts of the object, one behind the other
pub record FrameIn (structs : List StructDefTree) (top : CTypeTree) (n : ℕ) (f : Frame) : Type 0 where
  pub parts : (k : ℕ) → k < room n f → IsPart structs top (part structs f k)
  pub ordered : (j k : ℕ) → j < k → k < room n f → end_of structs (part structs f j) ≤ (part structs f k).offset

-- ---- parts of parts

part_then : {structs : List StructDefTree} {a b c : CTypeTree} {i j : ℕ} → PartAt structs a i b → PartAt structs b j c → PartAt structs a (i + j) c
part_then {structs} {a} {b} {c} {i} {j} (whole ty) q = let e : j ≡ 0 + j = omega arith in subst (λ x. PartAt structs ty x c) e q
part_then {c = c} {j = j} (element of part d n k size inner at lt es p ea) q = element of c d n k size (inner + j) (at + j) lt es (part_then p q) (omega (arith, ea))
part_then {c = c} {j = j} (member ty part n k offset inner at em eo p ea) q = member ty c n k offset (inner + j) (at + j) em eo (part_then p q) (omega (arith, ea))

pub array_size : (n size : ℕ) (o : Option ℕ) → option_map (λ s. n * s) o ≡ Some size → (s : ℕ) × (o ≡ Some s)
array_size n size None e = no_some size e
array_size n size (Some s) e = (s, refl)

-- an element
pub element_part :
    {structs : List StructDefTree} {top of : CTypeTree} {c : Bool} {n off s : ℕ} (k : ℕ) → PartAt structs top off (Array of c n) → IsProperType structs of → size_in structs of ≡ Some s → k < n
    → IsPart structs top (part_at structs (Array of c 0) off k)
element_part {structs} {top} {of} {c} {n} {off} {s} k at proper e h = record {
  at = subst (λ z. PartAt structs top (off + k * unwrap_or z 0) of) (sym e) (part_then at (element of of c n k s 0 (k * s) h e (whole of) (omega arith)));
  proper = proper;
  size = s;
  sized = e;
}

pub elements_ordered : (structs : List StructDefTree) (of : CTypeTree) (off j k : ℕ) → j < k → (off + j * size_of structs of) + size_of structs of ≤ off + k * size_of structs of
elements_ordered structs of off j k h = omega (arith, mul-le-mul_left (size_of structs of) h)

-- a member that is there
pub get_some : {A : Type 0} (xs : List A) (k : ℕ) → k < length xs → (x : A) × (slice_get xs k ≡ Some x)
get_some [] k h = absurd (omega arith)
get_some (x ∷ xs) zero h = (x, refl)
get_some (x ∷ xs) (suc k) h = get_some xs k (omega arith)

each_member : (structs : List StructDefTree) (members : List MemberTree) (k : ℕ) (m : MemberTree) → All (IsTypedMember structs) members → slice_get members k ≡ Some m → IsTypedMember structs m
each_member structs [] k m all e = no_some m e
each_member structs (x ∷ rest) zero m all e = subst (IsTypedMember structs) (same_Some x m e) (All-head (IsTypedMember structs) x rest all)
each_member structs (x ∷ rest) (suc k) m all e = each_member structs rest k m (All-tail (IsTypedMember structs) x rest all) e

pub some_size : (o : Option ℕ) (P : ℕ → Type 0) → IsSomeAnd o P → (s : ℕ) × (o ≡ Some s)
some_size None P h = absurd h
some_size (Some s) P h = (s, refl)

pub member_of : (structs : List StructDefTree) (n k : ℕ) (m : MemberTree) → IsTypedTable structs → slice_get (members_of structs n) k ≡ Some m → IsTypedMember structs m
member_of structs n k m table e = each_member structs (members_of structs n) k m (members_typed structs structs n table.members) e

member_is :
    {structs : List StructDefTree} {top : CTypeTree} {n off : ℕ} (k : ℕ) → IsTypedTable structs → PartAt structs top off (Struct n) → k < length (members_of structs n)
    → IsPart structs top (part_at structs (Struct n) off k)
member_is {structs} {top} {n} {off} k table at h =
    let found = get_some (members_of structs n) k h in
    let m = found.0 in
    let typed = member_of structs n k m table found.1 in
    let sized = some_size (size_in structs m.ty) (λ s. (0 < s) × IsTold s) typed.size in
    subst (λ o. IsPart structs top (member_part off o)) (sym found.1) (record {
      at = part_then at (member m.ty m.ty n k m.offset 0 m.offset (has_type (members_of structs n) k m found.1) (offset_told structs table.laid_out n k m found.1) (whole m.ty) (omega arith));
      proper = typed.ty;
      size = sized.0;
      sized = sized.1;
    })

members_ordered : (structs : List StructDefTree) (n off j k : ℕ) → IsTypedTable structs → j < k → k < length (members_of structs n)
    → end_of structs (part_at structs (Struct n) off j) ≤ (part_at structs (Struct n) off k).offset
members_ordered structs n off j k table h l =
    let a = get_some (members_of structs n) j (omega arith) in
    let b = get_some (members_of structs n) k l in
    subst (λ o. end_of structs (member_part off o) ≤ (part_at structs (Struct n) off k).offset) (sym a.1)
    (subst (λ o. (off + a.0.offset) + size_of structs a.0.ty ≤ (member_part off o).offset) (sym b.1) (let r = rising structs table.laid_out n j k a.0 b.0 h a.1 b.1 in omega arith))

frame_by : (structs : List StructDefTree) (top : CTypeTree) (n : ℕ) (ty : CTypeTree) (off : ℕ) → IsTypedTable structs → IsPart structs top (record { ty = ty; offset = off })
    → FrameIn structs top n (frame_of structs (record { ty = ty; offset = off }))
frame_by structs top n Void off table is = no_some is.size is.sized
frame_by structs top n (Int t) off table is = record { parts = λ k h. is; ordered = λ j k h l. absurd (omega arith) }
frame_by structs top n (Pointer to c) off table is = record { parts = λ k h. is; ordered = λ j k h l. absurd (omega arith) }
frame_by structs top n (Array of c m) off table is =
    let s = array_size m is.size (size_in structs of) is.sized in record {
      parts = λ k h. element_part k is.at is.proper.0 s.1 h;
      ordered = λ j k h l. elements_ordered structs of off j k h;
    }
frame_by structs top n (Struct m) off table is = record { parts = λ k h. member_is k table is.at h; ordered = λ j k h l. members_ordered structs m off j k table h l }
frame_by structs top n (Function m) off table is = no_some is.size is.sized

-- what a part has inside
pub frame_in : (structs : List StructDefTree) (top : CTypeTree) (n : ℕ) (p : Part) → IsTypedTable structs → IsPart structs top p → FrameIn structs top n (frame_of structs p)
frame_in structs top n p table is = frame_by structs top n p.ty p.offset table is

moved : (structs : List StructDefTree) (ty : CTypeTree) (off k : ℕ) → (part_at structs ty off k).offset ≡ off + (part_at structs ty 0 k).offset
moved structs Void off k = omega arith
moved structs (Int t) off k = omega arith
moved structs (Pointer to c) off k = omega arith
moved structs (Array of c n) off k = omega arith
moved structs (Struct n) off k = by (slice_get (members_of structs n) k)
  where
    by : (o : Option MemberTree) → (member_part off o).offset ≡ off + (member_part 0 o).offset
    by None = omega arith
    by (Some m) = omega arith
moved structs (Function n) off k = omega arith

same_part : (structs : List StructDefTree) (ty : CTypeTree) (off k : ℕ) → (part_at structs ty off k).ty ≡ (part_at structs ty 0 k).ty
same_part structs Void off k = refl
same_part structs (Int t) off k = refl
same_part structs (Pointer to c) off k = refl
same_part structs (Array of c n) off k = refl
same_part structs (Struct n) off k = by (slice_get (members_of structs n) k)
  where
    by : (o : Option MemberTree) → (member_part off o).ty ≡ (member_part 0 o).ty
    by None = refl
    by (Some m) = refl
same_part structs (Function n) off k = refl

-- its parts lie in it
pub inside_part :
    (structs : List StructDefTree) (n : ℕ) (ty : CTypeTree) (off size : ℕ) → IsTypedTable structs → IsProperType structs ty → size_in structs ty ≡ Some size
    → (k : ℕ) → k < room n (frame_of structs (record { ty = ty; offset = off }))
    → (off ≤ (part_at structs ty off k).offset) × (end_of structs (part_at structs ty off k) ≤ off + size)
inside_part structs n ty off size table proper e k h =
    let f = frame_by structs ty n ty 0 table (record { at = whole ty; proper = proper; size = size; sized = e }) in
    let is = f.parts k h in
    let bound : (part_at structs ty 0 k).offset + is.size ≤ size =
    subst (λ o. IsSomeAnd o (λ top. (part_at structs ty 0 k).offset + is.size ≤ top)) e (inside structs table.laid_out is.size is.at is.sized) in
    let low = moved structs ty off k in
    let same = ap (size_of structs) (same_part structs ty off k) ∙ ap (λ o. unwrap_or o 0) is.sized in
    (omega (arith, low), omega (arith, low, same, bound))
