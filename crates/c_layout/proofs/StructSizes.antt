-- A struct with members has as many bytes as its first member, and more.
use Rattle.std.proofs.Common.{◌≡◌, ℕ, ◌+◌, ◌<◌, ◌≤◌, List, [], ◌∷◌, length, refl, subst, arith}
use Rattle.std.specs.Prelude.{Option, None, Some, IfSome, IsSomeAnd, All, slice_get}
use Rattle.c_syntax.specs.Types.{Struct}
use Rattle.c_syntax.specs.Program.{MemberTree, StructDefTree}
use Rattle.c_layout.specs.Layout.{members_of, size_in}
use Rattle.c_layout.specs.ProperTypes.{IsTold, PartAt, whole, member as in_member}
use Rattle.c_layout.specs.Tables.{IsTypedTable, IsTypedMember}
use Rattle.c_layout.proofs.Parts.{inside}
use Rattle.c_layout.proofs.ScalarMembers.{has_type, offset_told, members_typed}

first_of_members : (members : List MemberTree) → 0 < length members → (m : MemberTree) × (slice_get members 0 ≡ Some m)
first_of_members [] h = absurd (omega arith)
first_of_members (m ∷ members) h = (m, refl)

first_holds : (structs : List StructDefTree) (members : List MemberTree) (m : MemberTree) → All (IsTypedMember structs) members → slice_get members 0 ≡ Some m → IsTypedMember structs m
first_holds structs [] m all e = absurd (cc)
first_holds structs (x ∷ members) m all e =
    let same : x ≡ m = cc in
    subst (IsTypedMember structs) same (all 0 x (omega arith))

joined : (o inner : Option ℕ) (offset : ℕ) → ((size : ℕ) → inner ≡ Some size → IsSomeAnd o (λ top. offset + size ≤ top)) → IsSomeAnd inner (λ size. (0 < size) × IsTold size) → IfSome o IsTold → IsSomeAnd o (λ size. (0 < size) × IsTold size)
joined o None offset ends h told = absurd h
joined None (Some size) offset ends h told = absurd (ends size refl)
joined (Some top) (Some size) offset ends h told = let below = ends size refl in (omega arith, told)

pub struct_size : (structs : List StructDefTree) → IsTypedTable structs → (n : ℕ) → 0 < length (members_of structs n) → IsSomeAnd (size_in structs (Struct n)) (λ size. (0 < size) × IsTold size)
struct_size structs table n some =
    let m = first_of_members (members_of structs n) some in
    let typed = first_holds structs (members_of structs n) m.0 (members_typed structs structs n table.members) m.1 in
    let at : PartAt structs (Struct n) m.0.offset m.0.ty =
    in_member m.0.ty m.0.ty n 0 m.0.offset 0 m.0.offset (has_type (members_of structs n) 0 m.0 m.1) (offset_told structs table.laid_out n 0 m.0 m.1) (whole m.0.ty) (omega arith) in
    joined (size_in structs (Struct n)) (size_in structs m.0.ty) m.0.offset (λ size e. inside structs table.laid_out size at e) typed.size (table.told n)
