-- Where a table is laid out and no struct holds itself, what is stored is what structs take that are read by their members down to the last.
use Rattle.std.proofs.Common.{◌≡◌, ℕ, zero, suc, ◌<◌, List, [], ◌∷◌, map, refl, ap, ◌∙◌, arith}
use Rattle.std.specs.Prelude.{Option, Some, None, IfSome, All, slice_index_or}
use Rattle.c_syntax.specs.Types.{CTypeTree, Void, Int, Pointer, Array, Struct, Function}
use Rattle.c_syntax.specs.Program.{MemberTree, StructDefTree}
use Rattle.c_layout.specs.Layout.{Space, array_space, struct_space, space_by, members_of, in_table, laid_out, struct_within}
use Rattle.c_layout.specs.Heights.{held, Falls}
use Rattle.c_layout.specs.LaidOut.{IsLaidOut, MeansUnfolded}

pub some_map : (o : Option ℕ) (P Q : ℕ → Type 0) → ((k : ℕ) → P k → Q k) → IfSome o P → IfSome o Q
some_map None P Q f h = h
some_map (Some k) P Q f h = f k h

same_map : (f g : MemberTree → Space) (members : List MemberTree) → All (λ member. f member ≡ g member) members → map f members ≡ map g members
same_map f g [] h = refl
same_map f g (member ∷ members) h =
    ap (λ space. space ∷ map f members) (h 0 member (omega arith))
    ∙ ap (λ spaces. g member ∷ spaces) (same_map f g members (λ k d lt. h (suc k) d (omega arith)))

-- a type depends on the struct that it holds alone
pub space_by-held : (f g : ℕ → Space) (ty : CTypeTree) → IfSome (held ty) (λ k. f k ≡ g k) → space_by f ty ≡ space_by g ty
space_by-held f g Void h = refl
space_by-held f g (Int t) h = refl
space_by-held f g (Pointer to is_const) h = refl
space_by-held f g (Array of is_const n) h = ap (array_space n) (space_by-held f g of h)
space_by-held f g (Struct n) h = h
space_by-held f g (Function n) h = refl

-- a struct is laid out from what is stored of those below it, which by induction is what they take unfolded
laid_out-within : (structs : List StructDefTree) (rank : ℕ → ℕ) → Falls structs rank → IsLaidOut structs → (depth n : ℕ) → rank n < depth → laid_out structs n ≡ struct_within depth structs n
unfolding struct_within
laid_out-within structs rank falls is zero n below = absurd (omega arith)
laid_out-within structs rank falls is (suc depth) n below =
    ap struct_space (same_map (λ member. space_by (in_table structs) member.ty) (λ member. space_by (struct_within depth structs) member.ty) (members_of structs n)
    (λ i d lt.
    let ty = (slice_index_or (members_of structs n) i d).ty in
    space_by-held (in_table structs) (struct_within depth structs) ty
    (some_map (held ty) (λ k. rank k < rank n) (λ k. in_table structs k ≡ struct_within depth structs k)
    (λ k lower. is.spaces k ∙ laid_out-within structs rank falls is depth k (omega arith))
    (falls n i d lt))))

pub means_unfolded : (structs : List StructDefTree) → MeansUnfolded structs
means_unfolded structs rank falls is ty depth below =
    space_by-held (laid_out structs) (struct_within depth structs) ty
    (some_map (held ty) (λ n. rank n < depth) (λ n. laid_out structs n ≡ struct_within depth structs n)
    (λ n lower. laid_out-within structs rank falls is depth n lower)
    below)
