-- What types take, step by step.
use Rattle.std.proofs.Common.{◌≡◌, ℕ, ◌+◌, ◌*◌, ◌<◌, ◌≤◌, List, [], ◌∷◌, length, map, get_or, take, refl, ap, sym, subst, ◌∙◌, arith}
use Rattle.std.specs.Prelude.{Option, Some, None, option_map}
use Rattle.std.specs.Prelude.{fold}
use Rattle.std.proofs.Math.Nat.{mul_assoc}
use Rattle.std.proofs.Math.ListN.{get_or-map}
use Rattle.std.proofs.lemmas.List.{length-map, take_all}
use Rattle.std.proofs.lemmas.List.Sums.{fold_more}
use Rattle.c_syntax.specs.declared.program.Member.{Member}
use Rattle.c_syntax.specs.declared.types.CType.{CType}
use Rattle.c_syntax.specs.declared.types.CType.TheVariants as types
use Rattle.c_syntax.proofs.TypeTrees.{ctype_struct}
use Rattle.c_syntax.specs.Types.{ctype_tree, CTypeTree, Void, Int, Pointer, Array, Struct, Function}
use Rattle.c_syntax.specs.Program.{member_tree}
use Rattle.c_layout.specs.Layout.{Space, array_space, struct_space, space_by, spaces_by, members_end, strictest, padded}
use Rattle.c_layout.specs.Kept.{IsKept, element, element_count, element_space}
use Rattle.c_layout.specs.declared.layout.Room.{Room}

once : (s : Option ℕ) → s ≡ option_map (λ n. 1 * n) s
once None = refl
once (Some n) = ap Some (omega arith)

array_space-once : (s : Space) → s ≡ array_space 1 s
array_space-once s = ap (λ size. record { size = size; align = s.align }) (once s.size)

regroup : (m n : ℕ) (s : Option ℕ) → option_map (λ k. m * k) (option_map (λ k. n * k) s) ≡ option_map (λ k. (m * n) * k) s
regroup m n None = refl
regroup m n (Some k) = ap Some (sym (mul_assoc m n k))

-- an array of arrays takes what its innermost elements take
pub space_by-element : (struct : ℕ → Space) (ty : CTypeTree) → space_by struct ty ≡ array_space (element_count ty) (element_space struct (element ty))
space_by-element struct Void = array_space-once _
space_by-element struct (Int t) = array_space-once _
space_by-element struct (Pointer to is_const) = array_space-once _
space_by-element struct (Array of is_const n) =
    ap (array_space n) (space_by-element struct of)
    ∙ ap (λ size. record { size = size; align = (element_space struct (element of)).align }) (regroup n (element_count of) (element_space struct (element of)).size)
space_by-element struct (Struct n) = array_space-once _
space_by-element struct (Function n) = array_space-once _

pub struct_space-full : (members : List Space) → 0 < length members → struct_space members ≡ record { size = Some (padded (members_end members) (strictest members)); align = strictest members }
struct_space-full [] h = absurd (omega arith)
struct_space-full (first ∷ rest) h = refl

-- the space of a member that a loop has come to
space_at : (struct : ℕ → Space) (members : List Member) (i : ℕ) (m : Member) → m ≡ get_or members i m → get_or (spaces_by struct (map member_tree members)) i (space_by struct (ctype_tree m.ty)) ≡ space_by struct (ctype_tree m.ty)
space_at struct members i m e =
    get_or-map (λ member. space_by struct member.ty) (map member_tree members) i (member_tree m)
    ∙ ap (λ member. space_by struct member.ty) (get_or-map member_tree members i m)
    ∙ ap (λ member. space_by struct (ctype_tree member.ty)) (sym e)

-- one more member in a fold
pub fold_members : {A : Type 0} (f : A → Space → A) (a : A) (struct : ℕ → Space) (members : List Member) (i : ℕ) (m : Member) → i < length members → m ≡ get_or members i m → fold f a (take (i + 1) (spaces_by struct (map member_tree members))) ≡ f (fold f a (take i (spaces_by struct (map member_tree members)))) (space_by struct (ctype_tree m.ty))
fold_members f a struct members i m h e =
    let long : i < length (spaces_by struct (map member_tree members)) = simp length-map h in
    fold_more f a (spaces_by struct (map member_tree members)) i (space_by struct (ctype_tree m.ty)) long
    ∙ ap (f (fold f a (take i (spaces_by struct (map member_tree members))))) (space_at struct members i m e)

-- a loop over all members has all their spaces
pub take_spaces : (struct : ℕ → Space) (members : List Member) (i : ℕ) → length members ≤ i → take i (spaces_by struct (map member_tree members)) ≡ spaces_by struct (map member_tree members)
take_spaces struct members i h =
    let long : length (spaces_by struct (map member_tree members)) ≤ i = simp length-map h in
    take_all i (spaces_by struct (map member_tree members)) long

-- the element of a struct type takes what the struct takes
pub element_struct : (struct : ℕ → Space) (ty : CType) (n : ℕ) (space : Space) → ty ≡ types.Struct n → space ≡ struct n → space ≡ element_space struct (ctype_tree ty)
element_struct struct ty n space is e = e ∙ sym (ap (λ x. element_space struct (ctype_tree x)) is ∙ ap (element_space struct) (ctype_struct n))

pub kept_as : (room : Room) (a b : Space) → IsKept room a → a ≡ b → IsKept room b
kept_as room a b h e = subst (λ space. IsKept room space) e h
