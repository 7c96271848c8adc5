-- Sizes, alignments and offsets of types in bytes, as whole numbers without bound.
use Rattle.std.specs.Prelude.{ℕ, zero, suc, ◌+◌, ◌-◌, ◌*◌, ◌%◌, ◌^◌, ◌==◌, nat_le, max, if◌then◌else◌, Option, Some, None, option_map, unwrap_or, List, [], ◌∷◌, map, fold, find, take, slice_get}
use Rattle.std.specs.Str.{bytes_eq}
use Rattle.c_syntax.specs.Types.{CTypeTree, Void, Int, Pointer, Array, Struct, Function}
use Rattle.c_syntax.specs.Program.{MemberTree, StructDefTree}
use Rattle.c_syntax_written.specs.Integer.{bytes}
use Rattle.c_layout.specs.declared.layout.Sized.{Sized}
use Rattle.c_layout.specs.declared.layout.Sized.TheVariants.{Fits, Oversize, Incomplete}

-- what an object of a type takes: so many bytes, if the type is complete, from a multiple of the alignment on
pub record Space : Type 0 where
  pub size : Option ℕ
  pub align : ℕ

-- a type that is not complete (C11 6.2.5p1)
abbrev pub no_space : Space
no_space = record { size = None; align = 1 }

-- a scalar of so many bytes, which is its alignment too (this profile)
abbrev pub scalar_space : ℕ → Space
scalar_space n = record { size = Some n; align = n }

-- so many elements without a gap (C11 6.2.5p20)
abbrev pub array_space : ℕ → Space → Space
array_space n of = record { size = option_map (λ s. n * s) of.size; align = of.align }

-- how many bytes lie before the next multiple of the alignment
abbrev pub padding : ℕ → ℕ → ℕ
padding at align = if at % align == 0 then 0 else align - at % align

-- the next multiple of the alignment
abbrev pub padded : ℕ → ℕ → ℕ
padded at align = at + padding at align

-- where a member ends that stands after the first bytes, padded to its alignment (C11 6.7.2.1p15); without a size it takes none
abbrev pub member_end : ℕ → Space → ℕ
member_end at space = padded at space.align + unwrap_or space.size 0

-- where the last of the members ends
abbrev pub members_end : List Space → ℕ
members_end members = fold member_end 0 members

-- the greatest alignment of the members
abbrev pub strictest : List Space → ℕ
strictest members = fold (λ align space. max align space.align) 1 members

-- a struct of these members, padded at its end to the strictest alignment (C11 6.7.2.1p17); without members it is not complete
abbrev pub struct_space : List Space → Space
struct_space [] = no_space
struct_space (first ∷ rest) = record {
  size = Some (padded (members_end (first ∷ rest)) (strictest (first ∷ rest)));
  align = strictest (first ∷ rest);
}

-- a type, where it is given what each struct takes
abbrev pub space_by : (ℕ → Space) → CTypeTree → Space
space_by struct Void = no_space
space_by struct (Int t) = scalar_space (bytes t)
space_by struct (Pointer to is_const) = scalar_space 8
space_by struct (Array of is_const n) = array_space n (space_by struct of)
space_by struct (Struct n) = struct n
space_by struct (Function n) = no_space

-- the members' types, one by one
abbrev pub spaces_by : (ℕ → Space) → List MemberTree → List Space
spaces_by struct members = map (λ member. space_by struct member.ty) members

-- the members of a struct, which are none where there is no such struct
abbrev pub members_of : List StructDefTree → ℕ → List MemberTree
members_of structs n = unwrap_or (option_map (λ def. def.members) (slice_get structs n)) []

-- what an entry of the table tells of its struct, which is not complete without members
abbrev pub told : List MemberTree → Space → Space
told [] space = no_space
told (first ∷ rest) space = space

-- what the table tells of a struct: the size and the alignment that are stored there
abbrev pub in_table : List StructDefTree → ℕ → Space
in_table structs n = unwrap_or (option_map (λ def. told def.members (record { size = Some def.size; align = def.align })) (slice_get structs n)) no_space

-- what the members of a struct take, where a struct among them takes what the table tells
abbrev pub member_spaces : List StructDefTree → ℕ → List Space
member_spaces structs n = spaces_by (in_table structs) (members_of structs n)

-- a struct, laid out from its members
abbrev pub laid_out : List StructDefTree → ℕ → Space
laid_out structs n = struct_space (member_spaces structs n)

-- a type; what is stored of its own struct does not matter
abbrev pub space_of : List StructDefTree → CTypeTree → Space
space_of structs ty = space_by (laid_out structs) ty

-- a struct read by its members down to the last, where structs stand in one another at most so deep
unfoldable pub struct_within : ℕ → List StructDefTree → ℕ → Space
struct_within zero structs n = no_space
struct_within (suc depth) structs n = struct_space (spaces_by (struct_within depth structs) (members_of structs n))

-- the size, if the type is complete
abbrev pub size_in : List StructDefTree → CTypeTree → Option ℕ
size_in structs ty = (space_of structs ty).size

-- the alignment
abbrev pub align_in : List StructDefTree → CTypeTree → ℕ
align_in structs ty = (space_of structs ty).align

-- where member k of a struct with these members stands
abbrev pub offset_at : List Space → ℕ → Option ℕ
offset_at members k = option_map (λ member. padded (members_end (take k members)) member.align) (slice_get members k)

-- a size, or that it is above 2 to the 40 or not there
abbrev pub sized : Option ℕ → Sized
sized None = Incomplete
sized (Some n) = if nat_le n (2 ^ 40) then Fits n else Oversize

-- the offset of the member of this name
abbrev pub offset_named : List MemberTree → List ℕ → Option ℕ
offset_named members name = option_map (λ member. member.offset) (find (λ member. bytes_eq member.name name) members)
