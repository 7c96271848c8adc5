-- Where the members of structs stand, which are listed by their names.
use Rattle.std.proofs.Common.{◌≡◌, refl, sym, ap, ◌∙◌, ℕ, zero, suc, ◌+◌, arith, Bool, true, false, cond, List, [], ◌∷◌, map, Option, Some}
use Rattle.std.specs.Prelude.{if◌then◌else◌, find, nat_le, slice_get, position, unwrap_or, option_map}
use Rattle.std.specs.List.{position_from}
use Rattle.std.specs.Str.{bytes_eq}
use Rattle.std.proofs.lemmas.Bool.{le-leb}
use Rattle.std.proofs.lemmas.Option.{slice_get-map}
use Rattle.std.proofs.lemmas.Iterator.Adapters.{position_from-zero}
use Rattle.c_syntax.specs.declared.program.Member.{Member}
use Rattle.c_syntax.specs.declared.program.StructDef.{StructDef}
use Rattle.c_syntax.specs.Program.{MemberTree, StructDefTree, member_tree, structdef_tree}
use Rattle.c_layout.specs.Layout.{members_of}
use Rattle.c_typing.specs.Names.{tag_of}
use Rattle.c_check_names.specs.Places.{places_from, first_place}

-- the first place is found, where one is
found_first : (b : Bool) (k : ℕ) (ps : List ℕ) (o : Option ℕ) → find (λ place. nat_le 0 place) ps ≡ o → find (λ place. nat_le 0 place) (if b then k ∷ ps else ps) ≡ cond b (Some k) o
found_first true k ps o e = ap (λ c. cond c (Some k) (find (λ place. nat_le 0 place) ps)) (le-leb 0 k (omega arith))
found_first false k ps o e = e

-- the names of a struct's members
abbrev pub names_of : StructDef → List (List ℕ)
names_of def = map (λ (member : Member). member.name) def.members

module _ (name : List ℕ) where
  abbrev has_name : MemberTree → Bool
  has_name member = bytes_eq member.name name

  first_named : (k : ℕ) (members : List Member) → find (λ place. nat_le 0 place) (places_from k name (map (λ (member : Member). member.name) members)) ≡ position_from has_name k (map member_tree members)
  first_named k [] = refl
  first_named k (m ∷ ms) =
      let next : suc k ≡ k + 1 = omega arith in
      found_first (bytes_eq m.name name) k (places_from (suc k) name (map (λ (member : Member). member.name) ms)) (position_from has_name (k + 1) (map member_tree ms))
      (first_named (suc k) ms ∙ ap (λ i. position_from has_name i (map member_tree ms)) next)

  -- the first place of a name is that of the member of this name
  first_member : (members : List Member) → first_place 0 name (map (λ (member : Member). member.name) members) ≡ position has_name (map member_tree members)
  first_member members = first_named 0 members ∙ sym (position_from-zero has_name (map member_tree members))

  -- the names of a struct's members tell where each member stands
  pub place_told : (defs : List StructDef) (n : ℕ) (names : List (List ℕ)) → Some names ≡ slice_get (map names_of defs) n → first_place 0 name names ≡ position has_name (members_of (map structdef_tree defs) n)
  place_told [] n names e = cc
  place_told (def ∷ defs) zero names e = let same : names ≡ names_of def = cc in ap (first_place 0 name) same ∙ first_member def.members
  place_told (def ∷ defs) (suc n) names e = place_told defs n names e

-- the tag of a struct that is there
pub tag_told : (defs : List StructDef) (n : ℕ) (def : StructDef) → slice_get defs n ≡ Some def → def.tag ≡ tag_of (map structdef_tree defs) n
tag_told defs n def e =
    sym (ap (λ (o : Option StructDefTree). unwrap_or (option_map (λ d. d.tag) o) []) (slice_get-map structdef_tree defs n ∙ ap (option_map structdef_tree) e))
