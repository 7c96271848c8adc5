-- Names and tags of parameter lists, one after the other.
use Rattle.std.proofs.Common.{◌≡◌, sym, ap, ◌∙◌, ℕ, List, [], ◌∷◌, ◌++◌, map}
use Rattle.std.specs.Prelude.{reverse}
use Rattle.std.proofs.lemmas.List.{append-nil, append_assoc, reverse-append, reverse-reverse}
use Rattle.c_typing.specs.World.{World, Meaning}
use Rattle.c_typing.specs.Names.{with_name}
use Rattle.c_typing.specs.File.{as_object, with_object_meaning}
use Rattle.c_check_names.specs.declared.types.Binding.{Binding}
use Rattle.c_check_names.specs.declared.types.TagBinding.{TagBinding}
use Rattle.c_check_names.specs.Trees.{binding_tree, meaning_tree, tag_tree}
use Rattle.c_check_functions.specs.Views.{with_names, with_tags}

-- the last one comes first, turned round
turned : {A : Type 0} (left rest : List A) (x : A) → left ≡ rest ++ x ∷ [] → reverse left ≡ x ∷ reverse rest
turned left rest x e = ap reverse e ∙ reverse-append rest (x ∷ [])

-- names that are left
abbrev pub names_left : World → ℕ → List Binding → World
names_left w first left = with_names w (map (with_object_meaning first) (map binding_tree (reverse left)))

module _ (w : World) (first : ℕ) where
  pub names_begin : (names left : List Binding) → left ≡ reverse names → names_left w first left ≡ with_names w (map (with_object_meaning first) (map binding_tree names))
  names_begin names left e = ap (λ bs. with_names w (map (with_object_meaning first) (map binding_tree bs))) (ap reverse e ∙ reverse-reverse names)

  pub next_name : (left rest : List Binding) (b : Binding) (m : Meaning) (u : World) → left ≡ rest ++ b ∷ [] → m ≡ as_object first (meaning_tree b.meaning)
      → u ≡ with_name w b.pos b.name m → names_left u first rest ≡ names_left w first left
  next_name left rest b m u e f g =
      let told = map (with_object_meaning first) (map binding_tree (reverse rest)) in
      ap (λ x. with_names x told) (g ∙ ap (with_name w b.pos b.name) f)
      ∙ ap (λ names. record w { names = names }) (append_assoc w.names (with_object_meaning first (binding_tree b) ∷ []) told)
      ∙ ap (λ bs. with_names w (map (with_object_meaning first) (map binding_tree bs))) (sym (turned left rest b e))

  pub no_name_left : (left : List Binding) → left ≡ [] → names_left w first left ≡ w
  no_name_left left e =
      ap (λ bs. with_names w (map (with_object_meaning first) (map binding_tree bs))) (ap reverse e) ∙ ap (λ names. record w { names = names }) (append-nil w.names)

-- tags that are left
abbrev pub tags_left : World → List TagBinding → World
tags_left w left = with_tags w (map tag_tree (reverse left))

module _ (w : World) where
  pub tags_begin : (tags left : List TagBinding) → left ≡ reverse tags → tags_left w left ≡ with_tags w (map tag_tree tags)
  tags_begin tags left e = ap (λ bs. with_tags w (map tag_tree bs)) (ap reverse e ∙ reverse-reverse tags)

  pub next_tag : (left rest : List TagBinding) (b : TagBinding) (u : World) → left ≡ rest ++ b ∷ [] → u ≡ with_tags w (tag_tree b ∷ []) → tags_left u rest ≡ tags_left w left
  next_tag left rest b u e g =
      let told = map tag_tree (reverse rest) in
      ap (λ x. with_tags x told) g ∙ ap (λ tags. record w { tags = tags }) (append_assoc w.tags (tag_tree b ∷ []) told)
      ∙ ap (λ bs. with_tags w (map tag_tree bs)) (sym (turned left rest b e))

  pub no_tag_left : (left : List TagBinding) → left ≡ [] → tags_left w left ≡ w
  no_tag_left left e = ap (λ bs. with_tags w (map tag_tree bs)) (ap reverse e) ∙ ap (λ tags. record w { tags = tags }) (append-nil w.tags)
