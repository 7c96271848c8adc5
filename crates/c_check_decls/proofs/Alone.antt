-- What a declaration has beside `struct S`.
use Rattle.std.proofs.Common.{◌≡◌, List, [], ◌∷◌, refl, sym, ap, ◌∙◌, map, false}
use Rattle.std.specs.Prelude.{Bool}
use Rattle.c_syntax_written.specs.declared.written.Spec.{Spec}
use Rattle.c_syntax_written.specs.declared.declaration.InitDeclarator.{InitDeclarator}
use Rattle.c_syntax_written.specs.Written as written
use Rattle.c_syntax_written.specs.Written.{SpecTree, SpecTrees, spec_tree, specs_from}
use Rattle.c_syntax_written.specs.WrittenDecl.{InitDeclaratorTree, initdeclarator_tree}
use Rattle.c_syntax_written.proofs.WrittenTrees.{specs_cons, specs_nil}
use Rattle.c_typing.specs.Decls.{is_struct_alone}

-- a second word
two_words : (s t : SpecTree) (rest : SpecTrees) (items : List InitDeclaratorTree) → is_struct_alone (written.more_specs s (written.more_specs t rest)) items ≡ false
two_words (written.Storage at word) t rest items = refl
two_words (written.Const at) t rest items = refl
two_words (written.Basic at word) t rest items = refl
two_words (written.TypedefName at name) t rest items = refl
two_words (written.Struct at tag) t rest items = refl
two_words (written.StructBody at tag _) t rest items = refl
two_words (written.Enum at tag) t rest items = refl
two_words (written.EnumBody at tag list) t rest items = refl

no_items : (items : List InitDeclarator) (words : SpecTrees) → items ≡ [] → is_struct_alone words (map initdeclarator_tree items) ≡ is_struct_alone words []
no_items items words e = ap (λ list. is_struct_alone words (map initdeclarator_tree list)) e

pub without_words : (xs : List Spec) (words : SpecTrees) (items : List InitDeclarator) → xs ≡ [] → specs_from xs ≡ words → items ≡ []
    → false ≡ is_struct_alone words (map initdeclarator_tree items)
without_words xs words items e f g =
    sym (no_items items words g ∙ ap (λ w. is_struct_alone w []) (sym f ∙ ap specs_from e ∙ specs_nil))

pub one_word : (xs rest : List Spec) (x : Spec) (words : SpecTrees) (items : List InitDeclarator) (b : Bool) → xs ≡ x ∷ rest → rest ≡ [] → specs_from xs ≡ words
    → items ≡ [] → b ≡ is_struct_alone (written.more_specs (spec_tree x) written.no_specs) [] → b ≡ is_struct_alone words (map initdeclarator_tree items)
one_word xs rest x words items b e r f g h =
    h ∙ sym (no_items items words g ∙ ap (λ w. is_struct_alone w []) (sym f ∙ ap specs_from (e ∙ ap (λ l. x ∷ l) r) ∙ specs_cons x []
    ∙ ap (written.more_specs (spec_tree x)) specs_nil))

pub more_words : (xs rest : List Spec) (x : Spec) (words : SpecTrees) (items : List InitDeclarator) → xs ≡ x ∷ rest → (rest ≡ [] → ⊥) → specs_from xs ≡ words
    → items ≡ [] → false ≡ is_struct_alone words (map initdeclarator_tree items)
more_words xs [] x words items e r f g = absurd (r refl)
more_words xs (y ∷ rest) x words items e r f g =
    sym (no_items items words g ∙ ap (λ w. is_struct_alone w []) (sym f ∙ ap specs_from e ∙ specs_cons x (y ∷ rest)
    ∙ ap (written.more_specs (spec_tree x)) (specs_cons y rest)) ∙ two_words (spec_tree x) (spec_tree y) (specs_from rest) [])
