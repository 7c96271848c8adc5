-- The typedef names of a declaration, declarator by declarator.
use Rattle.std.proofs.Common.{◌≡◌, ℕ, ◌+◌, ◌<◌, ◌≤◌, Bool, true, false, List, [], ◌∷◌, ◌++◌, length, get_or, drop, refl, sym, ap, ◌∙◌, append_assoc}
use Rattle.std.specs.Prelude.{◌||◌, map, Option, Some, None}
use Rattle.std.proofs.lemmas.List.{append-nil, at_drop_more, at_drop_all}
use Rattle.std.specs.declared.alloc.Global.{Global}
use Rattle.std.specs.declared.boxed.Box.{Box}
use Rattle.c_syntax_written.specs.declared.declaration.Decl.{Decl}
use Rattle.c_syntax_written.specs.declared.declaration.InitDeclarator.{InitDeclarator}
use Rattle.c_syntax_written.specs.declared.file.BlockItems.{BlockItems}
use Rattle.c_syntax_written.specs.declared.file.Outer.{Outer}
use Rattle.c_syntax_written.specs.declared.file.Outer.TheVariants as outers
use Rattle.c_syntax_written.specs.declared.place.Pos.{Pos}
use Rattle.c_syntax_written.specs.declared.written.Declarator.{Declarator}
use Rattle.c_syntax_written.specs.declared.written.Spec.{Spec}
use Rattle.c_syntax_written.specs.declared.written.Specs.{Specs}
use Rattle.c_syntax_written.specs.Written.{spec_tree, specs_from, specs_tree, declarator_tree}
use Rattle.c_syntax_written.specs.WrittenDecl.{initdeclarator_tree}
use Rattle.c_syntax_written.specs.WrittenFile.{outer_tree}
use Rattle.c_syntax_written.proofs.WrittenFileTrees.{outer_declared, outer_function}
use Rattle.c_grammar.specs.Made.{declared_word, declared_words, has_typedef, is_typedef, new_types, with_word}
use Rattle.c_parser_steps.proofs.Steps.{if_false}

abbrev pub typedef_among : List Spec → Bool
typedef_among specs = has_typedef (specs_from specs)

typedef_none : typedef_among [] ≡ false
unfolding has_typedef specs_from
typedef_none = refl

typedef_first : (spec : Spec) (rest : List Spec) → typedef_among (spec ∷ rest) ≡ (is_typedef (spec_tree spec) || typedef_among rest)
unfolding has_typedef specs_from
typedef_first spec rest = refl

typedef_step : (specs : List Spec) (i : ℕ) (spec : Spec) → i < length specs → spec ≡ get_or specs i spec → typedef_among (drop i specs) ≡ (is_typedef (spec_tree spec) || typedef_among (drop (i + 1) specs))
typedef_step specs i spec l e =
    at_drop_more typedef_among specs i spec l ∙ typedef_first (get_or specs i spec) (drop (i + 1) specs) ∙ ap (λ (v : Spec). is_typedef (spec_tree v) || typedef_among (drop (i + 1) specs)) (sym e)

-- a spec of those that are left is a typedef
pub typedef_found : (specs : List Spec) (i : ℕ) (spec : Spec) → i < length specs → spec ≡ get_or specs i spec → typedef_among (drop i specs) ≡ typedef_among specs → is_typedef (spec_tree spec) ≡ true → true ≡ typedef_among specs
typedef_found specs i spec l e f t = sym (ap (λ (v : Bool). v || typedef_among (drop (i + 1) specs)) t) ∙ sym (typedef_step specs i spec l e) ∙ f

pub typedef_later : (specs : List Spec) (i : ℕ) (spec : Spec) → i < length specs → spec ≡ get_or specs i spec → typedef_among (drop i specs) ≡ typedef_among specs → is_typedef (spec_tree spec) ≡ false → typedef_among (drop (i + 1) specs) ≡ typedef_among specs
typedef_later specs i spec l e f t = sym (ap (λ (v : Bool). v || typedef_among (drop (i + 1) specs)) t) ∙ sym (typedef_step specs i spec l e) ∙ f

pub typedef_nowhere : (specs : List Spec) (i : ℕ) → length specs ≤ i → typedef_among (drop i specs) ≡ typedef_among specs → false ≡ typedef_among specs
typedef_nowhere specs i l f = sym typedef_none ∙ sym (at_drop_all typedef_among specs i l) ∙ f

abbrev pub words_of : List InitDeclarator → List (List ℕ)
words_of items = declared_words (map initdeclarator_tree items)

words_none : words_of [] ≡ []
unfolding declared_words
words_none = refl

words_first : (item : InitDeclarator) (rest : List InitDeclarator) → words_of (item ∷ rest) ≡ with_word (declared_word (declarator_tree item.declarator)) (words_of rest)
unfolding declared_words
words_first item rest = refl

with_more : (word : Option (List ℕ)) (names : List (List ℕ)) → with_word word names ≡ with_word word [] ++ names
with_more (Some name) names = refl
with_more None names = refl

words_step : (items : List InitDeclarator) (i : ℕ) (item : InitDeclarator) → i < length items → item ≡ get_or items i item → words_of (drop i items) ≡ with_word (declared_word (declarator_tree item.declarator)) [] ++ words_of (drop (i + 1) items)
words_step items i item l e =
    at_drop_more words_of items i item l ∙ words_first (get_or items i item) (drop (i + 1) items) ∙ ap (λ (v : InitDeclarator). with_word (declared_word (declarator_tree v.declarator)) (words_of (drop (i + 1) items))) (sym e) ∙ with_more (declared_word (declarator_tree item.declarator)) (words_of (drop (i + 1) items))

-- the word of one more declarator was put behind the names
pub word_added : (before more all : List (List ℕ)) (items : List InitDeclarator) (i : ℕ) (item : InitDeclarator) → i < length items → item ≡ get_or items i item → before ++ words_of (drop i items) ≡ all → more ≡ before ++ with_word (declared_word (declarator_tree item.declarator)) [] → more ++ words_of (drop (i + 1) items) ≡ all
word_added before more all items i item l e f g =
    ap (λ (v : List (List ℕ)). v ++ words_of (drop (i + 1) items)) g ∙ append_assoc before (with_word (declared_word (declarator_tree item.declarator)) []) (words_of (drop (i + 1) items)) ∙ ap (λ (v : List (List ℕ)). before ++ v) (sym (words_step items i item l e)) ∙ f

no_more_words : (before : List (List ℕ)) → before ++ words_of [] ≡ before
unfolding declared_words
no_more_words before = append-nil before

pub words_added : (before all : List (List ℕ)) (items : List InitDeclarator) (i : ℕ) → length items ≤ i → before ++ words_of (drop i items) ≡ all → before ≡ all
words_added before all items i l f = sym (no_more_words before) ∙ ap (λ (v : List (List ℕ)). before ++ v) (sym (at_drop_all words_of items i l)) ∙ f

pub declares_no_type : (decl : Decl) → has_typedef (specs_tree decl.specs) ≡ false → new_types (outer_tree (outers.Declared decl)) ≡ []
declares_no_type decl h = ap new_types (outer_declared decl) ∙ if_false _ h

pub function_names_no_type : (at : Pos) (specs : Specs) (declarator : Box Declarator Global) (brace : Pos) (body : BlockItems) → new_types (outer_tree (outers.Function at specs declarator brace body)) ≡ []
function_names_no_type at specs declarator brace body = ap new_types (outer_function at specs declarator brace body)

pub nothing_added : (before : List (List ℕ)) (outer made : Outer) → outer ≡ made → new_types (outer_tree made) ≡ [] → before ≡ before ++ new_types (outer_tree outer)
nothing_added before outer made e f = sym (append-nil before) ∙ ap (λ (v : List (List ℕ)). before ++ v) (sym f) ∙ ap (λ (v : Outer). before ++ new_types (outer_tree v)) (sym e)
