-- Lists of type words, by how often each word stands in them.
use Rattle.std.proofs.Common.{◌≡◌, refl, ap, sym, ◌∙◌, Bool, true, false, cond, List, [], ◌∷◌, map, Option, Some, None}
use Rattle.std.specs.Prelude.{◌&&◌, option_map, find, nat_eq}
use Rattle.std.specs.Cmp.Lexicographic.{pointwise}
use Rattle.c_syntax_written.specs.declared.int_type.IntType.{IntType}
use Rattle.c_syntax.specs.Types.{CTypeTree}
use Rattle.c_syntax_written.specs.declared.written.TypeWord.{TypeWord}
use Rattle.c_syntax_written.specs.declared.written.TypeWord.TheVariants as words
use Rattle.c_typing.specs.Specifiers.{type_by_words, type_lists, is_as_often, are_same_words}
use Rattle.c_check_names.proofs.Found.{found_tree}
use Rattle.c_check_declarators.specs.declared.type_words.TheConstants.{TYPE_LISTS}
use Rattle.c_check_declarators.specs.declared.type_words.TypeList.{TypeList}
use Rattle.c_check_declarators.specs.Counts.{counts_of, int_in, type_in}

-- seven tests, however they stand in brackets
seven : (a b c d e f g : Bool) → (a && b) && ((c && d) && (e && (f && g))) ≡ a && (b && (c && (d && (e && (f && (g && true))))))
seven false b c d e f g = refl
seven true false c d e f g = refl
seven true true false d e f g = refl
seven true true true false e f g = refl
seven true true true true false f g = refl
seven true true true true true false g = refl
seven true true true true true true false = refl
seven true true true true true true true = refl

same_counts : (xs ys : List TypeWord) → are_same_words xs ys ≡ pointwise nat_eq (counts_of xs) (counts_of ys)
same_counts xs ys =
    seven (is_as_often xs ys words.Void) (is_as_often xs ys words.Char) (is_as_often xs ys words.Short) (is_as_often xs ys words.Int)
    (is_as_often xs ys words.Long) (is_as_often xs ys words.Signed) (is_as_often xs ys words.Unsigned)

find_agree : {A : Type 0} (p q : A → Bool) → ((x : A) → p x ≡ q x) → (xs : List A) → find p xs ≡ find q xs
find_agree p q h [] = refl
find_agree p q h (x ∷ xs) = ap (λ b. cond b (Some x) (find p xs)) (h x) ∙ ap (λ o. cond (q x) (Some x) o) (find_agree p q h xs)

-- the table of the code
table : TYPE_LISTS ≡ map (λ (row : List TypeWord × CTypeTree). record { counts = counts_of row.0; ty = int_in row.1 }) type_lists
table = refl

-- each list names an integer type, or void
types_listed : (p : List TypeWord → Bool) → option_map (λ row. row.1) (find (λ row. p row.0) type_lists) ≡ option_map (λ row. type_in (int_in row.1)) (find (λ row. p row.0) type_lists)
types_listed p =
    let tree : List TypeWord × CTypeTree → List TypeWord × CTypeTree = λ row. (row.0, type_in (int_in row.1)) in
    found_tree tree (λ row. row.1) (λ row. p row.0) type_lists

map_twice : {A B C : Type 0} (f : A → B) (g : B → C) (o : Option A) → option_map g (option_map f o) ≡ option_map (λ a. g (f a)) o
map_twice f g None = refl
map_twice f g (Some a) = refl

-- the row of the table tells what the words name
pub by_words : (words : List TypeWord) (row : Option (Option IntType)) → row ≡ option_map (λ list. list.ty) (find (λ list. pointwise nat_eq list.counts (counts_of words)) TYPE_LISTS)
    → option_map type_in row ≡ type_by_words words
by_words words row e =
    let test : List TypeWord → Bool = λ list. pointwise nat_eq (counts_of list) (counts_of words) in
    let listed = ap (λ (lists : List TypeList). option_map (λ list. list.ty) (find (λ list. pointwise nat_eq list.counts (counts_of words)) lists)) table in
    let tree : List TypeWord × CTypeTree → TypeList = λ row. record { counts = counts_of row.0; ty = int_in row.1 } in
    let found = found_tree tree (λ list. list.ty) (λ list. pointwise nat_eq list.counts (counts_of words)) type_lists in
    ap (option_map type_in) (e ∙ listed ∙ found) ∙ map_twice (λ (row : List TypeWord × CTypeTree). int_in row.1) type_in (find (λ row. test row.0) type_lists) ∙ sym (types_listed test)
    ∙ ap (option_map (λ (row : List TypeWord × CTypeTree). row.1)) (sym (find_agree (λ row. are_same_words row.0 words) (λ row. test row.0) (λ row. same_counts row.0 words) type_lists))
