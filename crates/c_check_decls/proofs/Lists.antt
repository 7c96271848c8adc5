-- What typing is of a list of declarators from a place on: the declarator there, and those behind it.
use Rattle.std.proofs.Common.{◌≡◌, ℕ, zero, suc, ◌+◌, ◌<◌, ◌≤◌, List, [], ◌∷◌, refl, sym, ap, ◌∙◌, subst, drop, length, map, get_or, drop-cons, add-one, arith}
use Rattle.std.specs.Prelude.{Option, None, Some, is_some, option_map}
use Rattle.c_syntax_written.specs.declared.place.Pos.{Pos}
use Rattle.c_syntax_written.specs.declared.written.StorageWord.{StorageWord}
use Rattle.c_syntax_written.specs.declared.declaration.InitDeclarator.{InitDeclarator}
use Rattle.c_syntax_written.specs.WrittenDecl.{InitDeclaratorTree, initdeclarator_tree}
use Rattle.c_typing.specs.Context.{Context}
use Rattle.c_typing.specs.Decls.{Made, made_then, TypesInitDeclarators}
use Rattle.c_typing.specs.World.{World, Form, Outcome, Typed, Then}
use Rattle.c_check_exprs.proofs.Results.{deeper}
use Rattle.c_check_decls.specs.Forms.{OneDeclarator}

no_declarators_line : (w : World) (around : Context) (first : Pos) (storage : List StorageWord) (base : Form) (done : Made) (o : Outcome Made)
    → o ≡ Typed done w → TypesInitDeclarators w around first storage base done [] o
unfolding TypesInitDeclarators
no_declarators_line w around first storage base done o p = p

declarators_line : (w : World) (around : Context) (first : Pos) (storage : List StorageWord) (base : Form) (done : Made) (item : InitDeclaratorTree)
    (rest : List InitDeclaratorTree) (o : Outcome Made)
    → Then (OneDeclarator w around first storage base item) (λ made w1. TypesInitDeclarators w1 around first storage base (made_then done made) rest) o
    → TypesInitDeclarators w around first storage base done (item ∷ rest) o
unfolding TypesInitDeclarators
declarators_line w around first storage base done item rest o p = deeper p

falls : {A : Type 0} (xs : List A) (k : ℕ) (x : A) → x ≡ get_or xs k x → k < length xs → drop k xs ≡ x ∷ drop (k + 1) xs
falls xs k x e h = rw add-one (drop-cons xs k x h ∙ ap (λ y. y ∷ drop (suc k) xs) (sym e))

drop_past : {A : Type 0} (xs : List A) (k : ℕ) → length xs ≤ k → drop k xs ≡ []
drop_past [] zero h = refl
drop_past [] (suc k) h = refl
drop_past (x ∷ xs) zero h = absurd (omega (arith, h))
drop_past (x ∷ xs) (suc k) h = drop_past xs k (omega arith)

pub next_declarator : (w : World) (around : Context) (first : Pos) (storage : List StorageWord) (base : Form) (done : Made) (xs : List InitDeclarator)
    (k : ℕ) (x : InitDeclarator) (o : Outcome Made) → x ≡ get_or xs k x → k < length xs
    → Then (OneDeclarator w around first storage base (initdeclarator_tree x))
    (λ made w1. TypesInitDeclarators w1 around first storage base (made_then done made) (map initdeclarator_tree (drop (k + 1) xs))) o
    → TypesInitDeclarators w around first storage base done (map initdeclarator_tree (drop k xs)) o
next_declarator w around first storage base done xs k x o e h p =
    subst (λ list. TypesInitDeclarators w around first storage base done list o) (sym (ap (map initdeclarator_tree) (falls xs k x e h)))
    (declarators_line w around first storage base done (initdeclarator_tree x) (map initdeclarator_tree (drop (k + 1) xs)) o p)

pub last_declarator : (w : World) (around : Context) (first : Pos) (storage : List StorageWord) (base : Form) (done : Made) (xs : List InitDeclarator)
    (k : ℕ) (o : Outcome Made) → length xs ≤ k → o ≡ Typed done w
    → TypesInitDeclarators w around first storage base done (map initdeclarator_tree (drop k xs)) o
last_declarator w around first storage base done xs k o h p =
    subst (λ list. TypesInitDeclarators w around first storage base done list o) (sym (ap (map initdeclarator_tree) (drop_past xs k h)))
    (no_declarators_line w around first storage base done o p)

-- what is there is there as its tree too
pub some_mapped : {A B : Type 0} (f : A → B) (o : Option A) → is_some o ≡ is_some (option_map f o)
some_mapped f None = refl
some_mapped f (Some x) = refl
