-- What typing is of a list of items from a place on: the item there, and those behind it.
use Rattle.std.proofs.Common.{◌≡◌, ℕ, zero, suc, ◌+◌, ◌<◌, ◌≤◌, List, [], ◌∷◌, refl, sym, ap, ◌∙◌, subst, drop, length, get_or, drop-cons, add-one, arith}
use Rattle.std.specs.Prelude.{Bool}
use Rattle.c_syntax_written.specs.declared.declaration.Init.{Init}
use Rattle.c_syntax_written.specs.WrittenDecl.{init_tree, inits_from}
use Rattle.c_syntax_written.proofs.WrittenDeclTrees.{inits_nil, inits_cons}
use Rattle.c_syntax.specs.Types.{CTypeTree}
use Rattle.c_typing.specs.Inits.{Filled, TypesItems}
use Rattle.c_typing.specs.World.{World, Outcome, Typed, Then}
use Rattle.c_check_inits.specs.Forms.{ItemForm}
use Rattle.c_check_inits.proofs.Lines.{items_line, no_items_line}

falls : {A : Type 0} (xs : List A) (k : ℕ) (x : A) → x ≡ get_or xs k x → k < length xs → drop k xs ≡ x ∷ drop (k + 1) xs
falls xs k x e h = rw add-one (drop-cons xs k x h ∙ ap (λ y. y ∷ drop (suc k) xs) (sym e))

drop_past : {A : Type 0} (xs : List A) (k : ℕ) → length xs ≤ k → drop k xs ≡ []
drop_past [] zero h = refl
drop_past [] (suc k) h = refl
drop_past (x ∷ xs) zero h = absurd (omega (arith, h))
drop_past (x ∷ xs) (suc k) h = drop_past xs k (omega arith)

pub next_item : (w : World) (static : Bool) (whole : CTypeTree) (done : Filled) (xs : List Init) (k : ℕ) (x : Init) (o : Outcome Filled)
    → x ≡ get_or xs k x → k < length xs
    → Then (ItemForm w static whole done (init_tree x)) (λ filled w1. TypesItems w1 static whole filled (inits_from (drop (k + 1) xs))) o
    → TypesItems w static whole done (inits_from (drop k xs)) o
next_item w static whole done xs k x o e h p =
    subst (λ list. TypesItems w static whole done list o) (sym (ap inits_from (falls xs k x e h) ∙ inits_cons x (drop (k + 1) xs)))
    (items_line w static whole done (init_tree x) (inits_from (drop (k + 1) xs)) o p)

pub last_item : (w : World) (static : Bool) (whole : CTypeTree) (done : Filled) (xs : List Init) (k : ℕ) (o : Outcome Filled) → length xs ≤ k
    → o ≡ Typed done w → TypesItems w static whole done (inits_from (drop k xs)) o
last_item w static whole done xs k o h p =
    subst (λ list. TypesItems w static whole done list o) (sym (ap inits_from (drop_past xs k h) ∙ inits_nil)) (no_items_line w static whole done o p)
