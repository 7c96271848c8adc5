-- What typing is of the items of a block from a place on: the item there, and those behind it.
use Rattle.std.proofs.Common.{◌≡◌, ℕ, zero, suc, ◌+◌, ◌<◌, ◌≤◌, List, [], ◌∷◌, refl, sym, ap, ◌∙◌, subst, drop, length, get_or, drop-cons, add-one, arith}
use Rattle.c_syntax_written.specs.declared.file.BlockItem.{BlockItem}
use Rattle.c_syntax_written.specs.WrittenFile.{blockitem_tree, blockitems_from}
use Rattle.c_syntax_written.proofs.WrittenFileTrees.{blockitems_nil, blockitems_cons}
use Rattle.c_typing.specs.Context.{Context}
use Rattle.c_typing.specs.Decls.{Made}
use Rattle.c_typing.specs.Stmts.{TypesItems}
use Rattle.c_typing.specs.World.{World, Outcome, Typed, Then}
use Rattle.c_check_stmts.specs.Forms.{ItemForm}
use Rattle.c_check_stmts.proofs.Lines.{items_line, no_items_line}

falls : {A : Type 0} (xs : List A) (k : ℕ) (x : A) → x ≡ get_or xs k x → k < length xs → drop k xs ≡ x ∷ drop (k + 1) xs
falls xs k x e h = rw add-one (drop-cons xs k x h ∙ ap (λ y. y ∷ drop (suc k) xs) (sym e))

drop_past : {A : Type 0} (xs : List A) (k : ℕ) → length xs ≤ k → drop k xs ≡ []
drop_past [] zero h = refl
drop_past [] (suc k) h = refl
drop_past (x ∷ xs) zero h = absurd (omega (arith, h))
drop_past (x ∷ xs) (suc k) h = drop_past xs k (omega arith)

pub next_item : (w : World) (around : Context) (done : Made) (xs : List BlockItem) (k : ℕ) (x : BlockItem) (o : Outcome Made)
    → x ≡ get_or xs k x → k < length xs
    → Then (ItemForm w around done (blockitem_tree x)) (λ made w1. TypesItems w1 around made (blockitems_from (drop (k + 1) xs))) o
    → TypesItems w around done (blockitems_from (drop k xs)) o
next_item w around done xs k x o e h p =
    subst (λ list. TypesItems w around done list o) (sym (ap blockitems_from (falls xs k x e h) ∙ blockitems_cons x (drop (k + 1) xs)))
    (items_line w around done (blockitem_tree x) (blockitems_from (drop (k + 1) xs)) o p)

pub last_item : (w : World) (around : Context) (done : Made) (xs : List BlockItem) (k : ℕ) (o : Outcome Made) → length xs ≤ k → o ≡ Typed done w
    → TypesItems w around done (blockitems_from (drop k xs)) o
last_item w around done xs k o h p =
    subst (λ list. TypesItems w around done list o) (sym (ap blockitems_from (drop_past xs k h) ∙ blockitems_nil)) (no_items_line w around done o p)
