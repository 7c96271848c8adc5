-- The items of an initialiser, put in front of the work one by one, the last one first.
use Rattle.std.proofs.Common.{◌≡◌, ℕ, ◌+◌, ◌<◌, List, [], ◌∷◌, length, drop, get_or, refl, sym, ap, ◌∙◌}
use Rattle.std.proofs.Math.Seq.{drop-length}
use Rattle.std.proofs.lemmas.List.{drop_more}
use Rattle.c_syntax.specs.TypedStmt.{TInitTree, Store, Copy}
use Rattle.c_machine_trees.specs.declared.statement.SharedInit.{SharedInit}
use Rattle.c_machine_trees.specs.Statements.{init_tree, inits_from}
use Rattle.c_steps.specs.Statements.{init_items}
use Rattle.c_steps.specs.Work.{Item}

pub no_inits : (object : ℕ) (inits : List SharedInit) (work : List Item) → init_items object (inits_from (drop (length inits) inits)) work ≡ work
no_inits object inits work = ap (λ list. init_items object (inits_from list) work) (drop-length inits)

one_then : (object : ℕ) (init : TInitTree) (inits : List TInitTree) (work : List Item)
    → init_items object (init ∷ []) (init_items object inits work) ≡ init_items object (init ∷ inits) work
one_then object (Store offset ty value) inits work = refl
one_then object (Copy offset extent source) inits work = refl

pub one_more_init : (object : ℕ) (inits : List SharedInit) (k : ℕ) (init : SharedInit) (work : List Item) → k < length inits → init ≡ get_or inits k init
    → init_items object (inits_from (init ∷ [])) (init_items object (inits_from (drop (k + 1) inits)) work)
    ≡ init_items object (inits_from (drop k inits)) work
one_more_init object inits k init work below is =
    one_then object (init_tree init) (inits_from (drop (k + 1) inits)) work
    ∙ ap (λ x. init_items object (init_tree x ∷ inits_from (drop (k + 1) inits)) work) is
    ∙ sym (ap (λ list. init_items object (inits_from list) work) (drop_more inits k init below))
