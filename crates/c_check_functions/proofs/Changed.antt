-- A function of the program that is changed.
use Rattle.std.proofs.Common.{◌≡◌, sym, ap, ◌∙◌, ℕ, ◌<◌, List, length, map, set, get_or, Some}
use Rattle.std.specs.Prelude.{Option, option_map, slice_get, unwrap_or}
use Rattle.std.proofs.lemmas.List.{map-set}
use Rattle.std.proofs.lemmas.Option.{slice_get-get_or, slice_get-map}
use Rattle.c_syntax.specs.declared.program.TFunction.{TFunction}
use Rattle.c_syntax.specs.Program.{TFunctionTree, tfunction_tree}

-- the list with it
pub with_changed : (functions : List TFunction) (n : ℕ) (old new : TFunction) (change : TFunctionTree → TFunctionTree) → n < length functions
    → old ≡ get_or functions n old → tfunction_tree new ≡ change (tfunction_tree old)
    → map tfunction_tree (set functions n new)
    ≡ unwrap_or (option_map (λ f. set (map tfunction_tree functions) n (change f)) (slice_get (map tfunction_tree functions) n)) (map tfunction_tree functions)
with_changed functions n old new change within is e =
    let all = map tfunction_tree functions in
    let there : slice_get functions n ≡ Some old = slice_get-get_or functions n old within ∙ ap Some (sym is) in
    map-set tfunction_tree functions n new ∙ ap (λ f. set all n f) e
    ∙ ap (λ (found : Option TFunctionTree). unwrap_or (option_map (λ f. set all n (change f)) found) all)
    (sym (slice_get-map tfunction_tree functions n ∙ ap (option_map tfunction_tree) there))
