-- Names of functions, by their numbers.
use Rattle.std.proofs.Common.{◌≡◌, ◌∙◌, ℕ, List, [], Some, ap, map, slice_get}
use Rattle.std.specs.Prelude.{option_map, unwrap_or}
use Rattle.std.proofs.lemmas.Option.{slice_get-map}
use Rattle.c_syntax.specs.declared.program.TFunction.{TFunction}
use Rattle.c_syntax.specs.Program.{TFunctionTree, tfunction_tree}
use Rattle.report_alarms.specs.ReportText.{function_name}

abbrev pub names_of : List TFunction → List (List ℕ)
names_of fs = map (λ function. function.name) (map tfunction_tree fs)

named : (fs : List TFunction) (n : ℕ) → slice_get (names_of fs) n ≡ option_map (λ (f : TFunctionTree). f.name) (option_map tfunction_tree (slice_get fs n))
named fs n = slice_get-map (λ (f : TFunctionTree). f.name) (map tfunction_tree fs) n ∙ ap (option_map (λ (f : TFunctionTree). f.name)) (slice_get-map tfunction_tree fs n)

pub name_at : (fs : List TFunction) (n : ℕ) (f : TFunction) → slice_get fs n ≡ Some f → function_name (names_of fs) (Some n) ≡ f.name
name_at fs n f e = ap (λ o. unwrap_or o []) (named fs n ∙ ap (λ o. option_map (λ (f : TFunctionTree). f.name) (option_map tfunction_tree o)) e)
