use Rattle.std.proofs.Common.{[], List, ap, sym, ◌∙◌, map, Bor}
use Rattle.std.specs.Prelude.{option_map, unwrap_or}
use Rattle.c_syntax.specs.declared.types.CType.{CType}
use Rattle.c_syntax.specs.Types.{ctype_tree}
use Rattle.c_typing.specs.SameTypes.{are_same}
use Rattle.c_check_decls.proofs.agreeing.has_params.Goals as goal

pub returns-in-None : goal.returns-in-None
returns-in-None c =
    c.takes_nothing.ensures
    ∙ ap (λ params. are_same (map ctype_tree c.args.params.now) (unwrap_or params []))
    (ap (option_map (λ (params : Bor (List CType)). map ctype_tree params.now)) (sym c.in-None.is) ∙ c.params_of.ensures)

pub returns-in-Some : goal.returns-in-Some
returns-in-Some c =
    c.are_same.ensures
    ∙ ap (λ params. are_same (map ctype_tree c.args.params.now) (unwrap_or params []))
    (ap (option_map (λ (params : Bor (List CType)). map ctype_tree params.now)) (sym c.in-Some.is) ∙ c.params_of.ensures)
