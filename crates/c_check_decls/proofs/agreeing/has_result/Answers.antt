use Rattle.std.proofs.Common.{ap, sym, ◌∙◌, Bor}
use Rattle.std.specs.Prelude.{option_map, unwrap_or}
use Rattle.c_syntax.specs.declared.types.CType.{CType}
use Rattle.c_syntax.specs.Types.{Void, ctype_tree}
use Rattle.c_syntax.proofs.TypeTrees.{ctype_void}
use Rattle.c_typing.specs.SameTypes.{is_same}
use Rattle.c_check_decls.proofs.agreeing.has_result.Goals as goal

pub returns-in-None : goal.returns-in-None
returns-in-None c =
    c.is_same.ensures ∙ ap (is_same (ctype_tree c.args.target.now)) ctype_void
    ∙ ap (λ ty. is_same (ctype_tree c.args.target.now) (unwrap_or ty Void)) (ap (option_map (λ (ty : Bor CType). ctype_tree ty.now)) (sym c.in-None.is) ∙ c.result_of.ensures)

pub returns-in-Some : goal.returns-in-Some
returns-in-Some c =
    c.is_same-in-Some.ensures
    ∙ ap (λ ty. is_same (ctype_tree c.args.target.now) (unwrap_or ty Void)) (ap (option_map (λ (ty : Bor CType). ctype_tree ty.now)) (sym c.in-Some.is) ∙ c.result_of.ensures)
