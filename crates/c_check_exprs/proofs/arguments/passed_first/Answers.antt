use Rattle.std.proofs.Common.{◌≡◌, ap, sym, ◌∙◌}
use Rattle.std.specs.Prelude.{Option, Some, None, option_map}
use Rattle.std.proofs.lemmas.Option.{IfSome_then}
use Rattle.c_syntax.specs.declared.op.Op.TheVariants as ops
use Rattle.c_syntax.specs.Types.{ctype_tree}
use Rattle.c_syntax.specs.TypedExpr.{TExprTree, texpr_tree}
use Rattle.c_syntax.specs.TypedParts.{texpr_type}
use Rattle.c_typing.specs.World.{no_rule}
use Rattle.c_typing.specs.Rows.{store_row}
use Rattle.c_typing.specs.Nodes.{Fails, passed_one}
use Rattle.c_check_names.specs.Views.{refusal_of}
use Rattle.c_check_exprs.proofs.arguments.passed_first.Goals as goal

pub returns-in_ok-left-in-None : goal.returns-in_ok-left-in-None
returns-in_ok-left-in-None c w same =
    let param = ctype_tree c.args.param.now in
    let e = texpr_tree c.args.arg in
    let row : store_row param (texpr_type e) e ≡ None =
    sym (c.in_ok-value.ensures ∙ ap (λ ty. store_row param ty e) c.in_ok-ty.ensures) ∙ ap (option_map texpr_tree) c.in-None.is in
    IfSome_then (refusal_of c.no_rule.result) (c.no_rule.ensures w same)
    (λ r p rest. ap (λ (o : Option TExprTree). passed_one (no_rule w c.args.pos ops.Call param (Some (texpr_type e))) o rest) row
    ∙ sym (ap Fails (p ∙ ap (λ l. no_rule w c.args.pos ops.Call l (Some (ctype_tree c.in_ok-ty.ty))) c.in_ok-left-in-None.ensures
    ∙ ap (λ ty. no_rule w c.args.pos ops.Call param (Some ty)) c.in_ok-ty.ensures)))
