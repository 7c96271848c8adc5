use Rattle.std.proofs.Common.{ap, sym, ◌∙◌}
use Rattle.std.specs.Prelude.{None, option_map}
use Rattle.c_syntax.specs.Types.{ctype_tree}
use Rattle.c_syntax.specs.TypedExpr.{texpr_tree, tlvalue_tree}
use Rattle.c_syntax.specs.declared.op.Op.TheVariants as ops
use Rattle.c_typing.specs.Nodes as typing
use Rattle.c_typing.specs.Rows as rows
use Rattle.c_typing.specs.World.{no_rule, Refused}
use Rattle.c_check_names.proofs.Steps.{refused}
use Rattle.c_check_nodes.proofs.nodes.arrow.Goals as goal

pub returns-in-None : goal.returns-in-None
returns-in-None c w same =
    let e = texpr_tree c.args.e in
    let t = ctype_tree c.in_ok-ty.ty in
    let row = sym (ap (option_map tlvalue_tree) c.in-None.is) ∙ c.in_ok-arrow_row.ensures
    ∙ ap (λ structs. rows.arrow_row structs c.args.pos c.args.name.now t e) (sym same)
    ∙ ap (λ ty. rows.arrow_row w.structs c.args.pos c.args.name.now ty e) c.in_ok-ty.ensures in
    refused c.no_rule.result (no_rule w c.args.pos ops.Arrow t None) _ (c.no_rule.ensures w same)
    (ap (λ ty. Refused (no_rule w c.args.pos ops.Arrow ty None)) c.in_ok-ty.ensures
    ∙ ap (λ n. typing.given_place (typing.no_row w c.args.pos ops.Arrow e) n w) row)
