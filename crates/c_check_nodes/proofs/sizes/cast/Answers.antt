use Rattle.std.proofs.Common.{ap, sym, ◌∙◌}
use Rattle.std.specs.Prelude.{option_map}
use Rattle.c_syntax.specs.Types.{ctype_tree}
use Rattle.c_syntax.specs.TypedExpr.{texpr_tree}
use Rattle.c_typing.specs.Nodes as nodes
use Rattle.c_typing.specs.Rows as rows
use Rattle.c_check_names.proofs.Steps.{refused}
use Rattle.c_check_nodes.proofs.sizes.cast.Goals as goal

pub returns-in-None : goal.returns-in-None
returns-in-None c w is_const same =
    let target = ctype_tree c.args.target in
    let e = texpr_tree c.args.e in
    let row = sym (ap (option_map texpr_tree) c.in-None.is) ∙ c.in_ok-value.ensures ∙ ap (λ ty. rows.cast_row c.args.pos target ty e) c.in_ok-ty.ensures in
    refused c.no_cast.result (nodes.no_cast w c.args.pos target e) _ (c.no_cast.ensures w e same (sym c.in_ok-ty.ensures))
    (ap (λ n. nodes.given (nodes.no_cast w c.args.pos target e) n w) row)
