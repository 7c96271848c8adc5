use Rattle.std.proofs.Common.{◌≡◌, sym, ap, ◌∙◌}
use Rattle.std.specs.Prelude.{Some, None, option_map}
use Rattle.c_syntax.specs.declared.op.Op.TheVariants as ops
use Rattle.c_syntax.specs.Types.{CTypeTree, ctype_tree}
use Rattle.c_syntax.specs.TypedExpr.{texpr_tree}
use Rattle.c_syntax.specs.TypedParts.{texpr_type}
use Rattle.c_syntax.specs.TypedStmt.{TStmtTrees}
use Rattle.c_typing.specs.World.{Outcome, Refused, no_rule}
use Rattle.c_typing.specs.Rows.{store_row}
use Rattle.c_typing.specs.Stmts.{returned, returned_as}
use Rattle.c_check_names.proofs.Steps.{refused}
use Rattle.c_check_names.specs.Worlds.{world_of}
use Rattle.c_check_jumps.proofs.returns.returned.Goals as goal

pub returns-in-None : goal.returns-in-None
returns-in-None c =
    let w = world_of c.args.world.now in
    let at = c.args.at in
    let e = texpr_tree c.args.e in
    let target = ctype_tree c.args.target.now in
    let from = ctype_tree c.in_ok-from.from in
    let row : None ≡ store_row target (texpr_type e) e =
    ap (option_map texpr_tree) (sym c.in-None.is) ∙ c.in_ok-store_row.ensures ∙ ap (λ (ty : CTypeTree). store_row target ty e) c.in_ok-from.ensures in
    refused c.no_value.result (no_rule w at ops.Return target (Some from)) (returned w at target e) c.no_value.ensures
    (ap (λ (ty : CTypeTree). let out : Outcome TStmtTrees = Refused (no_rule w at ops.Return target (Some ty)) in out) c.in_ok-from.ensures
    ∙ ap (returned_as w at target e) row)
