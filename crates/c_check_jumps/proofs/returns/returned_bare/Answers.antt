use Rattle.std.proofs.Common.{sym, ap, ◌∙◌}
use Rattle.std.specs.Prelude.{None}
use Rattle.c_syntax.specs.declared.op.Op.TheVariants as ops
use Rattle.c_syntax.specs.Types.{ctype_tree}
use Rattle.c_syntax.specs.TypedStmt.{TStmtTree}
use Rattle.c_syntax.proofs.TypeTrees.{ctype_void, not_void}
use Rattle.c_typing.specs.World.{Typed, no_rule}
use Rattle.c_typing.specs.Stmts.{one, returned_bare}
use Rattle.c_check_names.proofs.Steps.{refused}
use Rattle.c_check_names.specs.Worlds.{world_of}
use Rattle.c_check_jumps.proofs.Bare.{bare_refused}
use Rattle.c_check_jumps.proofs.returns.returned_bare.Goals as goal

pub returns-in-Void : goal.returns-in-Void
returns-in-Void c =
    let w = world_of c.args.world.now in
    ap (λ (s : TStmtTree). Typed (one s) w) c.return_node.ensures ∙ ap (returned_bare w c.args.at) (sym (ap ctype_tree c.in-Void.is ∙ ctype_void))

pub returns-in_default : goal.returns-in_default
returns-in_default c =
    let w = world_of c.args.world.now in
    let ty = ctype_tree c.args.target.now in
    refused c.no_value.result (no_rule w c.args.at ops.Return ty None) (returned_bare w c.args.at ty) c.no_value.ensures
    (bare_refused w c.args.at ty (not_void c.args.target.now c.in_default.not-Void))
