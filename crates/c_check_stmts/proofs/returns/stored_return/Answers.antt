use Rattle.std.proofs.Common.{sym, ap, ◌∙◌}
use Rattle.c_syntax.specs.Types.{CTypeTree}
use Rattle.c_syntax.specs.TypedExpr.{texpr_tree}
use Rattle.c_syntax.specs.TypedStmt.{tstmt_tree}
use Rattle.c_syntax.proofs.TypeTrees.{ctype_void}
use Rattle.c_typing.specs.Stmts.{one, returned}
use Rattle.c_check_jumps.specs.ContextViews.{result_in}
use Rattle.c_check_names.proofs.Steps.{so}
use Rattle.c_check_names.specs.Worlds.{world_of}
use Rattle.c_check_stmts.proofs.returns.stored_return.Goals as goal

pub returns-in-None : goal.returns-in-None
returns-in-None c =
    let w = world_of c.args.world.now in
    so (λ s. one (tstmt_tree s)) w c.returned.result
    (ap (λ (ty : CTypeTree). returned w c.args.at ty (texpr_tree c.args.x)) (ctype_void ∙ ap result_in (sym c.in-None.is))) c.returned.ensures

pub returns-in-Some : goal.returns-in-Some
returns-in-Some c =
    let w = world_of c.args.world.now in
    so (λ s. one (tstmt_tree s)) w c.returned-in-Some.result
    (ap (λ (ty : CTypeTree). returned w c.args.at ty (texpr_tree c.args.x)) (ap result_in (sym c.in-Some.is))) c.returned-in-Some.ensures
