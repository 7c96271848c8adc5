use Rattle.std.proofs.Common.{subst, sym}
use Rattle.std.proofs.lemmas.Result.{IfOk-weaker}
use Rattle.block_mem.specs.declared.types.Scalar.TheVariants as scalars
use Rattle.mem_cell_loads.specs.Found.{IsSetAt}
use Rattle.mem_cell_loads.proofs.Cells.{fill-set}
use Rattle.mem_cell_loads.proofs.reading.fill_set.Goals as goal

pub returns : goal.returns
returns g c =
    let admits = g.D.Oracle.admits in let known = c.args.known.now in let o = c.args.object in let at = c.args.at in
    IfOk-weaker c.null_set.result _ _ (λ s is there. subst (IsSetAt admits known o at scalars.Pointer) (sym is) (fill-set admits known o at c.args.x c.proper-proper.ensures.bits there)) c.null_set.ensures
