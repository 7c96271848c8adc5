use Rattle.std.proofs.Common.{ap, ◌∙◌}
use Rattle.std.specs.Prelude.{unwrap_or}
use Rattle.c_layout.specs.Kept.{kept}
use Rattle.c_layout.specs.Layout.{padded}
use Rattle.c_layout.proofs.Keeping.{kept_sum, kept-unwrap_or}
use Rattle.c_layout.proofs.layout.end_after.Goals as goal

pub returns : goal.returns
returns c at space e is =
    let start = c.padded_end.ensures.value at e ∙ ap (λ align. kept (padded at align)) is.align in
    let size = c.min-size.ensures ∙ ap kept c.unwrap_or.ensures ∙ kept-unwrap_or c.args.room.size space.size is.size in
    kept_sum c.min.result c.padded_end.result c.min-size.result (padded at space.align) (unwrap_or space.size 0) c.min.ensures start size
