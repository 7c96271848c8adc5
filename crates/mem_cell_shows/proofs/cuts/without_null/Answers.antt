use Rattle.std.proofs.Common.{◌≡◌, ◌∙◌, subst, true}
use Rattle.pointsets.specs.Targets.{has_base}
use Rattle.mem_cell_shows.proofs.cuts.without_null.Goals as goal

pub returns : goal.returns
returns c = λ b here some. c.common.ensures b here here (λ e. absurd (some e)) (λ e. c.holds.ensures ∙ subst (λ x. has_base c.args.set.now x ≡ true) e here)
