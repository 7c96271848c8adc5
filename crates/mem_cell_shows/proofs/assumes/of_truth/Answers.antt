use Rattle.std.proofs.Common.{◌≡◌, subst, sym, true}
use Rattle.pointsets.specs.Targets.{has_base}
use Rattle.mem_cell_shows.proofs.assumes.of_truth.Goals as goal

pub returns-then-truth : goal.returns-then-truth
returns-then-truth c = λ b here some null. c.without_null.ensures b here (some c.if-truth.true)

pub returns-else-truth : goal.returns-else-truth
returns-else-truth c = λ b here some null.
    let is = null c.if-truth.false in
    subst (λ x. has_base c.null_of.result x ≡ true) (sym is) (c.null_of.ensures (subst (λ x. has_base c.args.set.now x ≡ true) is here))
