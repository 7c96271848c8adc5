use Rattle.std.proofs.Common.{◌≡◌, subst, sym, true}
use Rattle.pointsets.specs.Targets.{has_base}
use Rattle.pointsets.proofs.Bases.{joined-left, joined-right}
use Rattle.mem_cell_shows.proofs.cuts.marked.Goals as goal

pub returns-clause-old : goal.returns-clause-old
returns-clause-old c = λ x h. subst (λ s. has_base s x ≡ true) (sym c.join-2.ensures) (joined-left c.args.set c.only.result x h)

pub returns-clause-new : goal.returns-clause-new
returns-clause-new c = λ is. subst (λ s. has_base s c.args.b ≡ true) (sym c.join-2.ensures) (joined-right c.args.set c.only.result c.args.b c.only.ensures)
