use Rattle.std.proofs.Common.{ℕ, ◌≡◌, ◌<◌, get_or, true}
use Rattle.pointsets.specs.declared.Base.TheVariants.{Object}
use Rattle.pointsets.specs.Targets.{has_base}
use Rattle.mem_cell_shows.proofs.cuts.named_within.Given as goal

abbrev pub invariant-loop-n : goal.invariant-loop-n
invariant-loop-n l = (k : ℕ) → k < l.n-index → has_base l.within (Object (get_or l.names k 0)) ≡ true → has_base l.left (Object (get_or l.names k 0)) ≡ true
