use Rattle.std.proofs.Common.{ℕ, List, subst, sym, ◌≤◌, length}
use Rattle.octagons_changes.proofs.Packing.{brought-length}
use Rattle.octagons_changes.proofs.relations.Relations.set.Goals as goal

pub redraw-requires : goal.redraw-requires
redraw-requires c = subst (λ (l : List ℕ). length l ≤ 24) (sym c.in_ok-pack.ensures) (brought-length c.args.x c.pack.result.now)
