use Rattle.std.proofs.Common.{rules, ◌≡◌, ◌∙◌}
use Rattle.bound_matrix.specs.Bound.{bound_at}
use Rattle.bound_matrix.proofs.Places.{bound-mirror}
use Rattle.bound_matrix.proofs.halves.Half.get.Goals as goal

pub returns-clause-coherent : goal.returns-clause-coherent
returns-clause-coherent g c = let value : c.read_kept.result ≡ bound_at c.args.self.now c.args.i c.args.j = search rules in value ∙ bound-mirror c.args.self.now c.args.i c.args.j
