use Rattle.std.proofs.Common.{◌≡◌, ◌∙◌, [], ap, false, rules, sym}
use Rattle.pointsets.specs.Targets.{Among}
use Rattle.mem_cell_bytes.specs.Ends.{killed_all}
use Rattle.mem_cell_bytes.proofs.Sets.{nothing-killed}
use Rattle.mem_cell_bytes.proofs.shared_set.SharedSet.killed.Goals as goal

pub returns-in-None : goal.returns-in-None
returns-in-None c =
    let is : Among [] false false ≡ c.args.self.now = search rules in
    sym (nothing-killed c.args.gone.now) ∙ ap (λ s. killed_all s c.args.gone.now) is
