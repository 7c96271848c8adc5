use Rattle.std.proofs.Common.{rules, sym, ◌≡◌, ◌∙◌, ap, arith}
use Rattle.bound_matrix.specs.Bound.{bound_at}
use Rattle.bound_matrix.proofs.Places.{entry-out}
use Rattle.octagons_bounds.specs.Flags.{no_bounds}
use Rattle.octagons_changes.specs.States.{OctagonView, no_relations}
use Rattle.octagons_changes.proofs.relations.Relations.bound.Goals as goal

pub returns-in-None-clause-value : goal.returns-in-None-clause-value
returns-in-None-clause-value c =
    let none : no_relations ≡ c.args.self.now = search rules in
    sym (entry-out 0 no_bounds.kept c.args.i c.args.j (λ a b. absurd (omega arith))) ∙ ap (λ (o : OctagonView). bound_at o.matrix c.args.i c.args.j) none
