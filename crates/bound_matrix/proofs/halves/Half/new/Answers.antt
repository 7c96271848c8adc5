use Rattle.bound_matrix.proofs.Places.{none-kept, none-in}
use Rattle.bound_matrix.proofs.halves.Half.new.Goals as goal

pub invariant_of-result : goal.invariant_of-result
invariant_of-result c = none-kept c.args.vars c.in_ok-kept.kept.items (c.in_ok-kept.ensures.items_if_clones_equal (λ y e. e)) c.requires

pub returns-clause-none : goal.returns-clause-none
returns-clause-none c = none-in c.args.vars c.in_ok-kept.kept.items (c.in_ok-kept.ensures.items_if_clones_equal (λ y e. e))
