use mir.Syntax.{w128}
use mir.Val.{to_z, of_z}
use Rattle.std.proofs.Common.{arith, refl}
use Rattle.std.proofs.lemmas.Int.{ints}
use Rattle.bound_matrix.specs.Bound.{bound_at}
use Rattle.bound_matrix.proofs.Promises.{was-tight, lowered-small, none-small}
use Rattle.tests_layers.proofs.matrices.closed_after.Goals as goal

pub close_one-requires-clause-lowered : goal.close_one-requires-clause-lowered
close_one-requires-clause-lowered c = was-tight c.lower.new.self c.close.new.m c.lower-in-Live.new.self c.args.second.0 c.args.second.1 _
    (c.in-Live.ensures.tight refl (lowered-small c.args.first.0 c.args.first.1 (to_z w128 (of_z w128 c.args.first.2)) (bound_at c.in_ok-m.m) (bound_at c.lower.new.self) (let s = c.requires.first.2 in (omega (arith, ints), omega (arith, ints))) c.lower.ensures.lowered (none-small c.in_ok-m.m c.in_ok-m.ensures.none)))
    c.in-Live.ensures.vars c.lower-in-Live.ensures.vars c.lower-in-Live.ensures.lowered
